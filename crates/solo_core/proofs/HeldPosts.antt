-- Clauses that mails post are held one after the other, each under a name that is free when its turn comes.
use Rattle.std.proofs.Common.{◌≡◌, ℕ, ◌+◌, ◌<◌, List, [], ◌∷◌, ◌++◌, length, get_or, drop, refl, ap, sym, ◌∙◌, subst, arith}
use Rattle.std.specs.Prelude.{map}
use Rattle.std.specs.List.{AllByRecursion, IsDistinct}
use Rattle.std.proofs.lemmas.List.{drop_more}
use Rattle.lit_base.specs.Literal.{same}
use Rattle.lit_base.specs.Trail.{level_now}
use Rattle.lit_base.specs.Rounds.{NamedClause}
use Rattle.lit_base.specs.Held.{HeldClause, clauses_of, unused, with_clause}
use Rattle.clause_pool.specs.Spans.{PoolState}
use Rattle.round_prop.specs.Spanned.{IsPlacedIn}
use Rattle.round_prop.specs.Attached.{RoundsState, IsAttachedTo}
use Rattle.solo_core.specs.declared.lemma.Lemma.{Lemma}
use Rattle.solo_core.specs.declared.sheet.Mail.{Mail}
use Rattle.solo_core.specs.declared.sheet.Posted.{Posted}
use Rattle.solo_core.specs.State.{CoreFrame, CoreState, SearchState}
use Rattle.solo_core.specs.Changes.{with_added}
use Rattle.solo_core.specs.Period.{in_next_period, posted_clause, clauses_posted, with_unused, AreNewTo, ArePosts, AreMails, NoneOfOthers}
use Rattle.solo_core.specs.Searching.{AreFewUses, IsJoined}
use Rattle.solo_core.specs.Soundness.{IsSound}
use Rattle.solo_core.proofs.CountedUses.{few_uses-with}
use Rattle.solo_core.proofs.Joined.{over_rounds}
use Rattle.solo_core.proofs.SoundClauses.{added_free, added_sound}
use Rattle.solo_core.proofs.NextPeriod.{AreNew, imports_new}

-- == clauses are held one after the other ==

-- of two parts of clauses the first is held before the second
with_unused-append : (first later : List NamedClause) (held : List HeldClause) → with_unused (first ++ later) held ≡ with_unused later (with_unused first held)
with_unused-append [] later held = refl
with_unused-append (c ∷ others) later held = with_unused-append others later (with_clause (unused c) held)

-- where two parts are new, the first is, and the second is after it
new_parts : (first later : List NamedClause) (held : List HeldClause) → AreNewTo held (first ++ later) → AreNewTo held first × AreNewTo (with_unused first held) later
new_parts [] later held new = (tt, new)
new_parts (c ∷ others) later held new = let parts = new_parts others later (with_clause (unused c) held) new.2 in ((new.0, new.1, parts.0), parts.1)

-- these clauses are left to be held: they are new, and with them what is held comes to this end
pub record AreLeft (end : List HeldClause) (clauses : List NamedClause) (held : List HeldClause) : Type 0 where
  pub new : AreNewTo held clauses
  pub same : with_unused clauses held ≡ end

-- a part of them is held
part_held : (end : List HeldClause) (first later : List NamedClause) (held after : List HeldClause) → AreLeft end (first ++ later) held → after ≡ with_unused first held → AreLeft end later after
part_held end first later held after left is = record {
  new = subst (λ held. AreNewTo held later) (sym is) (new_parts first later held left.new).1;
  same = ap (with_unused later) is ∙ (sym (with_unused-append first later held) ∙ left.same);
}

-- the item at this place, and those after it
rest_at : {X : Type 0} (xs : List X) (i : ℕ) (x : X) → i < length xs → x ≡ get_or xs i x → drop i xs ≡ x ∷ drop (i + 1) xs
rest_at xs i x within is = drop_more xs i x within ∙ ap (λ y. y ∷ drop (i + 1) xs) (sym is)

-- the posts from this place on are left
abbrev pub PostsLeft : List HeldClause → ℕ → List Posted → List HeldClause → Type 0
PostsLeft end i posts held = AreLeft end (map posted_clause (drop i posts)) held

pub posts_at : (end : List HeldClause) (posts : List Posted) (i : ℕ) (post : Posted) (held : List HeldClause) → i < length posts → post ≡ get_or posts i post → PostsLeft end i posts held →
    AreLeft end (posted_clause post ∷ map posted_clause (drop (i + 1) posts)) held
posts_at end posts i post held within is left = subst (λ rest. AreLeft end (map posted_clause rest) held) (rest_at posts i post within is) left

-- one more of them is held
pub post_held : (end : List HeldClause) (posts : List Posted) (i : ℕ) (post : Posted) (held after : List HeldClause) → i < length posts → post ≡ get_or posts i post → PostsLeft end i posts held →
    after ≡ with_clause (unused (posted_clause post)) held → PostsLeft end (i + 1) posts after
post_held end posts i post held after within is left held_is =
    part_held end (posted_clause post ∷ []) (map posted_clause (drop (i + 1) posts)) held after (posts_at end posts i post held within is left) held_is

-- the mails from this place on are left
abbrev pub MailsLeft : List HeldClause → ℕ → List Mail → List HeldClause → Type 0
MailsLeft end i mails held = AreLeft end (clauses_posted (drop i mails)) held

mails_at : (end : List HeldClause) (mails : List Mail) (i : ℕ) (mail : Mail) (held : List HeldClause) → i < length mails → mail ≡ get_or mails i mail → MailsLeft end i mails held →
    AreLeft end (map posted_clause mail.posted ++ clauses_posted (drop (i + 1) mails)) held
mails_at end mails i mail held within is left = subst (λ rest. AreLeft end (clauses_posted rest) held) (rest_at mails i mail within is) left

-- what the next of them posts is new
pub mail_new : (end : List HeldClause) (mails : List Mail) (i : ℕ) (mail : Mail) (held : List HeldClause) → i < length mails → mail ≡ get_or mails i mail → MailsLeft end i mails held →
    AreNewTo held (map posted_clause mail.posted)
mail_new end mails i mail held within is left =
    (new_parts (map posted_clause mail.posted) (clauses_posted (drop (i + 1) mails)) held (mails_at end mails i mail held within is left).new).0

-- and then held
pub mail_held : (end : List HeldClause) (mails : List Mail) (i : ℕ) (mail : Mail) (held after : List HeldClause) → i < length mails → mail ≡ get_or mails i mail → MailsLeft end i mails held →
    after ≡ with_unused (map posted_clause mail.posted) held → MailsLeft end (i + 1) mails after
mail_held end mails i mail held after within is left held_is =
    part_held end (map posted_clause mail.posted) (clauses_posted (drop (i + 1) mails)) held after (mails_at end mails i mail held within is left) held_is

-- == the search after them ==

-- clauses without uses keep the bound on the uses
few_uses-unused : (most : ℕ) (clauses : List NamedClause) (held : List HeldClause) → AreFewUses most held → AreFewUses most (with_unused clauses held)
few_uses-unused most [] held few = few
few_uses-unused most (c ∷ later) held few = few_uses-unused most later (with_clause (unused c) held) (few_uses-with most c held few)

-- the search after an import, with what it holds then, its emptied lemmas and what propagation keeps
abbrev pub after_imports : SearchState → PoolState → List Lemma → RoundsState → SearchState
after_imports s pool lemmas rounds =
    record s { state = record s.state { period = s.state.period + 1; clauses = pool.held; period_conflicts = 0; lemmas = lemmas }; added = pool.added; rounds = rounds }

pub imported_joined : (s : SearchState) (clauses : List NamedClause) (pool : PoolState) (lemmas : List Lemma) (rounds : RoundsState) → IsJoined s → pool.held ≡ with_unused clauses s.state.clauses →
    lemmas ≡ [] → rounds.variables ≡ s.rounds.variables → IsAttachedTo rounds (clauses_of pool.held) s.state.trail → IsPlacedIn rounds pool.added → IsJoined (after_imports s pool lemmas rounds)
imported_joined s clauses pool lemmas rounds joined is none same attached placed = record {
  over = over_rounds s.frame.variables s.state.saved s.rounds rounds s.analyser joined.over same;
  attached = attached;
  placed = placed;
  counts = record {
    uses = subst (AreFewUses s.state.conflicts) (sym is) (few_uses-unused s.state.conflicts clauses s.state.clauses joined.counts.uses);
    lemmas = let count = ap length none in omega (arith, count);
    period_conflicts = omega arith;
    limit = joined.counts.limit;
    few_conflicts = joined.counts.few_conflicts;
    row = joined.counts.row;
  };
  order = joined.order;
  pace = joined.pace;
}

-- == what mails of other cores post is new ==

-- the literals of each clause are distinct
abbrev HaveDistinctLits : List NamedClause → Type 0
HaveDistinctLits clauses = AllByRecursion (λ c. IsDistinct same c.lits) clauses

posts_distinct : (variables period core place : ℕ) (posts : List Posted) (rest : List NamedClause) → ArePosts variables period core place posts → HaveDistinctLits rest →
    HaveDistinctLits (map posted_clause posts ++ rest)
posts_distinct variables period core place [] rest posts distinct = distinct
posts_distinct variables period core place (post ∷ later) rest posts distinct = (posts.3, posts_distinct variables period core (post.name.index + 1) later rest posts.4 distinct)

mails_distinct : (variables period own core : ℕ) (mails : List Mail) → AreMails variables period own core mails → HaveDistinctLits (clauses_posted mails)
mails_distinct variables period own core [] mails = tt
mails_distinct variables period own core (mail ∷ later) mails =
    posts_distinct variables period mail.core 0 mail.posted (clauses_posted later) mails.2 (mails_distinct variables period own (mail.core + 1) later mails.3)

-- clauses that are new to what is known are new to what is held
clauses_new : (clauses base : List NamedClause) (frame : CoreFrame) (state : CoreState) → IsSound base frame state → level_now state.trail ≡ 0 → AreNew frame.variables state.period base clauses →
    HaveDistinctLits clauses → AreNewTo state.clauses clauses
clauses_new [] base frame state sound root new distinct = tt
clauses_new (c ∷ later) base frame state sound root new distinct = (
  added_free base frame state c sound new.1 new.2,
  distinct.0,
  clauses_new later (base ++ c ∷ []) frame (with_added c state) (added_sound base frame state c sound root new.0 new.1 new.2) root new.3 distinct.1,
)

-- so what the mails post is new to a core at level 0 whose period is over
pub mails_new_to : (base : List NamedClause) (frame : CoreFrame) (state : CoreState) (mails : List Mail) → IsSound base frame (in_next_period state) → NoneOfOthers base state.period frame.core →
    level_now state.trail ≡ 0 → AreMails frame.variables state.period frame.core 0 mails → AreNewTo state.clauses (clauses_posted mails)
mails_new_to base frame state mails sound others root are =
    clauses_new (clauses_posted mails) base frame (in_next_period state) sound root (imports_new base frame state mails others are) (mails_distinct frame.variables state.period frame.core 0 mails are)
