-- A core goes from one period to the next, and imports clauses there.
use Rattle.std.proofs.Common.{◌≡◌, ℕ, ◌+◌, ◌<◌, ◌≤◌, List, [], ◌∷◌, ◌++◌, append_assoc, append-nil, All, refl, ap, sym, ◌∙◌, subst, arith}
use Rattle.std.specs.Prelude.{⊤, None, map}
use Rattle.lit_base.specs.Literal.{IsWithin}
use Rattle.lit_base.specs.Cnf.{Cnf}
use Rattle.lit_base.specs.Trail.{level_now}
use Rattle.lit_base.specs.Rounds.{NamedClause}
use Rattle.lit_base.specs.Named.{lits_at}
use Rattle.lit_base.specs.Walk.{FindsMore}
use Rattle.lit_base.specs.declared.name.Name.{Name}
use Rattle.solo_core.specs.declared.sheet.Mail.{Mail}
use Rattle.solo_core.specs.declared.sheet.Posted.{Posted}
use Rattle.solo_core.specs.State.{CoreFrame, CoreState, lemma_name, lemma_clauses}
use Rattle.solo_core.specs.Turn.{look_of}
use Rattle.solo_core.specs.Changes.{with_added}
use Rattle.solo_core.specs.Period.{in_next_period, posted_clause, clauses_posted, with_more, core_after_import, ArePosts, AreMails, NoneOfOthers}
use Rattle.solo_core.specs.Soundness.{IsSound, HoldsFormula}
use Rattle.solo_core.proofs.Derived.{found_behind, others_not_found}
use Rattle.solo_core.proofs.SoundClauses.{added_sound, added_holds, fresh_with}

-- a name that isn't known, and is no lemma's of the period, isn't known when the period is over
unknown_after : (base : List NamedClause) (frame : CoreFrame) (state : CoreState) (name : Name) → IsSound base frame state → state.period ≤ name.period →
    ((place : ℕ) → name ≡ lemma_name state.period frame.core place → ⊥) → lits_at (base ++ lemma_clauses state.lemmas) name ≡ None
unknown_after base frame state name sound late other =
    found_behind base (lemma_clauses state.lemmas) name (sound.derives.fresh name late) ∙ others_not_found state.period frame.core state.lemmas name other sound.derives.named

-- a period may end: what it derived is known in the next
pub next_period_sound : (base : List NamedClause) (frame : CoreFrame) (state : CoreState) → IsSound base frame state → IsSound (base ++ lemma_clauses state.lemmas) frame (in_next_period state)
next_period_sound base frame state sound = record {
  holds = sound.holds;
  derives = record {
    carried = subst (λ known. FindsMore (look_of state) (lits_at known) (λ name. name)) (sym (append-nil (base ++ lemma_clauses state.lemmas))) sound.derives.carried;
    fresh = λ name late. unknown_after base frame state name sound (omega (arith, late))
        (λ place same. let e : name.period ≡ state.period = ap (λ n. n.period) same in omega (arith, late));
    named = tt;
    derived = tt;
    none_empty = tt;
    lemmas_distinct = tt;
    lemmas_within = tt;
  };
}

-- and no clause of another core has come in this period
pub next_period_others : (base : List NamedClause) (frame : CoreFrame) (state : CoreState) → IsSound base frame state → NoneOfOthers (base ++ lemma_clauses state.lemmas) state.period frame.core
next_period_others base frame state sound name now other =
    unknown_after base frame state name sound (omega (arith, now)) (λ place same. other (ap (λ n. n.core) same))

-- clauses of earlier periods, each new after those before it
abbrev pub AreNew : ℕ → ℕ → List NamedClause → List NamedClause → Type 0
AreNew variables period known [] = ⊤
AreNew variables period known (c ∷ later) =
    All (IsWithin variables) c.lits × (lits_at known c.name ≡ None) × (c.name.period < period) × AreNew variables period (known ++ c ∷ []) later

-- clauses are added one after the other
more_sound : (clauses base : List NamedClause) (frame : CoreFrame) (state : CoreState) → IsSound base frame state → level_now state.trail ≡ 0 → AreNew frame.variables state.period base clauses →
    IsSound (base ++ clauses) frame (with_more clauses state)
more_sound [] base frame state sound root new = subst (λ known. IsSound known frame state) (sym (append-nil base)) sound
more_sound (c ∷ later) base frame state sound root new =
    subst (λ known. IsSound known frame (with_more (c ∷ later) state)) (append_assoc base (c ∷ []) later)
    (more_sound later (base ++ c ∷ []) frame (with_added c state) (added_sound base frame state c sound root new.0 new.1 new.2) root new.3)

more_holds : (cnf : Cnf) (clauses base : List NamedClause) (frame : CoreFrame) (state : CoreState) → IsSound base frame state → level_now state.trail ≡ 0 → AreNew frame.variables state.period base clauses →
    HoldsFormula cnf state → HoldsFormula cnf (with_more clauses state)
more_holds cnf [] base frame state sound root new holds = holds
more_holds cnf (c ∷ later) base frame state sound root new holds =
    more_holds cnf later (base ++ c ∷ []) frame (with_added c state) (added_sound base frame state c sound root new.0 new.1 new.2) root new.3
    (added_holds cnf base frame state c sound new.1 new.2 holds)

-- no name of this period of another core, from this core on, is known
abbrev NoneOfOthersFrom : List NamedClause → ℕ → ℕ → ℕ → Type 0
NoneOfOthersFrom known period own core = (name : Name) → name.period ≡ period → (name.core ≡ own → ⊥) → core ≤ name.core → lits_at known name ≡ None

-- no name of this core and period, from this place on, is known
abbrev NoneAt : List NamedClause → ℕ → ℕ → ℕ → Type 0
NoneAt known period core place = (index : ℕ) → place ≤ index → lits_at known (lemma_name period core index) ≡ None

-- the posts of a mail are new, and so is what follows them
posts_new : (variables period own core place : ℕ) (posts : List Posted) (known rest : List NamedClause) → (core ≡ own → ⊥) → ArePosts variables period core place posts →
    NoneAt known period core place → NoneOfOthersFrom known period own (core + 1) →
    ((more : List NamedClause) → NoneOfOthersFrom more period own (core + 1) → AreNew variables (period + 1) more rest) →
    AreNew variables (period + 1) known (map posted_clause posts ++ rest)
posts_new variables period own core place [] known rest other posts here later further = further known later
posts_new variables period own core place (post ∷ posted) known rest other posts here later further = (
  posts.2,
  ap (λ name. lits_at known name) posts.1 ∙ here post.name.index posts.0,
  let now : post.name.period ≡ period = ap (λ n. n.period) posts.1 in omega arith,
  posts_new variables period own core (post.name.index + 1) posted (known ++ c ∷ []) rest other posts.4
      (λ index past. fresh_with known c (lemma_name period core index) (λ same. let e : post.name.index ≡ index = ap (λ n. n.index) same in omega (arith, past))
      (here index (omega (arith, past, posts.0))))
      (λ name now apart from. fresh_with known c name
      (λ same. let core_is : post.name.core ≡ core = ap (λ n. n.core) posts.1 in let e : post.name.core ≡ name.core = ap (λ n. n.core) same in omega (arith, from))
      (later name now apart from))
      further,
)
  where
    c : NamedClause
    c = posted_clause post

-- the clauses that mails post are new where nothing of another core has come in this period
mails_new : (variables period own core : ℕ) (mails : List Mail) (known : List NamedClause) → AreMails variables period own core mails →
    NoneOfOthersFrom known period own core → AreNew variables (period + 1) known (clauses_posted mails)
mails_new variables period own core [] known mails fresh = tt
mails_new variables period own core (mail ∷ later) known mails fresh =
    posts_new variables period own mail.core 0 mail.posted known (clauses_posted later) mails.1 mails.2
    (λ index past. fresh (lemma_name period mail.core index) refl mails.1 mails.0)
    (λ name now apart from. fresh name now apart (omega (arith, from, mails.0)))
    (λ more none. mails_new variables period own (mail.core + 1) later more mails.3 none)

-- what the mails post is new to a core whose period is over
pub imports_new : (base : List NamedClause) (frame : CoreFrame) (state : CoreState) (mails : List Mail) → NoneOfOthers base state.period frame.core → AreMails frame.variables state.period frame.core 0 mails →
    AreNew frame.variables (state.period + 1) base (clauses_posted mails)
imports_new base frame state mails others are = mails_new frame.variables state.period frame.core 0 mails base are (λ name now apart from. others name now apart)

-- an import keeps what is sound
pub import_sound : (base : List NamedClause) (frame : CoreFrame) (state : CoreState) (mails : List Mail) → IsSound base frame (in_next_period state) → NoneOfOthers base state.period frame.core →
    level_now state.trail ≡ 0 → AreMails frame.variables state.period frame.core 0 mails → IsSound (base ++ clauses_posted mails) frame (core_after_import mails state)
import_sound base frame state mails sound others root are = more_sound (clauses_posted mails) base frame (in_next_period state) sound root (imports_new base frame state mails others are)

-- and a formula that is held
pub import_holds : (cnf : Cnf) (base : List NamedClause) (frame : CoreFrame) (state : CoreState) (mails : List Mail) → IsSound base frame (in_next_period state) → NoneOfOthers base state.period frame.core →
    level_now state.trail ≡ 0 → AreMails frame.variables state.period frame.core 0 mails → HoldsFormula cnf state → HoldsFormula cnf (core_after_import mails state)
import_holds cnf base frame state mails sound others root are holds =
    more_holds cnf (clauses_posted mails) base frame (in_next_period state) sound root (imports_new base frame state mails others are) holds
