-- The mails of an era are what each core may import, and what they post is found behind what was known.
use Rattle.std.proofs.Common.{◌≡◌, ℕ, ◌+◌, ◌≤◌, ◌==◌, true, not, List, [], ◌∷◌, ◌++◌, length, ap, sym, subst, arith}
use Rattle.std.specs.Prelude.{map, filter}
use Rattle.std.specs.List.{AllByRecursion}
use Rattle.std.proofs.lemmas.Bool.{cond_both, eq-eqb, both_ways, not-true}
use Rattle.lit_base.specs.Cnf.{Cnf}
use Rattle.lit_base.specs.Trail.{level_now}
use Rattle.lit_base.specs.Rounds.{NamedClause}
use Rattle.lit_base.specs.Named.{lits_at}
use Rattle.lit_base.specs.Fits.{FindsAll}
use Rattle.solo_core.specs.State.{CoreFrame, CoreState, lemma_clauses}
use Rattle.solo_core.specs.Stretch.{stretch}
use Rattle.solo_core.specs.Posts.{is_posted, posted_of, posts_of}
use Rattle.solo_core.specs.Sheet.{mail_of}
use Rattle.solo_core.specs.Period.{posted_clause, clauses_posted, ArePosts, AreMails}
use Rattle.solo_core.specs.Soundness.{IsSound, HoldsFormula}
use Rattle.solo_core.specs.declared.lemma.Lemma.{Lemma}
use Rattle.solo_core.specs.declared.sheet.Mail.{Mail}
use Rattle.solo_core.specs.declared.sheet.Settings.{Settings}
use Rattle.solo_core.proofs.PostedLemmas.{lemmas_posts}
use Rattle.solo_core.proofs.StretchSound.{stretch_named, stretch_within, stretch_distinct}
use Rattle.crew.specs.Era.{Member, stretched, mail_at, mails_of, sheets_of, others}
use Rattle.crew.specs.Log.{parts_of}
use Rattle.crew.proofs.Parts.{ArePartsFound}
use Rattle.crew.proofs.Members.{HaveFrames, IsCounted}

-- what is known of a core at the start of an era
pub record IsMemberSound (cnf : Cnf) (known : List NamedClause) (m : Member) : Type 0 where
  pub sound : IsSound known m.frame m.state
  pub holds : HoldsFormula cnf m.state
  pub root : level_now m.state.trail ≡ 0

-- == what a core posts ==

-- the posts of a stretch have the names of its period and core
posts_are : (known : List NamedClause) (frame : CoreFrame) (quota : ℕ) (state : CoreState) → IsSound known frame state →
    ArePosts frame.variables state.period frame.core 0 (mail_of frame (stretch frame quota state)).posted
posts_are known frame quota state sound =
    lemmas_posts frame.variables state.period frame.core frame.share 0 (stretch frame quota state).state.lemmas (stretch_named known frame quota state sound)
    (stretch_within known frame quota state sound) (stretch_distinct known frame quota state sound)

-- they are found where all lemmas are
found_posts : (known : List NamedClause) (share : ℕ) (lemmas : List Lemma) → FindsAll (lits_at known) (lemma_clauses lemmas) → FindsAll (lits_at known) (map posted_clause (posts_of share lemmas))
found_posts known share [] all = tt
found_posts known share (lemma ∷ later) all =
    cond_both (is_posted share lemma) (lemma ∷ filter (is_posted share) later) (filter (is_posted share) later) (λ ls. FindsAll (lits_at known) (map posted_clause (map posted_of ls)))
    (λ posted. (all.0, found_posts known share later all.1)) (λ kept. found_posts known share later all.1)

-- and there are no more of them
few_posts : (share : ℕ) (lemmas : List Lemma) → length (posts_of share lemmas) ≤ length lemmas
few_posts share [] = omega arith
few_posts share (lemma ∷ later) =
    cond_both (is_posted share lemma) (lemma ∷ filter (is_posted share) later) (filter (is_posted share) later) (λ ls. length (map posted_of ls) ≤ length (lemma ∷ later))
    (λ posted. let fewer = few_posts share later in omega (arith, fewer)) (λ kept. let fewer = few_posts share later in omega (arith, fewer))

pub posts_few : (m : Member) → length (mail_at m).posted ≤ length (stretched m).state.lemmas
posts_few m = few_posts m.frame.share (stretched m).state.lemmas

-- == the mails of an era ==

-- mails from a core on are mails from a lower one on
mails_lower : (variables period own core low : ℕ) (mails : List Mail) → low ≤ core → AreMails variables period own core mails → AreMails variables period own low mails
mails_lower variables period own core low [] below mails = tt
mails_lower variables period own core low (mail ∷ later) below mails = (omega (arith, mails.0, below), mails.1, mails.2, mails.3)

not_same : (a b : ℕ) → not (a == b) ≡ true → a ≡ b → ⊥
not_same a b other same = both_ways (a == b) (not-true (a == b) other) (eq-eqb a b same)

-- the mails of the other cores are what a core may import
pub mails_are : (cnf : Cnf) (settings : Settings) (known : List NamedClause) (past own core : ℕ) (members : List Member) → HaveFrames cnf settings core members →
    AllByRecursion (IsCounted past) members → AllByRecursion (IsMemberSound cnf known) members → AreMails cnf.variables (past + 1) own core (others own (mails_of members))
mails_are cnf settings known past own core [] frames counted each = tt
mails_are cnf settings known past own core (m ∷ later) frames counted each =
    by_test (mails_are cnf settings known past own (core + 1) later frames.1 counted.1 each.1)
  where
    core_is : m.frame.core ≡ core
    core_is = ap (λ (f : CoreFrame). f.core) frames.0

    posts : ArePosts cnf.variables (past + 1) m.frame.core 0 (mail_at m).posted
    posts =
        subst (λ variables. ArePosts variables (past + 1) m.frame.core 0 (mail_at m).posted) (ap (λ (f : CoreFrame). f.variables) frames.0)
        (subst (λ period. ArePosts m.frame.variables period m.frame.core 0 (mail_at m).posted) counted.0.period (posts_are known m.frame m.quota m.state each.0.sound))

    by_test : AreMails cnf.variables (past + 1) own (core + 1) (others own (mails_of later)) → AreMails cnf.variables (past + 1) own core (others own (mails_of (m ∷ later)))
    by_test further =
        cond_both (not (m.frame.core == own)) (mail_at m ∷ others own (mails_of later)) (others own (mails_of later)) (AreMails cnf.variables (past + 1) own core)
        (λ other. (
          omega (arith, core_is),
          not_same m.frame.core own other,
          posts,
          subst (λ c. AreMails cnf.variables (past + 1) own (c + 1) (others own (mails_of later))) (sym core_is) further,
        ))
        (λ own_mail. mails_lower cnf.variables (past + 1) own (core + 1) core (others own (mails_of later)) (omega arith) further)

found_append : (known first second : List NamedClause) → FindsAll (lits_at known) first → FindsAll (lits_at known) second → FindsAll (lits_at known) (first ++ second)
found_append known [] second one two = two
found_append known (c ∷ later) second one two = (one.0, found_append known later second one.1 two)

-- what the other cores post is found where all lemmas are
pub mails_found : (known : List NamedClause) (own : ℕ) (members : List Member) → ArePartsFound known (parts_of (sheets_of members)) → FindsAll (lits_at known) (clauses_posted (others own (mails_of members)))
mails_found known own [] found = tt
mails_found known own (m ∷ later) found =
    cond_both (not (m.frame.core == own)) (mail_at m ∷ others own (mails_of later)) (others own (mails_of later)) (λ mails. FindsAll (lits_at known) (clauses_posted mails))
    (λ other. found_append known (map posted_clause (mail_at m).posted) (clauses_posted (others own (mails_of later))) (found_posts known m.frame.share (stretched m).state.lemmas found.0) (mails_found known own later found.1))
    (λ own_mail. mails_found known own later found.1)
