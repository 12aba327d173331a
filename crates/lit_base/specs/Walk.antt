-- Whether a lemma follows from its hints: reverse unit propagation along clauses that are given in order
-- (LRAT: Cruz-Filipe, Heule, Hunt, Kaufmann and Schneider-Kamp 2017).
use Rattle.std.specs.Prelude.{ℕ, ◌+◌, ◌≡◌, Bool, not, ◌||◌, List, [], ◌∷◌, map, Option, Some, None, if◌then◌else◌, find}
use Rattle.std.specs.List.{list_any, list_all}
use Rattle.lit_base.specs.Literal.{Literal, negation, same}
use Rattle.lit_base.specs.declared.proof.ClauseStatus.{ClauseStatus}
use Rattle.lit_base.specs.declared.proof.ClauseStatus.TheVariants.{Satisfied, Falsified, Implies, Unresolved}
use Rattle.lit_base.specs.declared.proof.Judged.{Judged}
use Rattle.lit_base.specs.declared.proof.Judged.TheVariants.{Follows, UnknownHint, NotUnit, NotFalsified}

-- whether the literal is among those held true
abbrev pub holds : List Literal → Literal → Bool
holds known l = list_any (λ k. same k l) known

-- whether its negation is
abbrev pub fails : List Literal → Literal → Bool
fails known l = holds known (negation l)

-- the status of a clause with no true literal, by its first literal that isn't false: it may have none, or one that is free
abbrev pub status_by : List Literal → List Literal → Option Literal → ClauseStatus
status_by known lits None = Falsified
status_by known lits (Some l) = if list_all (λ m. fails known m || same m l) lits then Implies l else Unresolved

-- a clause is satisfied where one of its literals is true, falsified where all are false,
-- and unit where all are false but one distinct literal, which is free
abbrev pub status_of : List Literal → List Literal → ClauseStatus
status_of known lits =
    if list_any (holds known) lits then Satisfied else status_by known lits (find (λ l. not (fails known l)) lits)

-- what the walk answers at a hint whose clause has this status; `later` is the walk over the hints after it
abbrev pub walk_at : ℕ → List Literal → ClauseStatus → (List Literal → Judged) → Judged
walk_at place known Satisfied later = later known
walk_at place known Falsified later = Follows
walk_at place known (Implies l) later = later (l ∷ known)
walk_at place known Unresolved later = NotUnit place

-- the hints in order, from this place on: a clause with a true literal changes nothing,
-- a unit one makes its literal true, and a falsified one ends the walk
abbrev pub walk : ℕ → List Literal → List (Option (List Literal)) → Judged
walk place known [] = NotFalsified
walk place known (None ∷ hints) = UnknownHint place
walk place known (Some lits ∷ hints) = walk_at place known (status_of known lits) (λ after. walk (place + 1) after hints)

-- whether a clause holds a literal and its negation
abbrev pub is_tautology : List Literal → Bool
is_tautology lits = list_any (fails lits) lits

-- a lemma with a literal and its negation follows; else its literals are made false, and the hints are walked
abbrev pub judgement_of : List Literal → List (Option (List Literal)) → Judged
judgement_of lemma hints = if is_tautology lemma then Follows else walk 1 (map negation lemma) hints

-- the lemma follows from its hints, by the clauses that `look` finds under their names
abbrev pub FollowsByHints : {N : Type 0} → (N → Option (List Literal)) → List Literal → List N → Type 0
FollowsByHints look lemma hints = judgement_of lemma (map look hints) ≡ Follows

-- whatever `look` finds under a name, `found` finds under the name's number
abbrev pub FindsMore : {N M : Type 0} → (N → Option (List Literal)) → (M → Option (List Literal)) → (N → M) → Type 0
FindsMore {N} look found number = (name : N) (lits : List Literal) → look name ≡ Some lits → found (number name) ≡ Some lits
