-- What holds of the definitions of trails, of propagation and of the analysis of conflicts.
use Rattle.std.specs.Prelude.{◌≡◌, ℕ, true, List, length, Option, None, All}
use Rattle.std.specs.List.{AllByRecursion}
use Rattle.lit_base.specs.Literal.{Literal, IsWithin}
use Rattle.lit_base.specs.Cnf.{Cnf, IsFormula}
use Rattle.lit_base.specs.Truth.{Satisfies}
use Rattle.lit_base.specs.declared.trail.Entry.{Entry}
use Rattle.lit_base.specs.declared.name.Name.{Name}
use Rattle.lit_base.specs.declared.lesson.Lesson.{Lesson}
use Rattle.lit_base.specs.Trail.{is_full, model_of}
use Rattle.lit_base.specs.Rounds.{NamedClause, originals, conflict_of, round, propagate}
use Rattle.lit_base.specs.Fits.{IsConflict, IsFitting}
use Rattle.lit_base.specs.Analysis.{lesson_of}

-- a trail that leaves no variable free and falsifies no clause gives a model of the formula
abbrev pub FullTrailSatisfies : Type 0
FullTrailSatisfies = (cnf : Cnf) (trail : List Entry) → IsFormula cnf → is_full cnf.variables trail ≡ true
    → conflict_of trail (originals cnf) ≡ None → Satisfies (model_of cnf.variables trail) cnf

-- one round more than there are variables always suffices: where propagation ends, another round changes nothing
abbrev pub RoundsSuffice : Type 0
RoundsSuffice = (variables : ℕ) (clauses : List NamedClause) (trail : List Entry) → All (λ c. All (IsWithin variables) c.lits) clauses
    → round clauses (propagate variables clauses trail).trail ≡ propagate variables clauses trail

-- the model that a trail gives n variables has n values
abbrev pub ModelHasEachValue : Type 0
ModelHasEachValue = (n : ℕ) (trail : List Entry) → length (model_of n trail) ≡ n

-- what holds of the lesson of each conflict on a fitting trail whose literals are within the variables
abbrev pub OfEachLesson : (ℕ → (Name → Option (List Literal)) → List Entry → Lesson → Type 0) → Type 0
OfEachLesson P = (variables : ℕ) (look : Name → Option (List Literal)) (trail : List Entry) (conflict : Name) → IsFitting look trail
    → AllByRecursion (λ e. IsWithin variables e.lit) trail → IsConflict look trail conflict → P variables look trail (lesson_of look trail conflict)
