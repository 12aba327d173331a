-- The proof of one line that a conflict of propagation from the empty trail gives.
use Rattle.std.specs.Prelude.{ℕ, ◌+◌, List, [], ◌∷◌, length, map}
use Rattle.lit_base.specs.Literal.{Literal}
use Rattle.lit_base.specs.Cnf.{Cnf}
use Rattle.lit_base.specs.Named.{lits_at}
use Rattle.lit_base.specs.Rounds.{Propagated, propagate, originals}
use Rattle.lit_base.specs.Analysis.{lesson_of}
use Rattle.lit_base.specs.declared.name.Name.{Name}
use Rattle.lit_base.specs.declared.lesson.Lesson.{Lesson}
use Rattle.lit_base.specs.declared.proof.Line.{Line}
use Rattle.lit_base.specs.declared.proof.LineStep.TheVariants.{Add}

-- the id of an original clause: originals are numbered from 1
abbrev pub number_of_original : Name → ℕ
number_of_original name = name.index + 1

-- propagation of the clauses of a formula from the empty trail
abbrev pub propagated : Cnf → Propagated
propagated cnf = propagate cnf.variables (originals cnf) []

-- what a conflict of that propagation teaches
abbrev pub root_lesson : Cnf → Name → Lesson
root_lesson cnf conflict = lesson_of (lits_at (originals cnf)) (propagated cnf).trail conflict

-- a line that adds a lemma under an id, with the numbers of its hints
abbrev pub lemma_line : (Name → ℕ) → ℕ → ℕ → List Literal → List Name → Line
lemma_line number line id lits hints = record { line = line; step = Add id lits (map number hints) }

-- the proof of one line: it adds the empty lemma under the first id above the originals, with these hints
abbrev pub refutation_by : Cnf → List Name → List Line
refutation_by cnf hints = lemma_line number_of_original 1 (length cnf.clauses + 1) [] hints ∷ []

-- the proof of a conflict: that with the hints of its lesson
abbrev pub refutation_of : Cnf → Name → List Line
refutation_of cnf conflict = refutation_by cnf (root_lesson cnf conflict).hints
