-- Small texts of proofs, and what they are read as.
use Rattle.std.specs.Prelude.{ℕ, List, [], ◌∷◌, codes, None, Some}
use Rattle.lit_base.specs.declared.proof.Line.{Line}
use Rattle.lit_base.specs.Examples.{plain, negated, addition, ending, deletion}
use Rattle.lrat_text.specs.declared.fault.LineFault.{LineFault}
use Rattle.lrat_text.specs.Reading.{Steps}

-- these lines, and no fault
abbrev pub without_fault : List Line → Steps
without_fault lines = record { lines = lines; fault = None }

-- these lines, and then the fault
abbrev pub up_to : List Line → LineFault → Steps
up_to lines fault = record { lines = lines; fault = Some fault }

-- two lemmas, the second empty
abbrev pub two_lemmas : List ℕ
two_lemmas = codes "5 1 0 1 2 0\n6 0 5 3 4 0\n"

-- the lines of these
abbrev pub two_additions : List Line
two_additions = addition 1 5 (plain 1 ∷ []) (1 ∷ 2 ∷ []) ∷ ending 2 6 (5 ∷ 3 ∷ 4 ∷ []) ∷ []

-- a comment, a line of blanks, a deletion with leading zeros, tabs and CR, and a lemma without LF
abbrev pub odd_lines : List ℕ
odd_lines = codes "c 5 x\n \t\n007 d\t01 2  0 \r\n8 -2 3 0 7 0"

-- the lines of these
abbrev pub odd_steps : List Line
odd_steps = deletion 3 7 (1 ∷ 2 ∷ []) ∷ addition 4 8 (negated 2 ∷ plain 3 ∷ []) (7 ∷ []) ∷ []
