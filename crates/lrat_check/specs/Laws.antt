-- What holds of the judgement of proofs, for callers that judge line by line.
use Rattle.std.specs.Prelude.{◌≡◌, false, List, [], ◌∷◌, ◌++◌, Err, IsOk}
use Rattle.lit_base.specs.Cnf.{Cnf}
use Rattle.lit_base.specs.Judgement.{judge, add_empty, checks}
use Rattle.lit_base.specs.declared.proof.Line.{Line}
use Rattle.lit_base.specs.declared.proof.ProofFault.{ProofFault}
use Rattle.lrat_check.specs.declared.checker.Checker.{Checker}
use Rattle.lrat_check.specs.Checking.{HasJudged}

-- what a checker has judged has no fault
abbrev pub JudgedLinesAreSound : Type 0
JudgedLinesAreSound = (cnf : Cnf) (checker : Checker) (lines : List Line) → HasJudged cnf checker lines → IsOk (judge cnf lines)

-- a proof doesn't check whose first fault stands on the line of its first empty lemma or before, whatever follows
abbrev pub FaultRefuses : Type 0
FaultRefuses = (cnf : Cnf) (lines rest : List Line) (line : Line) (fault : ProofFault) → add_empty lines ≡ false → judge cnf (lines ++ line ∷ []) ≡ Err fault →
    checks cnf (lines ++ line ∷ rest) ≡ false
