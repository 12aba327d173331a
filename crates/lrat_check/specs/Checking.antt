-- What a checker has judged, and what it answers.
use Rattle.std.specs.Prelude.{◌≡◌, ℕ, List, Option, None, IfSome, Result, Ok, Err, if◌then◌else◌}
use Rattle.lit_base.specs.Cnf.{Cnf}
use Rattle.lit_base.specs.Judgement.{Live, live_lits, judge, adds_empty}
use Rattle.lit_base.specs.declared.proof.Line.{Line}
use Rattle.lit_base.specs.declared.proof.LineStep.{LineStep}
use Rattle.lit_base.specs.declared.proof.ProofFault.{ProofFault}
use Rattle.lrat_check.specs.declared.fault.CheckFault.{CheckFault}
use Rattle.lrat_check.specs.declared.checker.Step.{Step}
use Rattle.lrat_check.specs.declared.checker.Step.TheVariants.{More, Empty}
use Rattle.lrat_check.specs.declared.checker.Checker.{Checker}
use Rattle.lrat_check.specs.Faults.{proof_fault}
use Rattle.lrat_check.specs.Clauses.{lits_at, AreWithin}

-- what is answered for a step that has no fault
abbrev pub step_of : LineStep → Step
step_of step = if adds_empty step then Empty else More

-- the fault that the checker has answered, and answers from now on
abbrev pub fault_of : Checker → Option CheckFault
fault_of checker = checker.fault

-- the checker has just the clauses that are live, each under its id, and has met no fault
pub record Holds (checker : Checker) (live : Live) : Type 0 where
  pub last : checker.last ≡ live.last
  pub found : (id : ℕ) → lits_at checker.clauses id ≡ live_lits live.clauses id
  pub within : AreWithin checker.clauses
  pub sound : fault_of checker ≡ None

-- the call leaves the checker with the live clauses that were wanted, or answers the fault that was wanted
abbrev pub GivesLive : {A : Type 0} → Checker → Result A CheckFault → Result Live ProofFault → Type 0
GivesLive checker (Ok done) wanted = (live : Live) × (wanted ≡ Ok live) × Holds checker live
GivesLive checker (Err fault) wanted = IfSome (proof_fault fault) (λ found. wanted ≡ Err found)

-- the checker of this formula has judged these lines, and none has a fault
unfoldable pub HasJudged : Cnf → Checker → List Line → Type 0
HasJudged cnf checker lines = (live : Live) × (judge cnf lines ≡ Ok live) × Holds checker live

-- what `line` leaves and answers, where `lines` are those so far with this one: it has judged them, or answers their fault
abbrev pub Judges : Cnf → Checker → List Line → Line → Result Step CheckFault → Type 0
Judges cnf checker lines line (Ok step) = HasJudged cnf checker lines × (step ≡ step_of line.step)
Judges cnf checker lines line (Err fault) = IfSome (proof_fault fault) (λ found. judge cnf lines ≡ Err found)
