-- Faults: what each says of the proof, and what a complaint of it tells.
use Rattle.std.specs.Prelude.{ℕ, List, codes, Option, Some, None}
use Rattle.lit_base.specs.declared.proof.ProofFault.{ProofFault}
use Rattle.lit_base.specs.declared.proof.ProofFault.TheVariants as proof
use Rattle.lrat_check.specs.declared.fault.CheckFault.{CheckFault}
use Rattle.lrat_check.specs.declared.fault.CheckFault.TheVariants.{IdNotRising, UnknownHint, NotUnit, NotFalsified, UnknownDelete, NoMemory}

-- the fault of the proof that is answered; want of memory is no fault of it
abbrev pub proof_fault : CheckFault → Option ProofFault
proof_fault (IdNotRising line) = Some (proof.IdNotRising line)
proof_fault (UnknownHint line place) = Some (proof.UnknownHint line place)
proof_fault (NotUnit line place) = Some (proof.NotUnit line place)
proof_fault (NotFalsified line) = Some (proof.NotFalsified line)
proof_fault (UnknownDelete line place) = Some (proof.UnknownDelete line place)
proof_fault NoMemory = None

-- the line of a fault
abbrev pub line_of : CheckFault → ℕ
line_of (IdNotRising line) = line
line_of (UnknownHint line place) = line
line_of (NotUnit line place) = line
line_of (NotFalsified line) = line
line_of (UnknownDelete line place) = line
line_of NoMemory = 0

-- the place of a fault on its line, where it has one
abbrev pub place_of : CheckFault → Option ℕ
place_of (IdNotRising line) = None
place_of (UnknownHint line place) = Some place
place_of (NotUnit line place) = Some place
place_of (NotFalsified line) = None
place_of (UnknownDelete line place) = Some place
place_of NoMemory = None

-- the name of a fault
abbrev pub name_of : CheckFault → List ℕ
name_of (IdNotRising line) = codes "IdNotRising"
name_of (UnknownHint line place) = codes "UnknownHint"
name_of (NotUnit line place) = codes "NotUnit"
name_of (NotFalsified line) = codes "NotFalsified"
name_of (UnknownDelete line place) = codes "UnknownDelete"
name_of NoMemory = codes "NoMemory"
