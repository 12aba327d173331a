-- What answers owe.
use Rattle.lrat_text.specs.declared.fault.LineFault.{LineFault}
use Rattle.lrat_text.specs.declared.fault.LineFault.TheVariants.{BadToken, Unclosed, RatHint, LineTooLong, ProofTooLong, NoMemory}
use Rattle.lrat_text.specs.Faults.{OnFault}

-- what a fault owes follows from more
pub OnFault-weaker : (fault : LineFault) (P Q : Type 0) → (P → Q) → OnFault fault P → OnFault fault Q
OnFault-weaker (BadToken line) P Q f p = f p
OnFault-weaker (Unclosed line) P Q f p = f p
OnFault-weaker (RatHint line) P Q f p = f p
OnFault-weaker (LineTooLong line) P Q f p = f p
OnFault-weaker (ProofTooLong line) P Q f p = f p
OnFault-weaker NoMemory P Q f p = tt
