-- Lemmas on steps that may fail.
use Rattle.std.proofs.Common.{◌≡◌, ◌∙◌, Result, Ok, Err}
use Rattle.cnf_text.specs.declared.fault.CnfFault.{CnfFault}
use Rattle.cnf_text.specs.declared.fault.CnfFault.TheVariants.{NoHeader, BadHeader, BadNumber, VariableAbove, TooManyClauses, TooFewClauses, Unclosed, OverLimit, TooLong, NoMemory}
use Rattle.cnf_text.specs.Faults.{OnFault, Judges, Gives}

-- what a fault owes follows from more
pub OnFault-weaker : (fault : CnfFault) (P Q : Type 0) → (P → Q) → OnFault fault P → OnFault fault Q
OnFault-weaker (NoHeader line) P Q f p = f p
OnFault-weaker (BadHeader line) P Q f p = f p
OnFault-weaker (BadNumber line) P Q f p = f p
OnFault-weaker (VariableAbove line) P Q f p = f p
OnFault-weaker (TooManyClauses line) P Q f p = f p
OnFault-weaker (TooFewClauses line) P Q f p = f p
OnFault-weaker (Unclosed line) P Q f p = f p
OnFault-weaker (OverLimit which line) P Q f p = f p
OnFault-weaker (TooLong line) P Q f p = f p
OnFault-weaker NoMemory P Q f p = tt

pub judges_same : {A S : Type 0} (r : Result A CnfFault) (after : S) (wanted same : Result S CnfFault) → same ≡ wanted → Judges r after wanted → Judges r after same
judges_same (Ok done) after wanted same is judged = is ∙ judged
judges_same (Err fault) after wanted same is judged = OnFault-weaker fault (wanted ≡ Err fault) (same ≡ Err fault) (λ e. is ∙ e) judged

pub gives_same : {A : Type 0} (r : Result A CnfFault) (wanted same : Result A CnfFault) → same ≡ wanted → Gives r wanted → Gives r same
gives_same (Ok value) wanted same is given = is ∙ given
gives_same (Err fault) wanted same is given = OnFault-weaker fault (wanted ≡ Err fault) (same ≡ Err fault) (λ e. is ∙ e) given
