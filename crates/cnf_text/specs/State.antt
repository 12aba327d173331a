-- A reader, as contracts see it.
use Rattle.std.specs.Prelude.{ℕ, Option}
use Rattle.cnf_text.specs.declared.fault.CnfFault.{CnfFault}
use Rattle.cnf_text.specs.declared.scan.Scan.{Scan}

-- where it stands in the text, how many bytes it has taken, and the fault that it answers from now on, where it has met one
pub record ReaderState : Type 0 where
  pub scan : Scan
  pub read : ℕ
  pub fault : Option CnfFault
