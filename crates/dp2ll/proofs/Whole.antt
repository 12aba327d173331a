-- Where the file is told, what was taken of it decides what the whole is.
use Rattle.std.proofs.Common.{◌≡◌, ◌⊎◌, ℕ, List, ◌++◌, ◌∙◌, ap, inl, inr, append-nil, Option, Some, None, Ok, Err}
use Rattle.std.specs.Io.KnownBytes.{prepend_known, IsAtEnd}
use Rattle.lit_base.specs.Cnf.{Cnf}
use Rattle.cnf_text.specs.declared.fault.CnfFault.{CnfFault}
use Rattle.cnf_text.specs.Reading.{formula_of, early_fault}
use Rattle.cnf_text.specs.Laws.{EarlyFaultStays, EndEndsInput}
use Rattle.dp2ll.specs.Reading.{IsWhole, IsRead, IsNoFormula, bytes_taken}

-- where bytes are told and nothing is left of them, all were taken
pub all_taken : (bytes taken : List ℕ) (held left : Option (List ℕ)) → held ≡ Some bytes → held ≡ prepend_known taken left → IsAtEnd left
    → bytes ≡ taken
all_taken bytes taken held None told rest end = cc
all_taken bytes taken held (Some more) told rest end = let nothing : taken ++ more ≡ taken = rw end (append-nil taken) in cc

-- where bytes are told, they are those that were taken and then others
pub some_taken : (bytes taken : List ℕ) (held left : Option (List ℕ)) → held ≡ Some bytes → held ≡ prepend_known taken left
    → (more : List ℕ) × (bytes ≡ taken ++ more)
some_taken bytes taken held None told rest = cc
some_taken bytes taken held (Some more) told rest = (more, (cc))

-- where bytes are told and reading stopped where it should, what was taken is read as the whole is
whole_read : EndEndsInput → (bytes taken : List ℕ) (held left : Option (List ℕ)) → held ≡ Some bytes → held ≡ prepend_known taken left
    → IsWhole taken left → formula_of bytes ≡ formula_of taken
whole_read ends bytes taken held left told rest (inl end) = ap formula_of (all_taken bytes taken held left told rest end)
whole_read ends bytes taken held left told rest (inr ended) =
    let parts = some_taken bytes taken held left told rest in
    rw parts.1 (ends taken parts.0 ended)

-- a told file that was read as a formula is that formula
pub read_told : EndEndsInput → (bytes : List ℕ) (held left : Option (List ℕ)) (cnf : Cnf) → held ≡ Some bytes → IsRead held left cnf
    → formula_of bytes ≡ Ok cnf
read_told ends bytes held left cnf told read = whole_read ends bytes (bytes_taken read.takes) held left told read.takes.rest read.whole ∙ read.formula

-- what the laws of reading say of bytes that follow others
pub record KnowsReading : Type 0 where
  pub stays : EarlyFaultStays
  pub ends : EndEndsInput

-- a told file that was refused for a fault has that fault
pub refused_told : KnowsReading → (bytes : List ℕ) (held left : Option (List ℕ)) (fault : CnfFault) → held ≡ Some bytes
    → IsNoFormula held left fault → formula_of bytes ≡ Err fault
refused_told laws bytes held left fault told refused =
    by laws bytes (bytes_taken refused.takes) held left fault told refused.takes.rest refused.found
  where
    by : KnowsReading → (bytes taken : List ℕ) (held left : Option (List ℕ)) (fault : CnfFault) → held ≡ Some bytes
        → held ≡ prepend_known taken left
        → (early_fault taken ≡ Some fault) ⊎ (IsWhole taken left × (formula_of taken ≡ Err fault)) → formula_of bytes ≡ Err fault
    by laws bytes taken held left fault told rest (inl early) =
        let parts = some_taken bytes taken held left told rest in
        rw parts.1 (laws.stays taken parts.0 fault early)
    by laws bytes taken held left fault told rest (inr (whole, found)) =
        whole_read laws.ends bytes taken held left told rest whole ∙ found
