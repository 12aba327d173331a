-- Which ending has a status.
use Rattle.std.proofs.Common.{◌≡◌, ◌⊎◌, ap, refl, arith, rules}
use Rattle.cnf_text.specs.declared.fault.CnfFault.{CnfFault}
use Rattle.crew.specs.declared.outcome.Verdict.TheVariants.{Sat, Unsat, Unknown}
use Rattle.dp2ll.specs.declared.ending.ReadStop.{ReadStop}
use Rattle.dp2ll.specs.declared.ending.ReadStop.TheVariants as reading
use Rattle.dp2ll.specs.declared.ending.ProofStop.TheVariants as proof
use Rattle.dp2ll.specs.declared.ending.WriteStop.TheVariants as writing
use Rattle.dp2ll.specs.declared.finding.Flaw.{Flaw}
use Rattle.dp2ll.specs.declared.finding.Finding.{Finding}
use Rattle.dp2ll.specs.declared.finding.Finding.TheVariants.{Verified, Flawed}
use Rattle.dp2ll.specs.declared.ending.Ending.{Ending}
use Rattle.dp2ll.specs.declared.ending.Ending.TheVariants.{Answered, Judged, Written, Usage, Unread, Unjudged, Unwritten, NoMemory}
use Rattle.dp2ll.specs.Ending.{read_status, finding_status, status_of}

-- a refusal of a file with the status of a fault has one
fault_at : (stop : ReadStop) → read_status stop ≡ 2 → (fault : CnfFault) × (stop ≡ reading.NoFormula fault)
fault_at (reading.NoFormula fault) two = (fault, refl)
fault_at reading.ReadFault two = absurd (omega arith)
fault_at reading.NoMemory two = absurd (omega arith)

-- 10 is the status of a model
pub at_ten : (how : Ending) → status_of how ≡ 10 → how ≡ Answered Sat
at_ten how ten = search rules

-- 20 is the status of a refutation
pub at_twenty : (how : Ending) → status_of how ≡ 20 → how ≡ Answered Unsat
at_twenty how twenty = search rules

-- 0 is the status of a run without an answer, of a proof that checks, and of a text that is written
pub at_zero : (how : Ending) → status_of how ≡ 0 → (how ≡ Answered Unknown) ⊎ ((how ≡ Judged Verified) ⊎ (how ≡ Written))
at_zero how zero = search rules

-- a finding with the status of a flaw has one
flaw_at : (finding : Finding) → finding_status finding ≡ 6 → (flaw : Flaw) × (finding ≡ Flawed flaw)
flaw_at Verified six = absurd (omega arith)
flaw_at (Flawed flaw) six = (flaw, refl)

-- 6 is the status of a proof that doesn't check
pub at_six : (how : Ending) → status_of how ≡ 6 → (flaw : Flaw) × (how ≡ Judged (Flawed flaw))
at_six (Answered verdict) six = absurd (search rules)
at_six (Judged finding) six = let m = flaw_at finding six in (m.0, ap (λ (f : Finding). Judged f) m.1)
at_six Written six = absurd (omega arith)
at_six Usage six = absurd (omega arith)
at_six (Unread stop) six = absurd (search rules)
at_six (Unjudged stop) six = absurd (search rules)
at_six (Unwritten stop) six = absurd (search rules)
at_six NoMemory six = absurd (omega arith)

-- 2 is the status of a file that is no formula
pub at_two : (how : Ending) → status_of how ≡ 2 → (fault : CnfFault) × (how ≡ Unread (reading.NoFormula fault))
at_two (Answered verdict) two = absurd (search rules)
at_two (Judged finding) two = absurd (search rules)
at_two Written two = absurd (omega arith)
at_two Usage two = absurd (omega arith)
at_two (Unjudged stop) two = absurd (search rules)
at_two (Unread stop) two = let m = fault_at stop two in (m.0, ap (λ (s : ReadStop). Unread s) m.1)
at_two (Unwritten stop) two = absurd (search rules)
at_two NoMemory two = absurd (omega arith)

-- 1 is the status of words that are no command line
pub at_one : (how : Ending) → status_of how ≡ 1 → how ≡ Usage
at_one how one = search rules

-- 3 is the status of a file that can't be read
pub at_three : (how : Ending) → status_of how ≡ 3 → (how ≡ Unread reading.ReadFault) ⊎ (how ≡ Unjudged proof.ReadFault)
at_three how three = search rules

-- 4 is the status of a log or an answer that can't be written
pub at_four : (how : Ending) → status_of how ≡ 4 → (how ≡ Unwritten writing.LogFault) ⊎ (how ≡ Unwritten writing.AnswerFault)
at_four how four = search rules
