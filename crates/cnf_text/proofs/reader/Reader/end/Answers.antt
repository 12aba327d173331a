use Rattle.std.proofs.Common.{◌∙◌, ap, sym, subst}
use Rattle.cnf_text.specs.State.{ReaderState}
use Rattle.cnf_text.specs.Faults.{Gives}
use Rattle.cnf_text.specs.Machine.{ends_at}
use Rattle.cnf_text.proofs.Fed.{ended, no_fault_here}
use Rattle.cnf_text.proofs.reader.Reader.end.Goals as goal

pub returns-in-Some-clause-ends : goal.returns-in-Some-clause-ends
returns-in-Some-clause-ends c bytes read =
    absurd (no_fault_here c.args.self bytes c.in-Some.fault read (ap (λ (s : ReaderState). s.fault) (sym c.self.view_is) ∙ c.in-Some.is))

pub returns-in-None-clause-ends : goal.returns-in-None-clause-ends
returns-in-None-clause-ends c bytes read =
    ended c.args.self bytes c.end_scan.result read (subst (λ (s : ReaderState). Gives c.end_scan.result (ends_at s.scan)) c.self.view_is c.end_scan.ensures.value)
