use Rattle.std.proofs.Common.{◌∙◌, ap, sym, refl, subst, Ok, Err}
use Rattle.lrat_text.specs.State.{ReaderState}
use Rattle.lrat_text.specs.Machine.{EndRead}
use Rattle.lrat_text.proofs.Fed.{ended_ok, ended_err, no_fault_here}
use Rattle.lrat_text.proofs.reader.LineReader.end.Goals as goal

pub returns-in-Some-clause-ends : goal.returns-in-Some-clause-ends
returns-in-Some-clause-ends c bytes lines has =
    absurd (no_fault_here c.args.self.now bytes lines c.in-Some.fault has (ap (λ (s : ReaderState). s.fault) (sym c.self.view_is) ∙ c.in-Some.is))

-- the last line, or none
pub returns-in-Ok-clause-ends : goal.returns-in-Ok-clause-ends
returns-in-Ok-clause-ends c bytes lines has =
    ended_ok c.args.self.now c.args.self.now bytes lines c.in-Ok.line has (subst (λ (s : ReaderState). EndRead s.scan (Ok c.in-Ok.line)) c.self.view_is c.in-Ok.ensures.judged)

pub returns-in-Err-clause-ends : goal.returns-in-Err-clause-ends
returns-in-Err-clause-ends c bytes lines has =
    (refl, ended_err c.args.self.now bytes lines c.in-Err.fault has (subst (λ (s : ReaderState). EndRead s.scan (Err c.in-Err.fault)) c.self.view_is c.in-Err.ensures.judged))
