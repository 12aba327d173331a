use Rattle.std.proofs.Common.{ap, sym}
use Rattle.crew.specs.declared.outcome.Outcome.{Outcome}
use Rattle.crew.specs.Log.{log_text}
use Rattle.dp2ll.specs.Answering.{page_of}
use Rattle.dp2ll.specs.Outcome.{answer_of}
use Rattle.dp2ll.proofs.Answered.{both_written}
use Rattle.dp2ll.proofs.answer.answer.Goals as goal

-- log and answer are whole
pub returns-clause-answers : goal.returns-clause-answers
returns-clause-answers g c =
    let same = c.in_ok-outcome.ensures.outcome in
    record {
      outcome = sym (ap (λ (o : Outcome). o.verdict) same);
      backed = c.law_verdict_is_backed.ensures c.args.formula.now c.args.settings.now c.variables.ensures.formula c.requires.range;
      texts = both_written c.args.log.now (log_text c.args.formula.now c.args.settings.now) (answer_of c.args.formula.now c.args.settings.now c.args.trace)
          (page_of (g.O.Outputs.told c.args.outputs.now)) (page_of (g.O.Outputs.told c.run_logged.new.outputs))
          (page_of (g.O.Outputs.told c.say_outcome.new.outputs)) c.in_ok-outcome.ensures.log c.in_ok-outcome.ensures.answer
          c.in_ok-say_outcome.ensures.log (rw same at c.in_ok-say_outcome.ensures.answer);
    }
