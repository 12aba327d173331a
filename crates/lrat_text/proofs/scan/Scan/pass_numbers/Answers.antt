use Rattle.std.proofs.Common.{arith}
use Rattle.std.proofs.lemmas.Bool.{ne_eqb}
use Rattle.std.proofs.lemmas.Result.{err_from_is_err_and}
use Rattle.lrat_text.proofs.Numerals.{ahead_length}
use Rattle.lrat_text.proofs.Running.{number_more, number_fault}
use Rattle.lrat_text.proofs.scan.Scan.pass_numbers.Goals as goal

-- a number more
pub loop-at-preserved : goal.loop-at-preserved
loop-at-preserved c = record {
  reads = number_more c.args.self.now c.loop-at.self c.step_number.new.self c.args.bytes.now c.loop-at.at c.in-Some.numeral c.loop-at.invariant.reads c.in-Some.ensures c.in_ok-step_number.ensures.judged;
  between = c.in_ok-step_number.ensures.between (ne_eqb c.in-Some.numeral.blank 10 c.if-numeral-eq10.false);
  within = omega (arith, ahead_length c.loop-at.self c.in-Some.numeral _ c.in-Some.ensures);
  lines = omega (arith, c.in_ok-step_number.ensures.lines);
  none = λ none. absurd (omega arith);
}

-- or the last of the line
pub returns-then-numeral-eq10-clause-reads : goal.returns-then-numeral-eq10-clause-reads
returns-then-numeral-eq10-clause-reads c =
    number_more c.args.self.now c.loop-at.self c.step_number.new.self c.args.bytes.now c.loop-at.at c.in-Some.numeral c.loop-at.invariant.reads c.in-Some.ensures c.in_ok-step_number.ensures.judged

-- or a fault
pub returns-in_err-step_number-clause-reads : goal.returns-in_err-step_number-clause-reads
returns-in_err-step_number-clause-reads c =
    let p = err_from_is_err_and c.from_residual.result c.from_residual.ensures.1 in
    rw (p.1, p.2) (number_fault c.args.self.now c.loop-at.self c.args.bytes.now c.loop-at.at c.in-Some.numeral c.in_err-step_number.field-0.0 c.loop-at.invariant.reads c.in-Some.ensures c.in_err-step_number.ensures.judged)
