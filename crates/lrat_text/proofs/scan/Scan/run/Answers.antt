use Rattle.std.proofs.Common.{sym, ◌∙◌, arith}
use Rattle.std.proofs.lemmas.Result.{err_from_is_err_and}
use Rattle.lrat_text.proofs.Running.{front_more, fault_behind}
use Rattle.lrat_text.proofs.scan.Scan.run.Goals as goal

-- a front more of the bytes
pub loop-at-preserved : goal.loop-at-preserved
loop-at-preserved c = record {
  reads = front_more c.args.self.now c.loop-at.self c.advance.new.self c.args.bytes.now c.loop-at.at c.in_ok-at.field-0 c.loop-at.invariant.reads (sym c.is_ready.ensures ∙ c.if-not-is_ready.true) c.in_ok-at.ensures.reads;
  within = omega (arith, c.in_ok-at.ensures.within);
  lines = omega (arith, c.in_ok-at.ensures.lines);
  first = λ none. absurd (omega (arith, c.in_ok-at.ensures.some));
}

-- a fault in what is left of them
pub returns-in_err-at-clause-reads : goal.returns-in_err-at-clause-reads
returns-in_err-at-clause-reads c =
    let p = err_from_is_err_and c.from_residual.result c.from_residual.ensures.1 in
    rw (p.1, p.2) (fault_behind c.args.self.now c.loop-at.self c.args.bytes.now c.loop-at.at c.in_err-at.field-0.0 c.loop-at.invariant.reads (sym c.is_ready.ensures ∙ c.if-not-is_ready.true) c.in_err-at.ensures.reads)
