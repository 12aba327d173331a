use Rattle.std.proofs.Common.{◌∙◌, arith}
use Rattle.first_uip.proofs.Flagged.{flags_more, flags_all}
use Rattle.first_uip.proofs.Listed.{goes_on_further}
use Rattle.first_uip.proofs.marks.Marks.mark_all.Goals as goal

-- one more variable is marked
pub loop-lit-preserved : goal.loop-lit-preserved
loop-lit-preserved c = record {
  room = c.mark.ensures.room ∙ c.loop-lit.invariant.room;
  marks = λ marked are.
      flags_more c.args.lits.now c.loop-lit.lit-index c.var.result c.lit-item.result marked c.loop-lit.self.flags.items c.mark.new.self.flags.items
      (omega arith) c.lit-item.is c.var.ensures.value c.mark.ensures.flags (c.loop-lit.invariant.marks marked are);
  kept = goes_on_further c.args.self.now.marked.items c.loop-lit.self.marked.items c.mark.new.self.marked.items c.loop-lit.invariant.kept c.mark.ensures.kept;
  counted = c.mark.ensures.counted;
}

pub returns-clause-marks : goal.returns-clause-marks
returns-clause-marks c = λ marked are. flags_all c.args.lits.now c.loop-lit.lit-index marked c.loop-lit.self.flags.items (omega arith) (c.loop-lit.invariant.marks marked are)
