use Rattle.std.proofs.Common.{rules}
use Rattle.dp2ll.proofs.Judged.{judged_to_next}
use Rattle.dp2ll.proofs.judge.judge_text.Goals as goal

-- one line more
pub loop-rest-preserved : goal.loop-rest-preserved
loop-rest-preserved c =
    judged_to_next c.args.reader.now c.args.checker.now c.loop-rest.reader c.judge_next.new.reader c.loop-rest.checker c.judge_next.new.checker
    c.args.text.now c.loop-rest.rest.now c.in_ok-taken.taken c.in_ok-taken.found c.loop-rest.invariant (search rules) c.in_ok-taken.ensures.next
