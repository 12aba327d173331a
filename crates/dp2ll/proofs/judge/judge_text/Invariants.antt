use Rattle.std.proofs.Common.{length}
use Rattle.dp2ll.specs.Judging.{HasJudgedTo}
use Rattle.dp2ll.proofs.judge.judge_text.Given as goal

-- what was passed of the text is judged
abbrev pub invariant-loop-rest : goal.invariant-loop-rest
invariant-loop-rest l = HasJudgedTo l.initial.reader l.initial.checker l.reader l.checker l.fn.text l.rest

abbrev pub decreases-loop-rest : goal.decreases-loop-rest
decreases-loop-rest l = length l.rest
