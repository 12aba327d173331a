use Rattle.std.proofs.Common.{◌++◌}
use Rattle.dp2ll.proofs.Found.{next_judged, fault_found}
use Rattle.dp2ll.proofs.judge.judge_next.Goals as goal

-- the line was judged
pub returns-in_ok-judge_line-in-Ok-default-Some-clause-next :
    goal.returns-in_ok-judge_line-in-Ok-default-Some-clause-next
returns-in_ok-judge_line-in-Ok-default-Some-clause-next c = λ cnf bytes lines judging.
    next_judged c.ended_lines_stay.ensures c.read_bytes_are_sound.ensures cnf c.feed.new.self c.judge_line.new.checker bytes c.args.text.now
    c.in-Ok-default-Some.taken lines c.in-Ok-default-Some.line c.in_ok-judge_line-in-Ok-default-Some.field-0
    (rw c.in-Ok-default-Some.field-0-1-is at c.in-Ok-default-Some.ensures.feeds bytes lines judging.read) judging.unended
    (c.in_ok-judge_line-in-Ok-default-Some.ensures cnf lines judging.judged)

-- the reader met a fault
pub returns-in_ok-find_by_fault-in-Err-clause-next :
    goal.returns-in_ok-find_by_fault-in-Err-clause-next
returns-in_ok-find_by_fault-in-Err-clause-next c = λ cnf bytes lines judging.
    fault_found c.early_fault_stays.ensures c.law_judged_lines_are_sound.ensures cnf c.args.checker.now (bytes ++ c.args.text.now) lines
    c.in-Err.fault c.in_ok-find_by_fault-in-Err.field-0 (c.in-Err.ensures.feeds bytes lines judging.read).1 judging.judged judging.unended
    c.in_ok-find_by_fault-in-Err.ensures
