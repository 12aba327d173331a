-- How the running of cores ends, as the program has it.
use Rattle.std.specs.Prelude.{Result, Ok, Err}
use Rattle.log_merge.specs.declared.stop.Stop.{Stop}
use Rattle.log_merge.specs.declared.stop.Stop.TheVariants.{WriteFault, NoMemory as WantOfMemory}
use Rattle.crew.specs.declared.outcome.Outcome.{Outcome}
use Rattle.dp2ll.specs.declared.ending.WriteStop.{WriteStop}
use Rattle.dp2ll.specs.declared.ending.WriteStop.TheVariants.{LogFault, AnswerFault, NoMemory}

-- a run stopped by its log, or by want of memory
abbrev pub stop_of : Stop → WriteStop
stop_of WriteFault = LogFault
stop_of WantOfMemory = NoMemory

-- how running ended, without its outcome
abbrev pub without_outcome : Result Outcome WriteStop → Result (Unit {0}) WriteStop
without_outcome (Ok outcome) = Ok tt
without_outcome (Err stop) = Err stop

-- how writing the answer ended
abbrev pub answer_stop : Result (Unit {0}) Stop → Result (Unit {0}) WriteStop
answer_stop (Ok done) = Ok done
answer_stop (Err WriteFault) = Err AnswerFault
answer_stop (Err WantOfMemory) = Err NoMemory
