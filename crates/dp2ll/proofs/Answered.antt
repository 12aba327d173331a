-- The log of a run and then its answer.
use Rattle.std.proofs.Common.{◌≡◌, ℕ, List, sym, inl, inr, Option, Ok, Err}
use Rattle.desk_io.specs.Outputs.{GrowsByFront}
use Rattle.dp2ll.specs.declared.ending.WriteStop.{WriteStop}
use Rattle.dp2ll.specs.declared.ending.WriteStop.TheVariants.{LogFault, AnswerFault, NoMemory}
use Rattle.dp2ll.specs.Logging.{LogTold, LogsWhole, KeepsLog}
use Rattle.dp2ll.specs.Answering.{Page, WritesBoth, IsCutInAnswer, CutsTexts, AnswersPort}

-- a run that stopped in its log leaves no answer
pub stopped_in_log : (log : Option (List ℕ)) (log_bytes answer_bytes : List ℕ) (before after : Page) (stop : WriteStop)
    → KeepsLog log log_bytes before.log after.log (Err stop) → after.answer ≡ before.answer
    → CutsTexts log log_bytes answer_bytes before after stop
stopped_in_log log log_bytes answer_bytes before after LogFault kept same = record { unanswered = same; failed = kept }
stopped_in_log log log_bytes answer_bytes before after AnswerFault kept same = absurd kept
stopped_in_log log log_bytes answer_bytes before after NoMemory kept same = inl (record { unanswered = same; part = kept })

-- the log of one page is that of another
same_log : (log : Option (List ℕ)) (log_bytes : List ℕ) (before now after : LogTold) → LogsWhole log log_bytes before now → after ≡ now
    → LogsWhole log log_bytes before after
same_log log log_bytes before now after whole same = rw same whole

-- the answer was cut short behind a whole log
cut_in_answer : (log : Option (List ℕ)) (log_bytes answer_bytes : List ℕ) (before now after : Page) → LogsWhole log log_bytes before.log now.log
    → now.answer ≡ before.answer → after.log ≡ now.log → GrowsByFront answer_bytes now.answer.written after.answer.written
    → IsCutInAnswer log log_bytes answer_bytes before after
cut_in_answer log log_bytes answer_bytes before now after whole same log_stays front = record {
  logged = same_log log log_bytes before.log now.log after.log whole log_stays;
  front = rw (sym same) front;
}

-- an answer that stopped leaves a whole log
pub stopped_in_answer : (log : Option (List ℕ)) (log_bytes answer_bytes : List ℕ) (before now after : Page) (stop : WriteStop)
    → LogsWhole log log_bytes before.log now.log → now.answer ≡ before.answer → after.log ≡ now.log
    → AnswersPort answer_bytes now.answer after.answer (Err stop) → CutsTexts log log_bytes answer_bytes before after stop
stopped_in_answer log log_bytes answer_bytes before now after LogFault whole same log_stays answers = absurd answers
stopped_in_answer log log_bytes answer_bytes before now after AnswerFault whole same log_stays answers = record {
  part = cut_in_answer log log_bytes answer_bytes before now after whole same log_stays answers.0;
  rose = rw (sym same) answers.1;
}
stopped_in_answer log log_bytes answer_bytes before now after NoMemory whole same log_stays answers =
    inr (cut_in_answer log log_bytes answer_bytes before now after whole same log_stays answers)

-- a whole log and a whole answer
pub both_written : (log : Option (List ℕ)) (log_bytes answer_bytes : List ℕ) (before now after : Page) → LogsWhole log log_bytes before.log now.log
    → now.answer ≡ before.answer → after.log ≡ now.log → AnswersPort answer_bytes now.answer after.answer (Ok tt)
    → WritesBoth log log_bytes answer_bytes before after
both_written log log_bytes answer_bytes before now after whole same log_stays answers = record {
  logged = same_log log log_bytes before.log now.log after.log whole log_stays;
  answered = rw (sym same) answers;
}
