-- A told file decides the answer, where no call failed and memory was found.
use Rattle.std.proofs.Common.{◌≡◌, ℕ, Bool, List, inl, inr, refl, ap, ◌∙◌, Option, Some, None, Ok, Err}
use Rattle.solo_core.specs.declared.sheet.Settings.{Settings}
use Rattle.crew.specs.Log.{log_text}
use Rattle.desk_io.specs.Told.{Rose}
use Rattle.desk_io.specs.declared.Slot.TheVariants.{Formula}
use Rattle.desk_io.specs.declared.Port.TheVariants.{Complaint}
use Rattle.cnf_text.specs.Reading.{formula_of}
use Rattle.job_words.specs.declared.job.Job.TheVariants.{Solve}
use Rattle.dp2ll.specs.declared.ending.ReadStop.{ReadStop}
use Rattle.dp2ll.specs.declared.ending.ReadStop.TheVariants as reading
use Rattle.dp2ll.specs.declared.ending.WriteStop.{WriteStop}
use Rattle.dp2ll.specs.declared.ending.WriteStop.TheVariants as writing
use Rattle.dp2ll.specs.declared.ending.Ending.{Ending}
use Rattle.dp2ll.specs.declared.ending.Ending.TheVariants.{Answered, Judged, Written, Usage, Unread, Unjudged, Unwritten, NoMemory}
use Rattle.dp2ll.specs.Ending.{read_status, write_status, status_of, complaint_of}
use Rattle.dp2ll.specs.Outcome.{answer_of}
use Rattle.dp2ll.specs.Logging.{LogTold, LogsFault}
use Rattle.dp2ll.specs.Answering.{CutsTexts}
use Rattle.dp2ll.specs.Complaint.{Tells, Complains}
use Rattle.dp2ll.specs.Reading.{StopsReading}
use Rattle.dp2ll.specs.Serving.{SolveCause, Serves}
use Rattle.dp2ll.specs.Headline.{Run, Headline, desk_before, desk_after, AnswersFile, IsComplete, IsCalm}
use Rattle.dp2ll.proofs.Whole.{KnowsReading, read_told, refused_told}

-- status 5 answers every file
at_five : (run : Run) (bytes : List ℕ) (log : Option (List ℕ)) (settings : Settings) (trace : Bool) → run.status ≡ 5 → AnswersFile (formula_of bytes) log settings trace run
at_five run bytes log settings trace five =
    elim (formula_of bytes) as (λ found. AnswersFile found log settings trace run) [ Ok cnf ↦ λ calm. inr five | Err fault ↦ inr five ]

-- a log that failed raised its count
log_rose : (log : Option (List ℕ)) (text : List ℕ) (before after : LogTold) → LogsFault log text before after → Rose before.port.faults after.port.faults
log_rose None text before after fault = absurd fault
log_rose (Some name) text before after fault = fault.rose

-- where no call on log or answer failed, texts were cut short for want of memory alone
calm_cut : (run : Run) (log : Option (List ℕ)) (log_bytes answer_bytes : List ℕ) (stop : WriteStop) → IsCalm run
    → CutsTexts log log_bytes answer_bytes (desk_before run).page (desk_after run).page stop → write_status stop ≡ 5
calm_cut run log log_bytes answer_bytes writing.LogFault calm cut =
    absurd (calm.log (log_rose log log_bytes (desk_before run).page.log (desk_after run).page.log cut.failed))
calm_cut run log log_bytes answer_bytes writing.AnswerFault calm cut = absurd (calm.answer cut.rose)
calm_cut run log log_bytes answer_bytes writing.NoMemory calm cut = refl

-- where reading stopped though no call on the slot failed, the file has that fault, or memory was refused
calm_read : KnowsReading → (run : Run) (bytes : List ℕ) (log held : Option (List ℕ)) (settings : Settings) (trace : Bool) (stop : ReadStop)
    → run.status ≡ read_status stop → held ≡ Some bytes
    → ¬ Rose (run.inputs_before.at Formula).faults (run.inputs_after.at Formula).faults
    → StopsReading held (run.inputs_before.at Formula) (run.inputs_after.at Formula) stop
    → Tells (complaint_of (Unread stop)) (run.before.at Complaint) (run.after.at Complaint) → AnswersFile (formula_of bytes) log settings trace run
calm_read laws run bytes log held settings trace (reading.NoFormula fault) status told calm stops tells =
    rw (refused_told laws bytes held (run.inputs_after.at Formula).left fault told stops) (inl (record { status = status; complaint = tells }))
calm_read laws run bytes log held settings trace reading.ReadFault status told calm stops tells = absurd (calm stops.rose)
calm_read laws run bytes log held settings trace reading.NoMemory status told calm stops tells = at_five run bytes log settings trace status

-- a `solve` that ended like this, with its own status, answers the file
solve_answers : KnowsReading → (run : Run) (file bytes : List ℕ) (log : Option (List ℕ)) (settings : Settings) (trace : Bool) (how : Ending)
    → run.status ≡ status_of how → run.inputs_before.held Formula file ≡ Some bytes
    → ¬ Rose (run.inputs_before.at Formula).faults (run.inputs_after.at Formula).faults
    → Tells (complaint_of how) (run.before.at Complaint) (run.after.at Complaint)
    → SolveCause file log settings trace (desk_before run) (desk_after run) how → AnswersFile (formula_of bytes) log settings trace run
solve_answers laws run file bytes log settings trace (Answered verdict) status told calm tells cause =
    rw (read_told laws.ends bytes (run.inputs_before.held Formula file) (run.inputs_after.at Formula).left cause.cnf told cause.read)
    (λ fine. inl (record { status = rw cause.answered.outcome status; texts = cause.answered.texts }))
solve_answers laws run file bytes log settings trace (Judged finding) status told calm tells cause = absurd cause
solve_answers laws run file bytes log settings trace Written status told calm tells cause = absurd cause
solve_answers laws run file bytes log settings trace Usage status told calm tells cause = absurd cause
solve_answers laws run file bytes log settings trace (Unread stop) status told calm tells cause =
    calm_read laws run bytes log (run.inputs_before.held Formula file) settings trace stop status told calm cause.stops tells
solve_answers laws run file bytes log settings trace (Unjudged stop) status told calm tells cause = absurd cause
solve_answers laws run file bytes log settings trace (Unwritten stop) status told calm tells cause =
    rw (read_told laws.ends bytes (run.inputs_before.held Formula file) (run.inputs_after.at Formula).left cause.cnf told cause.read)
    (λ fine. inr (status ∙ calm_cut run log (log_text cause.cnf settings) (answer_of cause.cnf settings trace) stop fine cause.stops))
solve_answers laws run file bytes log settings trace NoMemory status told calm tells cause = absurd cause

-- a run with a job that ended like this answers its file
serves_answers : KnowsReading → (run : Run) (file bytes : List ℕ) (log : Option (List ℕ)) (settings : Settings) (trace : Bool) (workers : ℕ) (how : Ending)
    → run.inputs_before.held Formula file ≡ Some bytes
    → ¬ Rose (run.inputs_before.at Formula).faults (run.inputs_after.at Formula).faults
    → Serves (Some (Solve file settings workers log trace)) (desk_before run) (desk_after run) how
    → Complains (complaint_of how) (status_of how) (run.before.at Complaint) (run.after.at Complaint) run.status
    → AnswersFile (formula_of bytes) log settings trace run
serves_answers laws run file bytes log settings trace workers how told calm serves (inr (five, front)) = at_five run bytes log settings trace five
serves_answers laws run file bytes log settings trace workers how told calm (inl solves) (inl (status, tells)) =
    solve_answers laws run file bytes log settings trace how status told calm tells solves.cause
serves_answers laws run file bytes log settings trace workers how told calm (inr gives_up) (inl (status, tells)) =
    at_five run bytes log settings trace (status ∙ ap (λ (h : Ending). status_of h) gives_up.cause)

-- what a run promises decides the answer of a told file
pub complete : KnowsReading → (run : Run) → Headline run → IsComplete run
complete laws run h file log settings trace workers bytes job told calm =
    serves_answers laws run file bytes log settings trace workers h.how told calm (rw job at h.serves) h.complains
