-- Which file and which port a refusal names, and that a told file that is no formula ends the run.
use Rattle.std.proofs.Common.{◌≡◌, ◌⊎◌, ◌∙◌, ℕ, Bool, List, inl, inr, refl, sym, ap, subst, arith, Option, Some, None, IsSome, Err}
use Rattle.lit_base.specs.Cnf.{Cnf}
use Rattle.desk_io.specs.Told.{InputsTold, SlotTold, Rose, raised}
use Rattle.desk_io.specs.declared.Slot.{Slot}
use Rattle.desk_io.specs.declared.Slot.TheVariants.{Formula, Proof}
use Rattle.desk_io.specs.declared.Port.TheVariants.{Complaint}
use Rattle.cnf_text.specs.declared.fault.CnfFault.{CnfFault}
use Rattle.cnf_text.specs.Reading.{formula_of}
use Rattle.solo_core.specs.declared.sheet.Settings.{Settings}
use Rattle.job_words.specs.declared.job.Job.{Job}
use Rattle.job_words.specs.declared.job.Job.TheVariants.{Solve, Check, Gen, Race}
use Rattle.dp2ll.specs.declared.ending.ReadStop.{ReadStop}
use Rattle.dp2ll.specs.declared.ending.ReadStop.TheVariants as reading
use Rattle.dp2ll.specs.declared.ending.ProofStop.{ProofStop}
use Rattle.dp2ll.specs.declared.ending.ProofStop.TheVariants as judging
use Rattle.dp2ll.specs.declared.ending.WriteStop.{WriteStop}
use Rattle.dp2ll.specs.declared.ending.WriteStop.TheVariants as writing
use Rattle.dp2ll.specs.declared.ending.Ending.{Ending}
use Rattle.dp2ll.specs.declared.ending.Ending.TheVariants.{Answered, Judged, Written, Usage, Unread, Unjudged, Unwritten, NoMemory}
use Rattle.dp2ll.specs.Ending.{read_status, write_status, status_of, complaint_of}
use Rattle.dp2ll.specs.Complaint.{Tells, Complains}
use Rattle.dp2ll.specs.Reading.{BeginsFormula, BeginsSlot, IsRead, StopsReading}
use Rattle.dp2ll.specs.Judging.{StopsJudging}
use Rattle.dp2ll.specs.Logging.{LogTold, LogsFault}
use Rattle.dp2ll.specs.Answering.{Page, CutsTexts}
use Rattle.dp2ll.specs.Serving.{Desk, SolveCause, CheckCause, GivesUp, ServesJob, Serves}
use Rattle.dp2ll.specs.Headline.{Run, Headline, desk_before, desk_after, EndsBy, IsToldFormula, ReadsTwo, ReadsFile, file_of, log_of, BeginsOnce, NamesFaulty, CannotReadFormula, CannotReadProof, CannotRead, GrowsByName, ReadsFormula, IsUnwrittenRun, RefusesFile, StopsAtFile, FaultyFileStops}
use Rattle.dp2ll.proofs.Whole.{KnowsReading, read_told, refused_told}

-- == slots are begun at most once ==

-- of the files of `check` the first is begun once
first_once : (file other : List ℕ) (before after : InputsTold) → ReadsTwo file other before after
    → BeginsOnce (Some file) (before.at Formula) (after.at Formula)
first_once file other before after two = by two.second
  where
    by : BeginsSlot Proof other two.between after ⊎ (after ≡ two.between) → BeginsOnce (Some file) (before.at Formula) (after.at Formula)
    by (inl begun) = inr (ap (λ (s : SlotTold). s.begins) begun.others ∙ two.first.begins)
    by (inr same) = inr (ap (λ (i : InputsTold). (i.at Formula).begins) same ∙ two.first.begins)

-- and the second at most once
second_once : (file other : List ℕ) (before after : InputsTold) → ReadsTwo file other before after
    → BeginsOnce (Some other) (before.at Proof) (after.at Proof)
second_once file other before after two = by two.second
  where
    by : BeginsSlot Proof other two.between after ⊎ (after ≡ two.between) → BeginsOnce (Some other) (before.at Proof) (after.at Proof)
    by (inl begun) = inr (begun.begins ∙ ap (λ (s : SlotTold). raised s.begins) two.first.others)
    by (inr same) = inl (ap (λ (i : InputsTold). (i.at Proof).begins) same ∙ ap (λ (s : SlotTold). s.begins) two.first.others)

-- a slot is begun at most once, where the job names a file for it
pub begins_once : (job : Option Job) (before after : InputsTold) → ReadsFile job before after → (slot : Slot)
    → BeginsOnce (file_of job slot) (before.at slot) (after.at slot)
begins_once None before after same slot = ap (λ (i : InputsTold). i.at slot) same
begins_once (Some (Solve file settings workers log trace)) before after (inl begun) Formula = inr begun.begins
begins_once (Some (Solve file settings workers log trace)) before after (inl begun) Proof = begun.others
begins_once (Some (Solve file settings workers log trace)) before after (inr same) Formula = inl (ap (λ (i : InputsTold). (i.at Formula).begins) same)
begins_once (Some (Solve file settings workers log trace)) before after (inr same) Proof = ap (λ (i : InputsTold). i.at Proof) same
begins_once (Some (Check file other)) before after (inl two) Formula = first_once file other before after two
begins_once (Some (Check file other)) before after (inl two) Proof = second_once file other before after two
begins_once (Some (Check file other)) before after (inr same) Formula = inl (ap (λ (i : InputsTold). (i.at Formula).begins) same)
begins_once (Some (Check file other)) before after (inr same) Proof = inl (ap (λ (i : InputsTold). (i.at Proof).begins) same)
begins_once (Some (Gen kind n seed)) before after same slot = ap (λ (i : InputsTold). i.at slot) same
begins_once (Some (Race kind n settings)) before after same slot = ap (λ (i : InputsTold). i.at slot) same

-- == a file that gave no formula ==

-- the job's file for the formula was begun, and reading it stopped like this; nothing was written
record StoppedReading (job : Option Job) (before after : Desk) (stop : ReadStop) : Type 0 where
  file : List ℕ
  named : file_of job Formula ≡ Some file
  begun : BeginsFormula file before.inputs after.inputs
  stops : StopsReading (before.inputs.held Formula file) (before.inputs.at Formula) (after.inputs.at Formula) stop
  untouched : after.page ≡ before.page

-- where a job ended so, its file did
stopped_reading : (job : Option Job) (before after : Desk) (stop : ReadStop) → ServesJob job before after (Unread stop)
    → StoppedReading job before after stop
stopped_reading None before after stop serves = absurd serves
stopped_reading (Some (Solve file settings workers log trace)) before after stop serves = record {
  file = file;
  named = refl;
  begun = serves.begun;
  stops = serves.cause.stops;
  untouched = serves.cause.untouched;
}
stopped_reading (Some (Check file other)) before after stop serves = record {
  file = file;
  named = refl;
  begun = subst (λ (i : InputsTold). BeginsFormula file before.inputs i) (sym serves.cause.no_more) serves.begun;
  stops = subst (λ (i : InputsTold). StopsReading (before.inputs.held Formula file) (before.inputs.at Formula) (i.at Formula) stop)
      (sym serves.cause.no_more) serves.cause.stops;
  untouched = serves.cause.untouched;
}
stopped_reading (Some (Gen kind n seed)) before after stop serves = absurd serves.cause
stopped_reading (Some (Race kind n settings)) before after stop serves = absurd serves.cause

-- the fault that the complaint names
pub names_faulty : KnowsReading → (run : Run) (fault : CnfFault) → EndsBy run (Unread (reading.NoFormula fault))
    → (file : List ℕ) × ((found : CnfFault) × NamesFaulty run file found)
names_faulty laws run fault ends =
    let stopped = stopped_reading run.job (desk_before run) (desk_after run) (reading.NoFormula fault) ends.serves in (
      stopped.file,
      (
        fault,
        record {
          named = stopped.named;
          stops = stopped.stops;
          told = λ bytes told. refused_told laws bytes (run.inputs_before.held Formula stopped.file) (run.inputs_after.at Formula).left fault told stopped.stops;
          complaint = ends.complaint;
        },
      ),
    )

-- reading the job's file failed
cannot_read : (run : Run) → EndsBy run (Unread reading.ReadFault) → (file : List ℕ) × CannotReadFormula run file
cannot_read run ends =
    let stopped = stopped_reading run.job (desk_before run) (desk_after run) reading.ReadFault ends.serves in
    (stopped.file, record { named = stopped.named; begun = stopped.begun.begun; stops = stopped.stops; complaint = ends.complaint })

-- == a proof that could not be read ==

-- the job's file for the formula was read as a formula, and judging its proof stopped like this
record StoppedJudging (job : Option Job) (before after : Desk) (stop : ProofStop) : Type 0 where
  file : List ℕ
  other : List ℕ
  cnf : Cnf
  left : Option (List ℕ)
  named : (file_of job Formula ≡ Some file) × (file_of job Proof ≡ Some other)
  read : IsRead (before.inputs.held Formula file) left cnf
  begun : (after.inputs.at Proof).begun ≡ before.inputs.held Proof other
  stops : StopsJudging cnf (before.inputs.held Proof other) (before.inputs.at Proof) (after.inputs.at Proof) stop

-- where a job ended so, its proof did
stopped_judging : (job : Option Job) (before after : Desk) (stop : ProofStop) → ServesJob job before after (Unjudged stop)
    → StoppedJudging job before after stop
stopped_judging None before after stop serves = absurd serves
stopped_judging (Some (Solve file settings workers log trace)) before after stop serves = absurd serves.cause
stopped_judging (Some (Check file other)) before after stop serves = record {
  file = file;
  other = other;
  cnf = serves.cause.cnf;
  left = (serves.between.at Formula).left;
  named = (refl, refl);
  read = serves.cause.begins.read;
  begun = serves.cause.begins.begun.begun ∙ ap (λ (h : Slot → List ℕ → Option (List ℕ)). h Proof other) serves.begun.held;
  stops = subst (λ (s : SlotTold). StopsJudging serves.cause.cnf (before.inputs.held Proof other) s (after.inputs.at Proof) stop)
      serves.begun.others serves.cause.stops;
}
stopped_judging (Some (Gen kind n seed)) before after stop serves = absurd serves.cause
stopped_judging (Some (Race kind n settings)) before after stop serves = absurd serves.cause

-- reading the job's proof failed
cannot_read_proof : KnowsReading → (run : Run) → EndsBy run (Unjudged judging.ReadFault)
    → (file : List ℕ) × ((other : List ℕ) × CannotReadProof run file other)
cannot_read_proof laws run ends =
    let stopped = stopped_judging run.job (desk_before run) (desk_after run) judging.ReadFault ends.serves in (
      stopped.file,
      (
        stopped.other,
        record {
          cnf = stopped.cnf;
          named = stopped.named;
          told = λ bytes told. read_told laws.ends bytes (run.inputs_before.held Formula stopped.file) stopped.left stopped.cnf told stopped.read;
          begun = stopped.begun;
          stops = stopped.stops;
          complaint = ends.complaint;
        },
      ),
    )

-- the file that the complaint names
pub names_slot : KnowsReading → (run : Run) → EndsBy run (Unread reading.ReadFault) ⊎ EndsBy run (Unjudged judging.ReadFault) → CannotRead run
names_slot laws run (inl ends) = inl (cannot_read run ends)
names_slot laws run (inr ends) = inr (cannot_read_proof laws run ends)

-- == what was read ==

-- the file was read as some formula
record ReadSome (before : Desk) (file : List ℕ) : Type 0 where
  cnf : Cnf
  left : Option (List ℕ)
  read : IsRead (before.inputs.held Formula file) left cnf

-- an ending of a file that gave no formula, or of one that was read
IsOfFile : Desk → List ℕ → Ending → Type 0
IsOfFile before file how = ((stop : ReadStop) × (how ≡ Unread stop)) ⊎ ReadSome before file

-- `solve` ended at its file, or has read it
solve_read : (file : List ℕ) (log : Option (List ℕ)) (settings : Settings) (trace : Bool) (before after : Desk) (how : Ending)
    → SolveCause file log settings trace before after how → IsOfFile before file how
unfolding IsOfFile
solve_read file log settings trace before after (Answered verdict) cause =
    inr (record { cnf = cause.cnf; left = (after.inputs.at Formula).left; read = cause.read })
solve_read file log settings trace before after (Judged finding) cause = absurd cause
solve_read file log settings trace before after Written cause = absurd cause
solve_read file log settings trace before after Usage cause = absurd cause
solve_read file log settings trace before after (Unread stop) cause = inl (stop, refl)
solve_read file log settings trace before after (Unjudged stop) cause = absurd cause
solve_read file log settings trace before after (Unwritten stop) cause =
    inr (record { cnf = cause.cnf; left = (after.inputs.at Formula).left; read = cause.read })
solve_read file log settings trace before after NoMemory cause = absurd cause

-- and so did `check`
check_read : (file other : List ℕ) (before : Desk) (between : InputsTold) (after : Desk) (how : Ending)
    → CheckCause file other before between after how → IsOfFile before file how
unfolding IsOfFile
check_read file other before between after (Answered verdict) cause = absurd cause
check_read file other before between after (Judged finding) cause =
    inr (record { cnf = cause.finds.cnf; left = (between.at Formula).left; read = cause.finds.begins.read })
check_read file other before between after Written cause = absurd cause
check_read file other before between after Usage cause = absurd cause
check_read file other before between after (Unread stop) cause = inl (stop, refl)
check_read file other before between after (Unjudged stop) cause =
    inr (record { cnf = cause.cnf; left = (between.at Formula).left; read = cause.begins.read })
check_read file other before between after (Unwritten stop) cause =
    inr (record { cnf = cause.finds.cnf; left = (between.at Formula).left; read = cause.finds.begins.read })
check_read file other before between after NoMemory cause = absurd cause

-- a command with a file ended at it, or has read it
job_read : (job : Option Job) (before after : Desk) (how : Ending) (file : List ℕ) → file_of job Formula ≡ Some file
    → ServesJob job before after how → IsOfFile before file how
job_read None before after how file named serves = absurd serves
job_read (Some (Solve own settings workers log trace)) before after how file named serves =
    let same : own ≡ file = cc in
    subst (λ (f : List ℕ). IsOfFile before f how) same (solve_read own log settings trace before after how serves.cause)
job_read (Some (Check own other)) before after how file named serves =
    let same : own ≡ file = cc in
    subst (λ (f : List ℕ). IsOfFile before f how) same (check_read own other before serves.between after how serves.cause)
job_read (Some (Gen kind n seed)) before after how file named serves = cc
job_read (Some (Race kind n settings)) before after how file named serves = cc

-- a told file that was read is a formula
told_formula : KnowsReading → (run : Run) (file : List ℕ) → (some : ReadSome (desk_before run) file) → IsToldFormula run file some.cnf
told_formula laws run file some bytes told = read_told laws.ends bytes (run.inputs_before.held Formula file) some.left some.cnf told some.read

-- == log and answer that could not be written ==

-- texts that failed to be written leave the name of the log
cut_names : (log : Option (List ℕ)) (log_bytes answer_bytes : List ℕ) (before after : Page) (stop : WriteStop) → write_status stop ≡ 4
    → CutsTexts log log_bytes answer_bytes before after stop → GrowsByName log before.log after.log
cut_names None log_bytes answer_bytes before after writing.LogFault four cut = absurd cut.failed
cut_names (Some name) log_bytes answer_bytes before after writing.LogFault four cut = (cut.failed.part.creates, cut.failed.part.names)
cut_names None log_bytes answer_bytes before after writing.AnswerFault four cut = cut.part.logged
cut_names (Some name) log_bytes answer_bytes before after writing.AnswerFault four cut = (cut.part.logged.creates, cut.part.logged.names)
cut_names log log_bytes answer_bytes before after writing.NoMemory four cut = absurd (omega arith)

-- the same of a job
job_names : (job : Option Job) (before after : Desk) (stop : WriteStop) → write_status stop ≡ 4 → ServesJob job before after (Unwritten stop)
    → GrowsByName (log_of job) before.page.log after.page.log
job_names None before after stop four serves = absurd serves
job_names (Some (Solve file settings workers log trace)) before after stop four serves =
    cut_names log _ _ before.page after.page stop four serves.cause.stops
job_names (Some (Check file other)) before after stop four serves = cut_names None _ _ before.page after.page stop four serves.cause.cut
job_names (Some (Gen kind n seed)) before after stop four serves = cut_names None _ _ before.page after.page stop four serves.cause
job_names (Some (Race kind n settings)) before after stop four serves = cut_names None _ _ before.page after.page stop four serves.cause

-- a log that failed was named, and its count of faults rose
log_failed : (log : Option (List ℕ)) (text : List ℕ) (before after : LogTold) → LogsFault log text before after
    → IsSome log × Rose before.port.faults after.port.faults
log_failed None text before after fault = absurd fault
log_failed (Some name) text before after fault = (refl, fault.rose)

-- the same of a job
job_log_failed : (job : Option Job) (before after : Desk) → ServesJob job before after (Unwritten writing.LogFault)
    → IsSome (log_of job) × Rose before.page.log.port.faults after.page.log.port.faults
job_log_failed None before after serves = absurd serves
job_log_failed (Some (Solve file settings workers log trace)) before after serves =
    log_failed log _ before.page.log after.page.log serves.cause.stops.failed
job_log_failed (Some (Check file other)) before after serves = absurd serves.cause.cut.failed
job_log_failed (Some (Gen kind n seed)) before after serves = absurd serves.cause.failed
job_log_failed (Some (Race kind n settings)) before after serves = absurd serves.cause.failed

-- an answer that failed raised its count of faults
job_answer_failed : (job : Option Job) (before after : Desk) → ServesJob job before after (Unwritten writing.AnswerFault)
    → Rose before.page.answer.faults after.page.answer.faults
job_answer_failed None before after serves = absurd serves
job_answer_failed (Some (Solve file settings workers log trace)) before after serves = serves.cause.stops.rose
job_answer_failed (Some (Check file other)) before after serves = serves.cause.cut.rose
job_answer_failed (Some (Gen kind n seed)) before after serves = serves.cause.rose
job_answer_failed (Some (Race kind n settings)) before after serves = serves.cause.rose

-- the file of a run whose log or answer failed is a formula
written_formula : KnowsReading → (run : Run) (stop : WriteStop) → EndsBy run (Unwritten stop) → ReadsFormula run
unfolding IsOfFile
written_formula laws run stop ends file named = by (job_read run.job (desk_before run) (desk_after run) (Unwritten stop) file named ends.serves)
  where
    by : ((other : ReadStop) × (Unwritten stop ≡ Unread other)) ⊎ ReadSome (desk_before run) file → (cnf : Cnf) × IsToldFormula run file cnf
    by (inl (other, same)) = cc
    by (inr some) = (some.cnf, told_formula laws run file some)

-- the port that the complaint names
pub names_port : KnowsReading → (run : Run) → EndsBy run (Unwritten writing.LogFault) ⊎ EndsBy run (Unwritten writing.AnswerFault) → IsUnwrittenRun run
names_port laws run (inl ends) =
    let failed = job_log_failed run.job (desk_before run) (desk_after run) ends.serves in
    record {
      port = inl (failed.0, record { rose = failed.1; complaint = ends.complaint });
      names = job_names run.job (desk_before run) (desk_after run) writing.LogFault refl ends.serves;
      formula = written_formula laws run writing.LogFault ends;
    }
names_port laws run (inr ends) = record {
  port = inr (record {
    rose = job_answer_failed run.job (desk_before run) (desk_after run) ends.serves;
    complaint = ends.complaint;
  });
  names = job_names run.job (desk_before run) (desk_after run) writing.AnswerFault refl ends.serves;
  formula = written_formula laws run writing.AnswerFault ends;
}

-- == a told file that is no formula ==

-- a file that was read is no faulty one
not_read : KnowsReading → (run : Run) (file bytes : List ℕ) (fault : CnfFault) → run.inputs_before.held Formula file ≡ Some bytes
    → formula_of bytes ≡ Err fault → ReadSome (desk_before run) file → ⊥
not_read laws run file bytes fault told faulty some = let read = told_formula laws run file some bytes told in cc

-- a run whose file stopped the reading, and whose complaint was told
stopped_at : KnowsReading → (run : Run) (file bytes : List ℕ) (fault : CnfFault) → file_of run.job Formula ≡ Some file
    → run.inputs_before.held Formula file ≡ Some bytes → formula_of bytes ≡ Err fault → (stop : ReadStop)
    → StoppedReading run.job (desk_before run) (desk_after run) stop → run.status ≡ read_status stop
    → Tells (complaint_of (Unread stop)) (run.before.at Complaint) (run.after.at Complaint)
    → RefusesFile fault run ⊎ (((run.status ≡ 3) × CannotReadFormula run file) ⊎ (run.status ≡ 5))
stopped_at laws run file bytes fault named told faulty (reading.NoFormula found) stopped status tells =
    let one : stopped.file ≡ file = (let own = stopped.named in cc) in
    let found_of = refused_told laws bytes (run.inputs_before.held Formula stopped.file) (run.inputs_after.at Formula).left found (rw one told) stopped.stops in
    let same : found ≡ fault = cc in
    inl (record {
      status = status;
      complaint = subst (λ (f : CnfFault). Tells (complaint_of (Unread (reading.NoFormula f))) (run.before.at Complaint) (run.after.at Complaint)) same tells;
    })
stopped_at laws run file bytes fault named told faulty reading.ReadFault stopped status tells =
    let one : stopped.file ≡ file = (let own = stopped.named in cc) in
    inr (inl (
      status,
      subst (λ (f : List ℕ). CannotReadFormula run f) one
          (record { named = stopped.named; begun = stopped.begun.begun; stops = stopped.stops; complaint = tells }),
    ))
stopped_at laws run file bytes fault named told faulty reading.NoMemory stopped status tells = inr (inr status)

-- how such a run ended
faulty_ended : KnowsReading → (run : Run) (file bytes : List ℕ) (fault : CnfFault) → file_of run.job Formula ≡ Some file
    → run.inputs_before.held Formula file ≡ Some bytes → formula_of bytes ≡ Err fault → (stop : ReadStop)
    → StoppedReading run.job (desk_before run) (desk_after run) stop
    → Complains (complaint_of (Unread stop)) (read_status stop) (run.before.at Complaint) (run.after.at Complaint) run.status
    → StopsAtFile run file fault
faulty_ended laws run file bytes fault named told faulty stop stopped (inl (status, tells)) = record {
  ended = stopped_at laws run file bytes fault named told faulty stop stopped status tells;
  untouched = stopped.untouched;
}
faulty_ended laws run file bytes fault named told faulty stop stopped (inr (five, front)) =
    record { ended = inr (inr five); untouched = stopped.untouched }

-- a command with such a file
faulty_served : KnowsReading → (run : Run) (how : Ending) (file bytes : List ℕ) (fault : CnfFault) → file_of run.job Formula ≡ Some file
    → run.inputs_before.held Formula file ≡ Some bytes → formula_of bytes ≡ Err fault
    → Complains (complaint_of how) (status_of how) (run.before.at Complaint) (run.after.at Complaint) run.status
    → ServesJob run.job (desk_before run) (desk_after run) how → StopsAtFile run file fault
unfolding IsOfFile
faulty_served laws run how file bytes fault named told faulty complains serves =
    by (job_read run.job (desk_before run) (desk_after run) how file named serves)
  where
    by : ((stop : ReadStop) × (how ≡ Unread stop)) ⊎ ReadSome (desk_before run) file → StopsAtFile run file fault
    by (inl (stop, same)) =
        faulty_ended laws run file bytes fault named told faulty stop
        (stopped_reading run.job (desk_before run) (desk_after run) stop
        (subst (λ (e : Ending). ServesJob run.job (desk_before run) (desk_after run) e) same serves))
        (subst (λ (e : Ending). Complains (complaint_of e) (status_of e) (run.before.at Complaint) (run.after.at Complaint) run.status) same complains)
    by (inr some) = absurd (not_read laws run file bytes fault told faulty some)

-- a run that gave up before its file
faulty_given_up : (run : Run) (how : Ending) (file : List ℕ) (fault : CnfFault)
    → Complains (complaint_of how) (status_of how) (run.before.at Complaint) (run.after.at Complaint) run.status
    → GivesUp (desk_before run) (desk_after run) how → StopsAtFile run file fault
faulty_given_up run how file fault (inl (status, tells)) gives_up = record {
  ended = inr (inr (status ∙ ap (λ (h : Ending). status_of h) gives_up.cause));
  untouched = ap (λ (d : Desk). d.page) gives_up.untouched;
}
faulty_given_up run how file fault (inr (five, front)) gives_up =
    record { ended = inr (inr five); untouched = ap (λ (d : Desk). d.page) gives_up.untouched }

-- a told file that is no formula ends the run
pub faulty_stops : KnowsReading → (run : Run) → Headline run → FaultyFileStops run
faulty_stops laws run h file bytes fault named told faulty = by run.job refl h.serves
  where
    by : (job : Option Job) → run.job ≡ job → Serves job (desk_before run) (desk_after run) h.how → StopsAtFile run file fault
    by None is refuses = cc
    by (Some job) is (inl serves) =
        faulty_served laws run h.how file bytes fault named told faulty h.complains (rw is serves)
    by (Some job) is (inr gives_up) = faulty_given_up run h.how file fault h.complains gives_up
