-- How a run of the program can end, with the exit status and the complaint of each.
use Rattle.std.specs.Prelude.{ℕ, List, [], ◌++◌, codes, decimal, Option, Some, None}
use Rattle.cnf_text.specs.Faults.{line_of, name_of}
use Rattle.lrat_text.specs.Faults.{line_of as read_line, name_of as read_name}
use Rattle.lrat_check.specs.Faults.{line_of as judged_line, place_of, name_of as judged_name}
use Rattle.dp2ll.specs.declared.finding.Flaw.{Flaw}
use Rattle.dp2ll.specs.declared.finding.Flaw.TheVariants.{Misread, Misjudged, NoEmptyClause}
use Rattle.dp2ll.specs.declared.finding.Finding.{Finding}
use Rattle.dp2ll.specs.declared.finding.Finding.TheVariants.{Verified, Flawed}
use Rattle.crew.specs.declared.outcome.Verdict.{Verdict}
use Rattle.crew.specs.declared.outcome.Verdict.TheVariants.{Sat, Unsat, Unknown}
use Rattle.dp2ll.specs.declared.ending.ReadStop.{ReadStop}
use Rattle.dp2ll.specs.declared.ending.ReadStop.TheVariants as reading
use Rattle.dp2ll.specs.declared.ending.ProofStop.{ProofStop}
use Rattle.dp2ll.specs.declared.ending.ProofStop.TheVariants as proof
use Rattle.dp2ll.specs.declared.ending.WriteStop.{WriteStop}
use Rattle.dp2ll.specs.declared.ending.WriteStop.TheVariants as writing
use Rattle.dp2ll.specs.declared.ending.Ending.{Ending}
use Rattle.dp2ll.specs.declared.ending.Ending.TheVariants.{Answered, Judged, Written, Usage, Unread, Unjudged, Unwritten, NoMemory}

-- the exit status of a verdict, as the SAT competitions have it
abbrev pub verdict_status : Verdict → ℕ
verdict_status Sat = 10
verdict_status Unsat = 20
verdict_status Unknown = 0

-- the exit status where the file gave no formula
abbrev pub read_status : ReadStop → ℕ
read_status (reading.NoFormula fault) = 2
read_status reading.ReadFault = 3
read_status reading.NoMemory = 5

-- the exit status of what was found of a proof
abbrev pub finding_status : Finding → ℕ
finding_status Verified = 0
finding_status (Flawed flaw) = 6

-- the exit status where the proof was not judged
abbrev pub proof_status : ProofStop → ℕ
proof_status proof.ReadFault = 3
proof_status proof.NoMemory = 5

-- the exit status where log or answer were not written whole
abbrev pub write_status : WriteStop → ℕ
write_status writing.LogFault = 4
write_status writing.AnswerFault = 4
write_status writing.NoMemory = 5

-- the exit status
abbrev pub status_of : Ending → ℕ
status_of (Answered verdict) = verdict_status verdict
status_of (Judged finding) = finding_status finding
status_of Written = 0
status_of Usage = 1
status_of (Unread stop) = read_status stop
status_of (Unjudged stop) = proof_status stop
status_of (Unwritten stop) = write_status stop
status_of NoMemory = 5

-- the line that want of memory has
abbrev pub memory_complaint : List ℕ
memory_complaint = codes "dp2ll: out of memory\n"

-- the lines that words get that are no command line
abbrev pub usage_text : List ℕ
usage_text = codes "dp2ll: usage\ndp2ll: solve FILE [options] | check FILE PROOF | gen KIND N [options] | race KIND N [options]\n"

-- the line of a file that gave no formula
abbrev pub read_complaint : ReadStop → List ℕ
read_complaint (reading.NoFormula fault) = codes "dp2ll: formula line " ++ decimal (line_of fault) ++ codes ": " ++ name_of fault ++ codes "\n"
read_complaint reading.ReadFault = codes "dp2ll: cannot read formula\n"
read_complaint reading.NoMemory = memory_complaint

-- the answer to a proof
abbrev pub finding_text : Finding → List ℕ
finding_text Verified = codes "s VERIFIED\n"
finding_text (Flawed flaw) = codes "s NOT VERIFIED\n"

-- the place on a line, where a fault has one
abbrev pub place_text : Option ℕ → List ℕ
place_text None = []
place_text (Some place) = codes " at " ++ decimal place

-- the line of a proof that doesn't check
abbrev pub flaw_complaint : Flaw → List ℕ
flaw_complaint (Misread fault) = codes "dp2ll: proof line " ++ decimal (read_line fault) ++ codes ": " ++ read_name fault ++ codes "\n"
flaw_complaint (Misjudged fault) =
    codes "dp2ll: proof line " ++ decimal (judged_line fault) ++ codes ": " ++ judged_name fault ++ place_text (place_of fault) ++ codes "\n"
flaw_complaint NoEmptyClause = codes "dp2ll: proof has no empty clause\n"

-- the line that a finding has; a proof that checks has none
abbrev pub finding_complaint : Finding → Option (List ℕ)
finding_complaint Verified = None
finding_complaint (Flawed flaw) = Some (flaw_complaint flaw)

-- the line of a proof that was not judged
abbrev pub proof_complaint : ProofStop → List ℕ
proof_complaint proof.ReadFault = codes "dp2ll: cannot read proof\n"
proof_complaint proof.NoMemory = memory_complaint

-- the line of a log or an answer that was not written whole
abbrev pub write_complaint : WriteStop → List ℕ
write_complaint writing.LogFault = codes "dp2ll: cannot write log\n"
write_complaint writing.AnswerFault = codes "dp2ll: cannot write answer\n"
write_complaint writing.NoMemory = memory_complaint

-- the complaint of an ending; a verdict has none
abbrev pub complaint_of : Ending → Option (List ℕ)
complaint_of (Answered verdict) = None
complaint_of (Judged finding) = finding_complaint finding
complaint_of Written = None
complaint_of Usage = Some usage_text
complaint_of (Unread stop) = Some (read_complaint stop)
complaint_of (Unjudged stop) = Some (proof_complaint stop)
complaint_of (Unwritten stop) = Some (write_complaint stop)
complaint_of NoMemory = Some memory_complaint
