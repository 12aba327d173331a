-- The log is written part by part: what was written before, and then a part, were written as one.
use Rattle.std.proofs.Common.{ℕ, Bool, true, false, List, ◌++◌, append_assoc, ap, sym, ◌∙◌}
use Rattle.std.specs.Prelude.{Result, Ok, Err}
use Rattle.desk_io.specs.declared.Port.TheVariants.{Log}
use Rattle.desk_io.specs.declared.PortFault.{PortFault}
use Rattle.desk_io.specs.declared.PortFault.TheVariants.{Failed, NoMemory}
use Rattle.desk_io.specs.Told.{OutputsTold}
use Rattle.desk_io.specs.Outputs.{WritesWhole}
use Rattle.desk_io.proofs.Written.{WritesWhole-then, WritesWhole-front, OnFailed-later}
use Rattle.log_merge.specs.Writing.{WritesPart}
use Rattle.log_merge.specs.declared.stop.Stop.{Stop}
use Rattle.log_merge.specs.declared.stop.Stop.TheVariants.{NoMemory as WantOfMemory, WriteFault}
use Rattle.crew.specs.Turns.{WritesLog}
use Rattle.crew.proofs.Texts.{IsFront}

-- the answer of a call that went well
abbrev pub fine : Result (Unit {0}) Stop
fine = Ok tt

-- a text that was written whole, and then a front of another
whole_then : {first second : List ℕ} {start mid after : OutputsTold} (result : Result (Unit {0}) PortFault) → WritesWhole Log first start mid (Ok tt) → WritesWhole Log second mid after result →
    WritesWhole Log (first ++ second) start after result
whole_then (Ok done) front back = WritesWhole-then front back
whole_then {first} {second} {start} {mid} {after} (Err fault) front back =
    WritesWhole-front back.written.rest (append_assoc first back.written.done back.written.rest ∙ ap (λ xs. first ++ xs) back.written.parts)
    (WritesWhole-then front (record { creates = back.creates; names = back.names; written = back.written.bytes; later = back.later; failed = tt; others = back.others }))
    (OnFailed-later (Err fault) (start.at Log).faults (mid.at Log).faults (after.at Log).faults front.later back.failed)

pub part_then : {first second : List ℕ} {start mid after : OutputsTold} (result : Result (Unit {0}) Stop) → WritesPart first start mid fine → WritesPart second mid after result →
    WritesPart (first ++ second) start after result
part_then result front back = whole_then _ front back

pub log_then : (log : Bool) (first second : List ℕ) (start mid after : OutputsTold) (result : Result (Unit {0}) Stop) → WritesLog log first start mid fine → WritesLog log second mid after result →
    WritesLog log (first ++ second) start after result
log_then true first second start mid after result front back = part_then result front back
log_then false first second start mid after result front back = (back.0 ∙ front.0, back.1)

-- where the writing stopped, it stopped in any longer text too
longer : (front text : List ℕ) (start after : OutputsTold) (fault : PortFault) → IsFront front text → WritesWhole Log front start after (Err fault) → WritesWhole Log text start after (Err fault)
longer front text start after fault is stopped =
    WritesWhole-front (stopped.written.rest ++ is.rest)
    (sym (append_assoc stopped.written.done stopped.written.rest is.rest) ∙ ap (λ xs. xs ++ is.rest) stopped.written.parts ∙ is.parts)
    (record { creates = stopped.creates; names = stopped.names; written = stopped.written.bytes; later = stopped.later; failed = tt; others = stopped.others }) stopped.failed

pub part_longer : (front text : List ℕ) (start after : OutputsTold) (stop : Stop) → IsFront front text → WritesPart front start after (Err stop) → WritesPart text start after (Err stop)
part_longer front text start after WantOfMemory is stopped = longer front text start after NoMemory is stopped
part_longer front text start after WriteFault is stopped = longer front text start after Failed is stopped

pub log_longer : (log : Bool) (front text : List ℕ) (start after : OutputsTold) (stop : Stop) → IsFront front text → WritesLog log front start after (Err stop) → WritesLog log text start after (Err stop)
log_longer true front text start after stop is stopped = part_longer front text start after stop is stopped
log_longer false front text start after stop is stopped = stopped

-- what was written is a front where memory runs out after it
pub log_refused : (log : Bool) (front text : List ℕ) (start after : OutputsTold) → IsFront front text → WritesLog log front start after fine → WritesLog log text start after (Err WantOfMemory)
log_refused true front text start after is written = WritesWhole-front is.rest is.parts written tt
log_refused false front text start after is written = (written.0, λ same. cc)
