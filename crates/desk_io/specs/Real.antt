-- What files and streams of the system tell: their counts, and nothing of their bytes.
use Rattle.std.specs.Prelude.{ℕ, List, Option, None}
use Rattle.desk_io.specs.declared.Slot.{Slot}
use Rattle.desk_io.specs.declared.real_inputs.OpenSlot.{OpenSlot}
use Rattle.desk_io.specs.declared.real_inputs.RealInputs.{RealInputs}
use Rattle.desk_io.specs.declared.real_outputs.RealOutputs.{RealOutputs}
use Rattle.desk_io.specs.Told.{SlotTold, InputsTold, OutputsTold, by_slot, by_port, counted_slot, told_port}

-- no slot tells what it holds under a name
abbrev pub nothing_held : Slot → List ℕ → Option (List ℕ)
nothing_held slot name = None

-- what a slot over a file tells
abbrev pub open_slot : OpenSlot → SlotTold
open_slot s = counted_slot s.begins s.faults

-- what files of the system tell
abbrev pub real_inputs_told : RealInputs → InputsTold
real_inputs_told s = record { held = nothing_held; at = by_slot (open_slot s.formula) (open_slot s.proof) }

-- what a log file and the streams of the system tell
abbrev pub real_outputs_told : RealOutputs → OutputsTold
real_outputs_told s = record {
  at = by_port (told_port None s.answer_faults) (told_port None s.log_faults) (told_port None s.complaint_faults);
  names = None;
  creates = s.creates;
}
