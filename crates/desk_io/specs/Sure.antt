-- What inputs and outputs that never fail tell.
use Rattle.std.specs.Prelude.{ℕ, List, Option, Some, drop, option_map}
use Rattle.desk_io.specs.declared.Slot.{Slot}
use Rattle.desk_io.specs.declared.sure_inputs.SureSlot.{SureSlot}
use Rattle.desk_io.specs.declared.sure_inputs.SureInputs.{SureInputs}
use Rattle.desk_io.specs.declared.sure_outputs.SureOutputs.{SureOutputs}
use Rattle.desk_io.specs.Told.{SlotTold, InputsTold, PortTold, OutputsTold, by_slot, by_port, told_port}

-- a slot holds its bytes under every name
abbrev pub held_by_slot : List ℕ → List ℕ → Slot → List ℕ → Option (List ℕ)
held_by_slot formula proof slot name = Some (by_slot formula proof slot)

-- what a slot over its bytes tells, once it was begun; it has no fault
abbrev pub sure_slot : SureSlot → SlotTold
sure_slot s = record {
  left = option_map (λ position. drop position s.bytes) s.position;
  begun = option_map (λ _. s.bytes) s.position;
  begins = s.begins;
  faults = 0;
}

-- what a port that keeps its bytes tells; it has no fault
abbrev pub sure_port : List ℕ → PortTold
sure_port bytes = told_port (Some bytes) 0

-- what inputs that never fail tell
abbrev pub sure_inputs_told : SureInputs → InputsTold
sure_inputs_told s = record {
  held = held_by_slot s.formula.bytes s.proof.bytes;
  at = by_slot (sure_slot s.formula) (sure_slot s.proof);
}

-- what outputs that never fail tell
abbrev pub sure_outputs_told : SureOutputs → OutputsTold
sure_outputs_told s = record {
  at = by_port (sure_port s.answer) (sure_port s.log) (sure_port s.complaint);
  names = Some s.names;
  creates = s.creates;
}
