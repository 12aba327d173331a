-- Inputs and outputs in memory as contracts see them. No contract names their fields.
use Rattle.std.specs.Prelude.{Some}
use Rattle.desk_io.specs.declared.memory_inputs.MemoryInputs.{MemoryInputs}
use Rattle.desk_io.specs.declared.memory_outputs.MemoryOutputs.{MemoryOutputs}
use Rattle.desk_io.specs.Told.{by_slot, by_port}
use Rattle.desk_io.specs.Memory.{InputsInMemory, OutputsInMemory, held_by_name, reading_slot, kept_port}

-- files, grain, numbers that fail, calls so far and what is told, of inputs in memory
abbrev pub shown_inputs : MemoryInputs → InputsInMemory
shown_inputs s = record {
  files = s.files;
  grain = s.grain;
  failing = s.failing;
  calls = by_slot s.formula.calls s.proof.calls;
  told = record { held = held_by_name s.files; at = by_slot (reading_slot s.files s.formula) (reading_slot s.files s.proof) };
}

-- grain, numbers that fail, calls so far and what is told, of outputs in memory
abbrev pub shown_outputs : MemoryOutputs → OutputsInMemory
shown_outputs s = record {
  grain = s.grain;
  failing = s.failing;
  calls = by_port s.answer.calls s.log.calls s.complaint.calls;
  told = record { at = by_port (kept_port s.answer) (kept_port s.log) (kept_port s.complaint); names = Some s.names; creates = s.creates };
}
