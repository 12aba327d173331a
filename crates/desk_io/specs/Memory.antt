-- What contracts say of inputs and outputs in memory.
use Rattle.std.specs.Prelude.{◌≡◌, ℕ, List, [], Option, Some, Result, Ok, Err, Contains, length, min, drop, position, nat_eq, option_map, option_and_then, slice_get, unwrap_or}
use Rattle.std.specs.Cmp.Lexicographic.{pointwise}
use Rattle.desk_io.specs.declared.Slot.{Slot}
use Rattle.desk_io.specs.declared.Port.{Port}
use Rattle.desk_io.specs.declared.Failed.{Failed as Refused}
use Rattle.desk_io.specs.declared.PortFault.{PortFault}
use Rattle.desk_io.specs.declared.PortFault.TheVariants.{Failed, NoMemory}
use Rattle.desk_io.specs.declared.memory_inputs.Reading.{Reading}
use Rattle.desk_io.specs.declared.memory_outputs.Kept.{Kept}
use Rattle.desk_io.specs.Told.{SlotTold, InputsTold, PortTold, OutputsTold, by_slot, by_port, told_port, raised, KeepsOtherSlots, KeepsOtherPorts, fresh_inputs, fresh_outputs}

-- the place of the first file of that name
abbrev pub place_in : List (List ℕ × List ℕ) → List ℕ → Option ℕ
place_in files name = position (λ file. pointwise nat_eq file.0 name) files

-- the bytes of the file that stands at a place
abbrev pub bytes_at : List (List ℕ × List ℕ) → Option ℕ → Option (List ℕ)
bytes_at files place = option_map (λ file. file.1) (option_and_then (slice_get files) place)

-- each slot holds the files, and of two of one name the first
abbrev pub held_by_name : List (List ℕ × List ℕ) → Slot → List ℕ → Option (List ℕ)
held_by_name files slot name = bytes_at files (place_in files name)

-- inputs in memory: the files, how many bytes a call of `read` gives at most, the numbers of the calls that fail, how many calls each slot had so far, and what all this tells
pub record InputsInMemory : Type 0 where
  pub files : List (List ℕ × List ℕ)
  pub grain : ℕ
  pub failing : List (Slot × ℕ)
  pub calls : Slot → ℕ
  pub told : InputsTold

-- outputs in memory: how many bytes a call of `write` takes at most, the numbers of the calls that fail, how many calls each port had so far, and what all this tells
pub record OutputsInMemory : Type 0 where
  pub grain : ℕ
  pub failing : List (Port × ℕ)
  pub calls : Port → ℕ
  pub told : OutputsTold

-- what a slot over the files tells
abbrev pub reading_slot : List (List ℕ × List ℕ) → Reading → SlotTold
reading_slot files r = record {
  left = option_map (drop r.position) (bytes_at files r.file);
  begun = bytes_at files r.file;
  begins = r.begins;
  faults = r.faults;
}

-- what a port that keeps its bytes tells
abbrev pub kept_port : Kept → PortTold
kept_port k = told_port (Some k.bytes) k.faults

-- inputs on which nothing was called yet: the first call on each slot will be number 1
abbrev pub inputs_over : List (List ℕ × List ℕ) → ℕ → List (Slot × ℕ) → InputsInMemory
inputs_over files grain failing = record { files = files; grain = grain; failing = failing; calls = by_slot 0 0; told = fresh_inputs (held_by_name files) }

-- outputs on which nothing was called yet: the first call on each port will be number 1
abbrev pub outputs_with : ℕ → List (Port × ℕ) → OutputsInMemory
outputs_with grain failing = record { grain = grain; failing = failing; calls = by_port 0 0 0; told = fresh_outputs (Some []) (Some []) }

-- the number of the next call on the slot, which is one more than the calls so far, stands among those that fail
abbrev pub SlotIsToFail : Slot → InputsInMemory → Type 0
SlotIsToFail slot inputs = Contains inputs.failing (slot, raised (inputs.calls slot))

-- the number of the next call on the port, which is one more than the calls so far, stands among those that fail
abbrev pub PortIsToFail : Port → OutputsInMemory → Type 0
PortIsToFail port outputs = Contains outputs.failing (port, raised (outputs.calls port))

-- a call on a slot is counted there and not on the other; files, grain and the numbers that fail stay
pub record CountsSlotCall (slot : Slot) (before after : InputsInMemory) : Type 0 where
  pub files : after.files ≡ before.files
  pub grain : after.grain ≡ before.grain
  pub failing : after.failing ≡ before.failing
  pub calls : after.calls slot ≡ raised (before.calls slot)
  pub others : KeepsOtherSlots slot before.calls after.calls

-- a call on a port is counted there and not on the others; grain and the numbers that fail stay
pub record CountsPortCall (port : Port) (before after : OutputsInMemory) : Type 0 where
  pub grain : after.grain ≡ before.grain
  pub failing : after.failing ≡ before.failing
  pub calls : after.calls port ≡ raised (before.calls port)
  pub others : KeepsOtherPorts port before.calls after.calls

-- how many bytes a read gives: as many as are left, but at most so many, and at most as many as the buffer has room for
abbrev pub count_read : Option (List ℕ) → ℕ → List ℕ → ℕ
count_read left most buf = min (min (length (unwrap_or left [])) most) (length buf)

-- the faults of a slot after a call: one more where it failed
abbrev pub faults_after : {T : Type 0} → ℕ → Result T Refused → ℕ
faults_after before (Ok _) = before
faults_after before (Err _) = raised before

-- the faults of a port after a call: one more where it failed, and want of memory is no fault of the port
abbrev pub port_faults_after : {T : Type 0} → ℕ → Result T PortFault → ℕ
port_faults_after before (Ok _) = before
port_faults_after before (Err Failed) = raised before
port_faults_after before (Err NoMemory) = before
