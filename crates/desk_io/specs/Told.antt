-- What inputs and outputs tell at one moment, and how their counts go. Bytes and names that aren't told are `None`.
use Rattle.std.specs.Prelude.{◌≡◌, ℕ, ◌+◌, ◌-◌, ◌^◌, ◌≤◌, min, List, Option, None}
use Rattle.desk_io.specs.declared.Slot.{Slot}
use Rattle.desk_io.specs.declared.Slot.TheVariants.{Formula, Proof}
use Rattle.desk_io.specs.declared.Port.{Port}
use Rattle.desk_io.specs.declared.Port.TheVariants.{Answer, Log, Complaint}

-- of a slot: the bytes still to be read, all bytes of the name that was begun last, how many calls of `begin` there were, and how many faults
pub record SlotTold : Type 0 where
  pub left : Option (List ℕ)
  pub begun : Option (List ℕ)
  pub begins : ℕ
  pub faults : ℕ

-- of the inputs: the bytes that a slot holds under a name, and what each slot tells
pub record InputsTold : Type 0 where
  pub held : Slot → List ℕ → Option (List ℕ)
  pub at : Slot → SlotTold

-- of a port: the bytes that stand there, and how many faults there were
pub record PortTold : Type 0 where
  pub written : Option (List ℕ)
  pub faults : ℕ

-- of the outputs: what each port tells, the names given to `create`, and how many calls of `create` there were
pub record OutputsTold : Type 0 where
  pub at : Port → PortTold
  pub names : Option (List (List ℕ))
  pub creates : ℕ

-- a counter one higher, which stands still at its last value
abbrev pub raised : ℕ → ℕ
raised n = min (n + 1) (2 ^ 64 - 1)

-- a counter is higher than before, or it stands at its last value
abbrev pub Rose : ℕ → ℕ → Type 0
Rose before now = raised before ≤ now

-- what belongs to the slot that a call isn't given stays
abbrev pub KeepsOtherSlots : {A : Type 0} → Slot → (Slot → A) → (Slot → A) → Type 0
KeepsOtherSlots Formula before after = after Proof ≡ before Proof
KeepsOtherSlots Proof before after = after Formula ≡ before Formula

-- what belongs to the two ports that a call isn't given stays
abbrev pub KeepsOtherPorts : {A : Type 0} → Port → (Port → A) → (Port → A) → Type 0
KeepsOtherPorts Answer before after = (after Log ≡ before Log) × (after Complaint ≡ before Complaint)
KeepsOtherPorts Log before after = (after Answer ≡ before Answer) × (after Complaint ≡ before Complaint)
KeepsOtherPorts Complaint before after = (after Answer ≡ before Answer) × (after Log ≡ before Log)

-- what belongs to a slot, of what belongs to each of the two
abbrev pub by_slot : {A : Type 0} → A → A → Slot → A
by_slot formula proof Formula = formula
by_slot formula proof Proof = proof

-- what belongs to a port, of what belongs to each of the three
abbrev pub by_port : {A : Type 0} → A → A → A → Port → A
by_port answer log complaint Answer = answer
by_port answer log complaint Log = log
by_port answer log complaint Complaint = complaint

-- a slot that tells its counts, and nothing of its bytes
abbrev pub counted_slot : ℕ → ℕ → SlotTold
counted_slot begins faults = record { left = None; begun = None; begins = begins; faults = faults }

-- a port that tells its bytes and its count
abbrev pub told_port : Option (List ℕ) → ℕ → PortTold
told_port written faults = record { written = written; faults = faults }

-- inputs on which nothing was called yet
abbrev pub fresh_inputs : (Slot → List ℕ → Option (List ℕ)) → InputsTold
fresh_inputs held = record { held = held; at = by_slot (counted_slot 0 0) (counted_slot 0 0) }

-- outputs on which nothing was called yet, with what each of the ports tells of its bytes, and of the names
abbrev pub fresh_outputs : Option (List ℕ) → Option (List (List ℕ)) → OutputsTold
fresh_outputs written names = record { at = by_port (told_port written 0) (told_port written 0) (told_port written 0); names = names; creates = 0 }
