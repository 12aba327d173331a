-- What a call on the inputs does to what they tell.
use Rattle.std.specs.Prelude.{◌≡◌, ℕ, ◌≤◌, List, take, length, Option, Result, Ok, Err, OnErr}
use Rattle.std.specs.Io.KnownBytes.{prepend_known, IsAtEnd}
use Rattle.desk_io.specs.declared.Slot.{Slot}
use Rattle.desk_io.specs.declared.Failed.{Failed}
use Rattle.desk_io.specs.Told.{InputsTold, Rose, raised, KeepsOtherSlots}

-- `begin` of a name, also where it fails, leaves the slot at the start of what it holds under that name
pub record Begins (slot : Slot) (name : List ℕ) (before after : InputsTold) (result : Result (Unit {0}) Failed) : Type 0 where
  pub held : after.held ≡ before.held
  pub begins : (after.at slot).begins ≡ raised (before.at slot).begins
  pub begun : (after.at slot).begun ≡ before.held slot name
  pub left : (after.at slot).left ≡ before.held slot name
  pub later : (before.at slot).faults ≤ (after.at slot).faults
  pub failed : OnErr result (Rose (before.at slot).faults (after.at slot).faults)
  pub others : KeepsOtherSlots slot before.at after.at

-- a read of n bytes: they are the first of those that were left, and none are read only where none are left
pub record TakesFirst (n : ℕ) (buf : List ℕ) (before after : Option (List ℕ)) : Type 0 where
  pub within : n ≤ length buf
  pub bytes : before ≡ prepend_known (take n buf) after
  pub end : n ≡ 0 → IsAtEnd before × IsAtEnd after

-- the bytes that were left lose those that were read, and a read that fails takes none
abbrev pub Takes : List ℕ → Option (List ℕ) → Option (List ℕ) → Result ℕ Failed → Type 0
Takes buf before after (Ok n) = TakesFirst n buf before after
Takes buf before after (Err _) = after ≡ before

-- `read` into a buffer, which then holds `buf`
pub record Reads (slot : Slot) (buf : List ℕ) (before after : InputsTold) (result : Result ℕ Failed) : Type 0 where
  pub held : after.held ≡ before.held
  pub begins : (after.at slot).begins ≡ (before.at slot).begins
  pub begun : (after.at slot).begun ≡ (before.at slot).begun
  pub left : Takes buf (before.at slot).left (after.at slot).left result
  pub later : (before.at slot).faults ≤ (after.at slot).faults
  pub failed : OnErr result (Rose (before.at slot).faults (after.at slot).faults)
  pub others : KeepsOtherSlots slot before.at after.at
