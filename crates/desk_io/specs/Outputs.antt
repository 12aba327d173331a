-- What a call on the outputs does to what they tell.
use Rattle.std.specs.Prelude.{◌≡◌, ℕ, ◌<◌, ◌≤◌, List, [], ◌∷◌, ◌++◌, take, length, Option, option_map, Result, Ok, Err}
use Rattle.std.specs.Io.KnownBytes.{append_known}
use Rattle.desk_io.specs.declared.Port.{Port}
use Rattle.desk_io.specs.declared.PortFault.{PortFault}
use Rattle.desk_io.specs.declared.PortFault.TheVariants.{Failed, NoMemory}
use Rattle.desk_io.specs.Told.{OutputsTold, Rose, raised, KeepsOtherPorts}

-- the fact holds where the answer is `Failed`; want of memory says nothing
abbrev pub OnFailed : {T : Type 0} → Result T PortFault → Type 0 → Type 0
OnFailed (Ok _) P = Unit {0}
OnFailed (Err Failed) P = P
OnFailed (Err NoMemory) P = Unit {0}

-- the known names after a `create`: grown by this one, but for want of memory
abbrev pub names_after : Option (List (List ℕ)) → List ℕ → Result (Unit {0}) PortFault → Option (List (List ℕ))
names_after names name (Ok _) = option_map (λ all. all ++ name ∷ []) names
names_after names name (Err Failed) = option_map (λ all. all ++ name ∷ []) names
names_after names name (Err NoMemory) = names

-- the known bytes of the log after a `create`: none, and as before where it was refused
abbrev pub created : Option (List ℕ) → Result (Unit {0}) PortFault → Option (List ℕ)
created written (Ok _) = option_map (λ _. []) written
created written (Err _) = written

-- `create` of a name
pub record Creates (port : Port) (name : List ℕ) (before after : OutputsTold) (result : Result (Unit {0}) PortFault) : Type 0 where
  pub creates : after.creates ≡ raised before.creates
  pub names : after.names ≡ names_after before.names name result
  pub written : (after.at port).written ≡ created (before.at port).written result
  pub later : (before.at port).faults ≤ (after.at port).faults
  pub failed : OnFailed result (Rose (before.at port).faults (after.at port).faults)
  pub others : KeepsOtherPorts port before.at after.at

-- a write of n bytes, at least one: the port grows by the first n of the piece
pub record GrowsByFirst (n : ℕ) (piece : List ℕ) (before after : Option (List ℕ)) : Type 0 where
  pub some : 0 < n
  pub within : n ≤ length piece
  pub bytes : after ≡ append_known before (take n piece)

-- the port grows by what was written, and a write that is refused adds nothing
abbrev pub Grows : List ℕ → Option (List ℕ) → Option (List ℕ) → Result ℕ PortFault → Type 0
Grows piece before after (Ok n) = GrowsByFirst n piece before after
Grows piece before after (Err _) = after ≡ before

-- `write` of a piece
pub record Writes (port : Port) (piece : List ℕ) (before after : OutputsTold) (result : Result ℕ PortFault) : Type 0 where
  pub creates : after.creates ≡ before.creates
  pub names : after.names ≡ before.names
  pub written : Grows piece (before.at port).written (after.at port).written result
  pub later : (before.at port).faults ≤ (after.at port).faults
  pub failed : OnFailed result (Rose (before.at port).faults (after.at port).faults)
  pub others : KeepsOtherPorts port before.at after.at

-- the port grows by some front of the text
pub record GrowsByFront (text : List ℕ) (before after : Option (List ℕ)) : Type 0 where
  pub done : List ℕ
  pub rest : List ℕ
  pub parts : done ++ rest ≡ text
  pub bytes : after ≡ append_known before done

-- the port grows by the whole text, and by a front of it where the text is refused
abbrev pub GrowsWhole : List ℕ → Option (List ℕ) → Option (List ℕ) → Result (Unit {0}) PortFault → Type 0
GrowsWhole text before after (Ok _) = after ≡ append_known before text
GrowsWhole text before after (Err _) = GrowsByFront text before after

-- `write_whole` of a text
pub record WritesWhole (port : Port) (text : List ℕ) (before after : OutputsTold) (result : Result (Unit {0}) PortFault) : Type 0 where
  pub creates : after.creates ≡ before.creates
  pub names : after.names ≡ before.names
  pub written : GrowsWhole text (before.at port).written (after.at port).written result
  pub later : (before.at port).faults ≤ (after.at port).faults
  pub failed : OnFailed result (Rose (before.at port).faults (after.at port).faults)
  pub others : KeepsOtherPorts port before.at after.at
