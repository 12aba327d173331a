-- The complaint port at the end of a run, and the status that it leaves.
use Rattle.std.specs.Prelude.{◌≡◌, ◌⊎◌, ℕ, List, Option, Some, None}
use Rattle.std.specs.Io.KnownBytes.{append_known}
use Rattle.desk_io.specs.Told.{PortTold, Rose}
use Rattle.desk_io.specs.Outputs.{GrowsByFront}

-- the port grew by the whole text, or by a front of it, and that only where its own count of faults rose
abbrev pub GrowsUnlessFault : List ℕ → PortTold → PortTold → Type 0
GrowsUnlessFault text before after =
    (after.written ≡ append_known before.written text)
    ⊎ (GrowsByFront text before.written after.written × Rose before.faults after.faults)

-- the complaint stands, or a front of it where the port failed; without one the port was not touched
abbrev pub Tells : Option (List ℕ) → PortTold → PortTold → Type 0
Tells None before after = after ≡ before
Tells (Some text) before after = GrowsUnlessFault text before after

-- a front of the complaint stands; without one there is no front
abbrev pub TellsFront : Option (List ℕ) → PortTold → PortTold → Type 0
TellsFront None before after = ⊥
TellsFront (Some text) before after = GrowsByFront text before.written after.written

-- the complaint was told and the status is the ending's own, or memory was refused to it and the status is 5
abbrev pub Complains : Option (List ℕ) → ℕ → PortTold → PortTold → ℕ → Type 0
Complains complaint own before after status =
    ((status ≡ own) × Tells complaint before after) ⊎ ((status ≡ 5) × TellsFront complaint before after)
