-- A text that is gathered in a buffer and written to the answer port in pieces.
use Rattle.std.specs.Prelude.{◌≡◌, ℕ, List, [], ◌++◌, Result, Ok, Err}
use Rattle.desk_io.specs.declared.Port.TheVariants.{Answer}
use Rattle.desk_io.specs.declared.PortFault.{PortFault}
use Rattle.desk_io.specs.Told.{OutputsTold}
use Rattle.desk_io.specs.Outputs.{WritesWhole}

-- of the text a front was written, what follows is held, and the rest is still to come
pub record IsUnderway (text held rest : List ℕ) (before now : OutputsTold) : Type 0 where
  pub done : List ℕ
  pub parts : done ++ (held ++ rest) ≡ text
  pub wrote : WritesWhole Answer done before now (Ok tt)

-- the text goes through a buffer: all that wasn't written is held, and after a stop a front of the text was written
abbrev pub Passes : List ℕ → List ℕ → OutputsTold → OutputsTold → Result (Unit {0}) PortFault → Type 0
Passes text held before after (Ok done) = IsUnderway text held [] before after
Passes text held before after (Err fault) = WritesWhole Answer text before after (Err fault)
