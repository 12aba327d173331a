-- What propagation answers.
use Rattle.std.specs.Prelude.{Option, Some, None}
use Rattle.lit_base.specs.declared.name.Name.{Name}
use Rattle.round_prop.specs.declared.found.Found.{Found}
use Rattle.round_prop.specs.declared.found.Found.TheVariants.{Fix, Conflict}

-- the conflict of this name, or a fixed point where there is none
abbrev pub found_of : Option Name → Found
found_of None = Fix
found_of (Some name) = Conflict name
