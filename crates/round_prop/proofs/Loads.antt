-- For how many notes there has to be room.
use Rattle.std.proofs.Common.{◌≡◌, ◌+◌, ◌≤◌, Bool, true, false, List, [], ◌∷◌, length, ap, ◌∙◌, arith}
use Rattle.round_prop.specs.Noting.{clear_count, load_of}
use Rattle.round_prop.specs.declared.note.Note.{Note}

-- the load is that of the items
pub load_same : (notes others : List Note) (flags marks : List Bool) → others ≡ notes → marks ≡ flags → load_of others marks ≡ load_of notes flags
load_same notes others flags marks same_notes same_flags = ap (λ (ns : List Note). load_of ns marks) same_notes ∙ ap (λ (bs : List Bool). load_of notes bs) same_flags

-- no more flags are clear than there are
pub clear-most : (flags : List Bool) → clear_count flags ≤ length flags
clear-most [] = omega arith
clear-most (true ∷ later) = omega (arith, clear-most later)
clear-most (false ∷ later) = omega (arith, clear-most later)

-- a load is at most the notes and the flags
pub load-most : (notes : List Note) (flags : List Bool) → load_of notes flags ≤ length notes + length flags
load-most notes flags = omega (arith, clear-most flags)
