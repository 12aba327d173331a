-- The kinds of formulas that are generated, and their words.
use Rattle.std.specs.Prelude.{ℕ, List, Option, Some, None, codes, bytes_eq, if◌then◌else◌}
use Rattle.formula_kinds.specs.declared.kind.Kind.{Kind}
use Rattle.formula_kinds.specs.declared.kind.Kind.TheVariants.{Hole, Grid, Rand}

-- the greatest n of a kind
abbrev pub most_of : Kind → ℕ
most_of Hole = 100
most_of Grid = 300
most_of Rand = 100000

-- the word for a kind
abbrev pub kind_word : Kind → List ℕ
kind_word Hole = codes "hole"
kind_word Grid = codes "grid"
kind_word Rand = codes "rand"

-- the kind of which this is the word, where there is one
abbrev pub kind_named : List ℕ → Option Kind
kind_named word =
    if bytes_eq word (codes "hole") then Some Hole
    else if bytes_eq word (codes "grid") then Some Grid
    else if bytes_eq word (codes "rand") then Some Rand
    else None
