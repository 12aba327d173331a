-- A clause keeps each of its literals once.
use Rattle.std.specs.Prelude.{List, [], ◌∷◌, not, filter}
use Rattle.lit_base.specs.Literal.{Literal, same}

-- the distinct literals, in the order of their first occurrence
abbrev pub distinct : List Literal → List Literal
distinct [] = []
distinct (l ∷ ls) = l ∷ filter (λ m. not (same l m)) (distinct ls)
