-- How often clauses hold literals that became false.
use Rattle.std.specs.Prelude.{ℕ, ◌+◌, List, [], ◌∷◌, if◌then◌else◌}
use Rattle.std.specs.List.{list_any}
use Rattle.lit_base.specs.Literal.{Literal, negation, same}
use Rattle.lit_base.specs.Rounds.{NamedClause}
use Rattle.lit_base.specs.declared.trail.Entry.{Entry}

-- how many of the clauses hold the literal
abbrev pub occurrences_of : Literal → List NamedClause → ℕ
occurrences_of l [] = 0
occurrences_of l (c ∷ later) = (if list_any (λ m. same m l) c.lits then 1 else 0) + occurrences_of l later

-- the pairs of a literal that is false by one of these entries and a clause that holds it
abbrev pub pairs_of : List NamedClause → List Entry → ℕ
pairs_of clauses [] = 0
pairs_of clauses (e ∷ older) = occurrences_of (negation e.lit) clauses + pairs_of clauses older
