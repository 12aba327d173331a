-- Words for the examples.
use Rattle.std.specs.Prelude.{ℕ, List, map, flat_map, ◌∷◌}
use Rattle.lit_base.specs.Literal.{literal_text}
use Rattle.lit_base.specs.Cnf.{Cnf}

-- each clause as text, a blank before each literal
abbrev pub clause_texts : Cnf → List (List ℕ)
clause_texts cnf = map (λ lits. flat_map (λ l. 32 ∷ literal_text l) lits) cnf.clauses
