-- Small formulas, lines of proofs and a trail, for the laws that say what the judgement and the analysis give on them.
use Rattle.std.specs.Prelude.{ℕ, true, false, List, [], ◌∷◌, Some, None}
use Rattle.lit_base.specs.Literal.{Literal}
use Rattle.lit_base.specs.Cnf.{Cnf}
use Rattle.lit_base.specs.Rounds.{original}
use Rattle.lit_base.specs.declared.trail.Entry.{Entry}
use Rattle.lit_base.specs.declared.proof.Line.{Line}
use Rattle.lit_base.specs.declared.proof.LineStep.TheVariants.{Add, Delete}

-- variable v
abbrev pub plain : ℕ → Literal
plain v = record { variable = v; positive = true }

-- the negation of variable v
abbrev pub negated : ℕ → Literal
negated v = record { variable = v; positive = false }

-- the four clauses over two variables, which no model satisfies
abbrev pub square : Cnf
square = record {
  variables = 2;
  clauses =
      (plain 1 ∷ plain 2 ∷ []) ∷ (plain 1 ∷ negated 2 ∷ []) ∷ (negated 1 ∷ plain 2 ∷ []) ∷ (negated 1 ∷ negated 2 ∷ []) ∷ [];
}

-- a clause with a literal and its negation
abbrev pub both_signs : List Literal
both_signs = plain 1 ∷ negated 1 ∷ []

-- the line with this number, which adds a lemma
abbrev pub addition : ℕ → ℕ → List Literal → List ℕ → Line
addition line id lits hints = record { line = line; step = Add id lits hints }

-- line 1, which adds the lemma that variable 1 is true
abbrev pub half : ℕ → List ℕ → Line
half id hints = addition 1 id (plain 1 ∷ []) hints

-- the line with this number, which adds the empty lemma
abbrev pub ending : ℕ → ℕ → List ℕ → Line
ending line id hints = addition line id [] hints

-- the line with this number, which deletes clauses
abbrev pub deletion : ℕ → ℕ → List ℕ → Line
deletion line id ids = record { line = line; step = Delete id ids }

-- three clauses of which the first is unit, and the two others clash once variable 2 is false
abbrev pub forked : Cnf
forked = record {
  variables = 3;
  clauses = (plain 1 ∷ []) ∷ (negated 1 ∷ plain 2 ∷ plain 3 ∷ []) ∷ (negated 1 ∷ plain 2 ∷ negated 3 ∷ []) ∷ [];
}

-- variable 1 by the first clause, then the decision that 2 is false, then variable 3 by the second clause
abbrev pub forked_trail : List Entry
forked_trail =
    record { lit = plain 3; level = 1; reason = Some (original 1) }
    ∷ record { lit = negated 2; level = 1; reason = None }
    ∷ record { lit = plain 1; level = 0; reason = Some (original 0) }
    ∷ []
