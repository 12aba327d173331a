-- The lines of some lemmas of the log.
use Rattle.std.specs.Prelude.{ℕ, List, ◌∷◌, All, map, flat_map, decimal}
use Rattle.lit_base.specs.Literal.{Literal, literal_text}
use Rattle.lit_base.specs.Text.{log_line_text}
use Rattle.lit_base.specs.declared.name.Name.{Name}
use Rattle.solo_core.specs.declared.lemma.Lemma.{Lemma}
use Rattle.log_merge.specs.Numbering.{Numbering, number_of, HasNumber}

-- literals, each after a blank
abbrev pub literals_text : List Literal → List ℕ
literals_text lits = flat_map (λ l. 32 ∷ literal_text l) lits

-- the numbers of hints, each after a blank
abbrev pub hints_text : Numbering → List Name → List ℕ
hints_text n hints = flat_map (λ hint. 32 ∷ decimal (number_of n hint)) hints

-- the line of a lemma, with its number and the numbers of its hints
abbrev pub line_text : Numbering → Lemma → List ℕ
line_text n lemma = log_line_text (number_of n lemma.name) lemma.lits (map (number_of n) lemma.hints)

-- the lines of the lemmas, one after the other
abbrev pub part_text : Numbering → List Lemma → List ℕ
part_text n lemmas = flat_map (line_text n) lemmas

-- the name of the lemma and those of its hints have numbers
pub record HasNumbers (n : Numbering) (lemma : Lemma) : Type 0 where
  pub name : HasNumber n lemma.name
  pub hints : All (HasNumber n) lemma.hints

-- those of each lemma have
abbrev pub AllHaveNumbers : Numbering → List Lemma → Type 0
AllHaveNumbers n lemmas = All (HasNumbers n) lemmas
