-- Lemmas as lines of a log.
use Rattle.std.specs.Prelude.{ℕ, ◌+◌, ◌≤◌, ◌<◌, List, [], ◌∷◌, length, flat_map, All}
use Rattle.lit_base.specs.Literal.{Literal, IsWithin}
use Rattle.lit_base.specs.Text.{log_line_text}
use Rattle.lit_base.specs.declared.proof.Line.{Line}
use Rattle.lit_base.specs.declared.proof.LineStep.TheVariants.{Add}

-- a lemma with its number and the numbers of its hints
pub record NumberedLemma : Type 0 where
  pub id : ℕ
  pub lits : List Literal
  pub hints : List ℕ

-- a number that a clause may have: from 1 to 2^63 - 1
abbrev pub IsId : ℕ → Type 0
IsId n = (1 ≤ n) × (n < 9223372036854775808)

-- the lemma can be written as a line: its numbers are ids, its literals of the variables that there may be, and there are
-- no more of them than the solver's longest lemma has
pub record CanBeWritten (lemma : NumberedLemma) : Type 0 where
  pub id : IsId lemma.id
  pub lits : All (IsWithin 1000000) lemma.lits
  pub hints : All IsId lemma.hints
  pub few_lits : length lemma.lits ≤ 1000000
  pub few_hints : length lemma.hints ≤ 1000001

-- the text of a log: a line for each lemma
abbrev pub log_of : List NumberedLemma → List ℕ
log_of lemmas = flat_map (λ lemma. log_line_text lemma.id lemma.lits lemma.hints) lemmas

-- the lines that add the lemmas, counted from this number
abbrev pub additions_from : ℕ → List NumberedLemma → List Line
additions_from line [] = []
additions_from line (lemma ∷ more) = record { line = line; step = Add lemma.id lemma.lits lemma.hints } ∷ additions_from (line + 1) more
