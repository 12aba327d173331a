-- Lemmas as the lines of a proof in LRAT form.
use Rattle.std.specs.Prelude.{ℕ, ◌+◌, ◌≡◌, ⊤, List, [], ◌∷◌, map}
use Rattle.lit_base.specs.Rounds.{original}
use Rattle.lit_base.specs.declared.name.Name.{Name}
use Rattle.lit_base.specs.declared.proof.Line.{Line}
use Rattle.lit_base.specs.declared.proof.LineStep.TheVariants.{Add}
use Rattle.solo_core.specs.declared.lemma.Lemma.{Lemma}

-- the lines of lemmas, from this line and this id on: each adds its lemma, with the numbers of its hints
abbrev pub lines_of : (Name → ℕ) → ℕ → ℕ → List Lemma → List Line
lines_of number line id [] = []
lines_of number line id (lemma ∷ later) =
    record { line = line; step = Add id lemma.lits (map number lemma.hints) } ∷ lines_of number (line + 1) (id + 1) later

-- the names of lemmas have the numbers from this id on
abbrev pub AreNumbered : (Name → ℕ) → ℕ → List Lemma → Type 0
AreNumbered number id [] = ⊤
AreNumbered number id (lemma ∷ later) = (number lemma.name ≡ id) × AreNumbered number (id + 1) later

-- originals are numbered from 1
abbrev pub NumbersOriginals : (Name → ℕ) → Type 0
NumbersOriginals number = (index : ℕ) → number (original index) ≡ index + 1
