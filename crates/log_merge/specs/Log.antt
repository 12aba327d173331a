-- The names of the log's lemmas in their order.
use Rattle.std.specs.Prelude.{ℕ, zero, suc, ◌+◌, List, [], ◌∷◌, ◌++◌, map}
use Rattle.lit_base.specs.declared.name.Name.{Name}
use Rattle.solo_core.specs.State.{lemma_name}
use Rattle.solo_core.specs.declared.lemma.Lemma.{Lemma}
use Rattle.log_merge.specs.Numbering.{Numbering}

-- the names of so many lemmas of a core in a period, from this index on
abbrev pub names_from : ℕ → ℕ → ℕ → ℕ → List Name
names_from period core index zero = []
names_from period core index (suc count) = lemma_name period core index ∷ names_from period core (index + 1) count

-- those of the lemmas of the cores from this one on, of which each has so many
abbrev pub names_of_cores : ℕ → ℕ → List ℕ → List Name
names_of_cores period core [] = []
names_of_cores period core (count ∷ later) = names_from period core 0 count ++ names_of_cores period (core + 1) later

-- those of the lemmas of the periods from this one on
abbrev pub names_of_periods : ℕ → List (List ℕ) → List Name
names_of_periods period [] = []
names_of_periods period (counts ∷ later) = names_of_cores period 0 counts ++ names_of_periods (period + 1) later

-- the names of all lemmas of the log
abbrev pub log_names : Numbering → List Name
log_names n = names_of_periods 1 n.periods

-- the names of some lemmas
abbrev pub names_of_lemmas : List Lemma → List Name
names_of_lemmas lemmas = map (λ lemma. lemma.name) lemmas
