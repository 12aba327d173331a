-- The numbers of the log's lines. The log is the list of the standing lemmas by period, core and index.
use Rattle.std.specs.Prelude.{ℕ, zero, suc, ◌+◌, ◌-◌, ◌*◌, ◌/◌, ◌≡◌, ◌<◌, ◌≤◌, ◌⊎◌, ◌==◌, if◌then◌else◌, List, [], ◌∷◌, ◌++◌, length, take, sum, sum_by, slice_index, slice_index_or}
use Rattle.std.specs.Simd.{first_chunks}
use Rattle.lit_base.specs.declared.name.Name.{Name}
use Rattle.log_merge.specs.Sums.{Counted}

-- how many originals and cores there are, and for each ended period, in order, how many lemmas of each core stand in the log
pub record Numbering : Type 0 where
  pub originals : ℕ
  pub cores : ℕ
  pub periods : List (List ℕ)

-- at first no period has ended
abbrev pub first_numbering : ℕ → ℕ → Numbering
first_numbering originals cores = record { originals = originals; cores = cores; periods = [] }

-- the numbering of so many cores and periods, whose counts stand behind the originals in one list, period by period
abbrev pub numbering_of : ℕ → ℕ → Counted → Numbering
numbering_of cores periods sums =
    record { originals = sums.first; cores = cores; periods = first_chunks cores periods sums.counts }

-- the counts of a period as they are kept: where there is no core a 0, so that each period takes a place
abbrev pub kept_row : List ℕ → List ℕ
kept_row [] = 0 ∷ []
kept_row (count ∷ later) = count ∷ later

-- of how many periods of so many cores the kept counts are
abbrev pub periods_in : ℕ → List ℕ → ℕ
periods_in zero counts = length counts
periods_in (suc cores) counts = length counts / suc cores

-- the kept counts are those of whole periods: of as many as there are cores in each, and of no lemma where there is no core
abbrev pub AreWholePeriods : ℕ → List ℕ → Type 0
AreWholePeriods zero counts = sum counts ≡ 0
AreWholePeriods (suc cores) counts = length counts ≡ periods_in (suc cores) counts * suc cores

-- one more ended period
abbrev pub with_period : List ℕ → Numbering → Numbering
with_period counts n = record n { periods = n.periods ++ counts ∷ [] }

-- how many lemmas of some periods stand in the log
abbrev pub lemmas_in : List (List ℕ) → ℕ
lemmas_in periods = sum_by sum periods

-- how many lemmas of each core stand in the log of this period, counted from 1
abbrev pub counts_in : Numbering → ℕ → List ℕ
counts_in n period = slice_index_or n.periods (period - 1) []

-- the number before the first lemma of this core in this period: all originals, the lemmas of earlier periods, and
-- those of lower cores in the period stand before it
abbrev pub number_before : Numbering → ℕ → ℕ → ℕ
number_before n period core = n.originals + lemmas_in (take (period - 1) n.periods) + sum (take core (counts_in n period))

-- an original has its index and 1 as its number, and a lemma also counts what stands before its core's
abbrev pub number_of : Numbering → Name → ℕ
number_of n name =
    if name.period == 0 then name.index + 1 else number_before n name.period name.core + name.index + 1

-- the name is an original's
pub record IsOriginal (n : Numbering) (name : Name) : Type 0 where
  pub period : name.period ≡ 0
  pub core : name.core ≡ 0
  pub index : name.index < n.originals

-- the name is that of a lemma that stands in the log of an ended period
pub record IsStanding (n : Numbering) (name : Name) : Type 0 where
  pub begun : 1 ≤ name.period
  pub ended : name.period ≤ length n.periods
  pub core : name.core < n.cores
  pub index : name.index < slice_index (counts_in n name.period) name.core

-- the name has a number in the log
abbrev pub HasNumber : Numbering → Name → Type 0
HasNumber n name = IsOriginal n name ⊎ IsStanding n name
