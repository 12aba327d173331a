-- The table of the settings by which the cores differ.
use Rattle.std.specs.Prelude.{ℕ, ◌/◌, ◌%◌, ◌==◌, ◌<◌, ◌≤◌, ◌≢◌, Bool, ℤ, pos, neg_ℤ, List, [], ◌∷◌, slice_get, slice_index_or}
use Rattle.core_rows.specs.declared.row.Row.{Row}

-- the row of these settings
abbrev pub row_with : Bool → ℕ → ℕ → ℕ → ℕ → ℤ → Row
row_with phase unit weight halve noise share =
    record { phase = phase; unit = unit; weight = weight; halve = halve; noise = noise; share = share }

-- the rows of one phase, in order: unit, weight, halve, noise and share
abbrev pub rows_with : Bool → List Row
rows_with phase =
    row_with phase 100 1 256 0 (pos 0)
    ∷ row_with phase 50 2 128 4 (pos 0)
    ∷ row_with phase 200 1 512 8 (neg_ℤ (pos 2))
    ∷ row_with phase 30 4 64 6 (pos 2)
    ∷ row_with phase 400 1 1024 10 (neg_ℤ (pos 4))
    ∷ row_with phase 75 3 200 12 (pos 4)
    ∷ row_with phase 150 2 300 14 (neg_ℤ (pos 1))
    ∷ row_with phase 25 5 50 16 (pos 1)
    ∷ []

-- two different indexes below n have different rows
abbrev pub DifferBelow : ℕ → List Row → Type 0
DifferBelow n rows = (i j : ℕ) → i < n → j < n → i ≢ j → slice_get rows i ≢ slice_get rows j

-- row i: the settings of pair i / 2, with phase true where i is odd; past the table, the first settings
abbrev pub row_of : ℕ → Row
row_of i =
    let phase = i % 2 == 1 in
    slice_index_or (rows_with phase) (i / 2) (row_with phase 100 1 256 0 (pos 0))

-- the settings are in the ranges of the table
pub record IsInRange (row : Row) : Type 0 where
  pub some_unit : 25 ≤ row.unit
  pub few_unit : row.unit ≤ 400
  pub some_weight : 1 ≤ row.weight
  pub few_weight : row.weight ≤ 5
  pub some_halve : 50 ≤ row.halve
  pub few_halve : row.halve ≤ 1024
  pub few_noise : row.noise ≤ 16
