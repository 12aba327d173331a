-- What the formulas say of a model, in plain words.
use Rattle.std.specs.Prelude.{◌≡◌, ℕ, ◌+◌, ◌*◌, ◌<◌, ◌≤◌, Bool, true, List}
use Rattle.lit_base.specs.Truth.{value_in}
use Rattle.formula_kinds.specs.Grid.{cell_at}

-- in the model pigeon p sits in hole h
abbrev pub Sits : ℕ → List Bool → ℕ → ℕ → Type 0
Sits n model p h = value_in model (p * n + h + 1) ≡ true

-- each of the n + 1 pigeons sits in one of the n holes, and no two of them in one
pub record PigeonsSit (n : ℕ) (model : List Bool) : Type 0 where
  pub somewhere : (p : ℕ) → p ≤ n → (h : ℕ) × (h < n) × Sits n model p h
  pub alone : (p q h : ℕ) → p < q → q ≤ n → h < n → Sits n model p h → Sits n model q h → ⊥

-- in the model the cell has colour k
abbrev pub HasColour : List Bool → ℕ → ℕ → Type 0
HasColour model cell k = value_in model (3 * cell + k + 1) ≡ true

-- the two cells have none of the three colours in common
abbrev pub AreApart : List Bool → ℕ → ℕ → Type 0
AreApart model cell other = (k : ℕ) → k < 3 → HasColour model cell k → HasColour model other k → ⊥

-- each cell of n rows and n columns has a colour, and none in common with the cell to its right and the one below
pub record CellsAreColoured (n : ℕ) (model : List Bool) : Type 0 where
  pub coloured : (r c : ℕ) → r < n → c < n → (k : ℕ) × (k < 3) × HasColour model (cell_at n r c) k
  pub to_the_right : (r c : ℕ) → r < n → c + 1 < n → AreApart model (cell_at n r c) (cell_at n r (c + 1))
  pub one_below : (r c : ℕ) → r + 1 < n → c < n → AreApart model (cell_at n r c) (cell_at n (r + 1) c)
