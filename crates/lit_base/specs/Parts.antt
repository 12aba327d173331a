-- Cutting a text at each byte of a kind, into its lines or tokens.
use Rattle.std.specs.Prelude.{ℕ, Bool, List, [], ◌∷◌, if◌then◌else◌}

-- the parts of a text, of which there is always a first
pub record Parts : Type 0 where
  pub first : List ℕ
  pub others : List (List ℕ)

-- the parts round each byte that passes the test, in order: one more than there are such bytes, and some perhaps empty
abbrev pub parts_of : (ℕ → Bool) → List ℕ → Parts
parts_of cuts [] = record { first = []; others = [] }
parts_of cuts (b ∷ bs) =
    if cuts b then record { first = []; others = (parts_of cuts bs).first ∷ (parts_of cuts bs).others }
    else record { first = b ∷ (parts_of cuts bs).first; others = (parts_of cuts bs).others }
