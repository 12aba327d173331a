-- The rows of a table differ where a number that is computed from each differs.
use Rattle.std.proofs.Common.{◌≡◌, ◌≢◌, ℕ, zero, suc, ◌+◌, ◌*◌, ◌==◌, ◌<◌, Bool, true, cond, not, ◌&&◌, List, [], ◌∷◌, length, ap, ◌∙◌, sym, arith, ◌⊎◌, inl, inr}
use Rattle.std.specs.Prelude.{Some, slice_get}
use Rattle.std.specs.List.{list_all}
use Rattle.std.proofs.lemmas.Bool.{and_parts, eq-eqb}
use Rattle.std.proofs.lemmas.Option.{same_Some}
use Rattle.core_rows.specs.declared.row.Row.{Row}
use Rattle.core_rows.specs.Rows.{DifferBelow}

-- the unit and the phase of a row in one number
abbrev pub unit_and_phase : Row → ℕ
unit_and_phase row = 2 * row.unit + cond row.phase 1 0

-- no row has the unit and the phase of a later one
abbrev pub are_apart : List Row → Bool
are_apart [] = true
are_apart (row ∷ rows) = list_all (λ r. not (unit_and_phase row == unit_and_phase r)) rows && are_apart rows

-- a row that differs from all of these is none of them
none_of : (row : Row) (rows : List Row) (j : ℕ) → list_all (λ r. not (unit_and_phase row == unit_and_phase r)) rows ≡ true → slice_get rows j ≡ Some row → ⊥
none_of row [] j apart is = cc
none_of row (r ∷ rows) zero apart is =
    let same : (unit_and_phase row == unit_and_phase r) ≡ true = eq-eqb _ _ (ap unit_and_phase (sym (same_Some r row is))) in
    let other = (and_parts (not (unit_and_phase row == unit_and_phase r)) _ apart).0 in
    cc (sym (ap not same) ∙ other)
none_of row (r ∷ rows) (suc j) apart is = none_of row rows j (and_parts (not (unit_and_phase row == unit_and_phase r)) _ apart).1 is

-- an earlier row differs from a later one
earlier : (rows : List Row) (i j : ℕ) → are_apart rows ≡ true → i < j → j < length rows → slice_get rows i ≢ slice_get rows j
earlier [] i j apart before within same = omega arith
earlier (row ∷ rows) i zero apart before within same = omega arith
earlier (row ∷ rows) zero (suc j) apart before within same =
    none_of row rows j (and_parts (list_all (λ r. not (unit_and_phase row == unit_and_phase r)) rows) _ apart).0 (sym same)
earlier (row ∷ rows) (suc i) (suc j) apart before within same =
    earlier rows i j (and_parts (list_all (λ r. not (unit_and_phase row == unit_and_phase r)) rows) _ apart).1 (omega arith) (omega arith) same

-- rows that are apart differ
pub differ_below : (n : ℕ) (rows : List Row) → are_apart rows ≡ true → length rows ≡ n → DifferBelow n rows
differ_below n rows apart all i j low high other = by_order (let split : (i < j) ⊎ (j < i) = grind arith in split)
  where
    by_order : (i < j) ⊎ (j < i) → slice_get rows i ≢ slice_get rows j
    by_order (inl before) = earlier rows i j apart before (omega arith)
    by_order (inr after) = λ same. earlier rows j i apart after (omega arith) (sym same)
