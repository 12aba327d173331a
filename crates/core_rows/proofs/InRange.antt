-- The rows of the table are in its ranges.
use Rattle.std.proofs.Common.{◌≡◌, ℕ, zero, suc, ◌/◌, ◌%◌, ◌==◌, Bool, true, ◌&&◌, List, [], ◌∷◌, refl}
use Rattle.std.specs.Prelude.{nat_le, pos, slice_index_or}
use Rattle.std.specs.List.{list_all}
use Rattle.std.proofs.lemmas.Bool.{and_parts, leb-true}
use Rattle.core_rows.specs.declared.row.Row.{Row}
use Rattle.core_rows.specs.Rows.{IsInRange, row_with, rows_with, row_of}

-- the ranges as one test
abbrev is_in_range : Row → Bool
is_in_range row =
    nat_le 25 row.unit && (nat_le row.unit 400 && (nat_le 1 row.weight && (nat_le row.weight 5 && (nat_le 50 row.halve && (nat_le row.halve 1024 && nat_le row.noise 16)))))

in_range_from : (row : Row) → is_in_range row ≡ true → IsInRange row
in_range_from row is =
    let unit = and_parts (nat_le 25 row.unit) _ is in
    let most_unit = and_parts (nat_le row.unit 400) _ unit.1 in
    let weight = and_parts (nat_le 1 row.weight) _ most_unit.1 in
    let most_weight = and_parts (nat_le row.weight 5) _ weight.1 in
    let halve = and_parts (nat_le 50 row.halve) _ most_weight.1 in
    let most_halve = and_parts (nat_le row.halve 1024) _ halve.1 in
    record {
      some_unit = leb-true 25 row.unit unit.0;
      few_unit = leb-true row.unit 400 most_unit.0;
      some_weight = leb-true 1 row.weight weight.0;
      few_weight = leb-true row.weight 5 most_weight.0;
      some_halve = leb-true 50 row.halve halve.0;
      few_halve = leb-true row.halve 1024 most_halve.0;
      few_noise = leb-true row.noise 16 most_halve.1;
    }

-- each of these rows, and the one past them
each_in_range : (rows : List Row) (past : Row) (place : ℕ) → list_all is_in_range rows ≡ true → is_in_range past ≡ true → IsInRange (slice_index_or rows place past)
each_in_range [] past place all own = in_range_from past own
each_in_range (row ∷ rows) past zero all own = in_range_from row (and_parts (is_in_range row) (list_all is_in_range rows) all).0
each_in_range (row ∷ rows) past (suc place) all own = each_in_range rows past place (and_parts (is_in_range row) (list_all is_in_range rows) all).1 own

-- each row of the table
pub row_in_range : (i : ℕ) → IsInRange (row_of i)
row_in_range i = let phase = i % 2 == 1 in each_in_range (rows_with phase) (row_with phase 100 1 256 0 (pos 0)) (i / 2) refl refl
