-- Rows of some names leave, and then those of others.
use Rattle.std.proofs.Common.{◌≡◌, ℕ, zero, suc, ◌+◌, ◌-◌, ◌*◌, ◌≤◌, Bool, true, false, cond, not, ◌||◌, List, [], ◌∷◌, ◌++◌, length, take, drop, refl, ap, sym, ◌∙◌, arith, Vec}
use Rattle.std.specs.Vec.{with_items}
use Rattle.std.proofs.lemmas.List.{take-append-drop}
use Rattle.std.proofs.lemmas.List.Folds.{list_any-append}
use Rattle.lit_base.specs.Named.{same_name}
use Rattle.lit_base.specs.Held.{is_among}
use Rattle.lit_base.specs.declared.name.Name.{Name}
use Rattle.round_prop.specs.declared.row.Row.{Row}
use Rattle.round_prop.specs.Removal.{stays, kept_rows, kept_items, kept_pairs}

-- where no name leaves, all rows stay
pub none_rows : (rows : List Row) → kept_rows [] rows ≡ rows
none_rows [] = refl
none_rows (row ∷ later) = ap (λ rs. row ∷ rs) (none_rows later)

pub none_items : {X : Type 0} (rows : List Row) (items : List X) → length items ≡ length rows → kept_items [] rows items ≡ items
none_items [] [] long = refl
none_items [] (x ∷ items) long = absurd (omega (arith, long))
none_items (row ∷ later) [] long = refl
none_items (row ∷ later) (x ∷ items) long = ap (λ xs. x ∷ xs) (none_items later items (omega (arith, long)))

pub none_pairs : {X : Type 0} (rows : List Row) (items : List X) → length items ≡ 2 * length rows → kept_pairs [] rows items ≡ items
none_pairs [] [] long = refl
none_pairs [] (x ∷ items) long = absurd (omega (arith, long))
none_pairs (row ∷ later) [] long = refl
none_pairs (row ∷ later) (x ∷ []) long = absurd (omega (arith, long))
none_pairs (row ∷ later) (x ∷ y ∷ items) long = ap (λ xs. x ∷ y ∷ xs) (none_pairs later items (omega (arith, long)))

-- a row stays where it stays twice
module _ (names others : List Name) where
  both_stay : (row : Row) → stays (names ++ others) row ≡ cond (stays names row) (stays others row) false
  both_stay row = ap not (list_any-append (λ n. same_name n row.name) names others) ∙ by_tests (is_among names row.name) (is_among others row.name)
    where
      by_tests : (p q : Bool) → not (p || q) ≡ cond (not p) (not q) false
      by_tests true q = refl
      by_tests false q = refl

  both_rows : (rows : List Row) → kept_rows others (kept_rows names rows) ≡ kept_rows (names ++ others) rows
  both_rows [] = refl
  both_rows (row ∷ later) = by_first (stays names row) (both_rows later) ∙ ap (λ b. cond b (row ∷ kept_rows (names ++ others) later) (kept_rows (names ++ others) later)) (sym (both_stay row))
    where
      by_second : (q : Bool) → kept_rows others (kept_rows names later) ≡ kept_rows (names ++ others) later →
          cond q (row ∷ kept_rows others (kept_rows names later)) (kept_rows others (kept_rows names later)) ≡ cond q (row ∷ kept_rows (names ++ others) later) (kept_rows (names ++ others) later)
      by_second true rest = ap (λ rs. row ∷ rs) rest
      by_second false rest = rest

      by_first : (p : Bool) → kept_rows others (kept_rows names later) ≡ kept_rows (names ++ others) later →
          kept_rows others (cond p (row ∷ kept_rows names later) (kept_rows names later)) ≡
          cond (cond p (stays others row) false) (row ∷ kept_rows (names ++ others) later) (kept_rows (names ++ others) later)
      by_first true rest = by_second (stays others row) rest
      by_first false rest = rest

  both_items : {X : Type 0} (rows : List Row) (items : List X) → kept_items others (kept_rows names rows) (kept_items names rows items) ≡ kept_items (names ++ others) rows items
  both_items [] items = refl
  both_items (row ∷ later) [] = none_left (kept_rows names (row ∷ later))
    where
      none_left : {X : Type 0} (rows : List Row) → kept_items {X = X} others rows [] ≡ []
      none_left [] = refl
      none_left (r ∷ rs) = refl
  both_items (row ∷ later) (x ∷ items) =
      by_first (stays names row) (both_items later items) ∙ ap (λ b. cond b (x ∷ kept_items (names ++ others) later items) (kept_items (names ++ others) later items)) (sym (both_stay row))
    where
      by_second : (q : Bool) → kept_items others (kept_rows names later) (kept_items names later items) ≡ kept_items (names ++ others) later items →
          cond q (x ∷ kept_items others (kept_rows names later) (kept_items names later items)) (kept_items others (kept_rows names later) (kept_items names later items)) ≡
          cond q (x ∷ kept_items (names ++ others) later items) (kept_items (names ++ others) later items)
      by_second true rest = ap (λ xs. x ∷ xs) rest
      by_second false rest = rest

      by_first : (p : Bool) → kept_items others (kept_rows names later) (kept_items names later items) ≡ kept_items (names ++ others) later items →
          kept_items others (cond p (row ∷ kept_rows names later) (kept_rows names later)) (cond p (x ∷ kept_items names later items) (kept_items names later items)) ≡
          cond (cond p (stays others row) false) (x ∷ kept_items (names ++ others) later items) (kept_items (names ++ others) later items)
      by_first true rest = by_second (stays others row) rest
      by_first false rest = rest

  both_pairs : {X : Type 0} (rows : List Row) (items : List X) → kept_pairs others (kept_rows names rows) (kept_pairs names rows items) ≡ kept_pairs (names ++ others) rows items
  both_pairs [] items = refl
  both_pairs (row ∷ later) [] = none_left (kept_rows names (row ∷ later))
    where
      none_left : {X : Type 0} (rows : List Row) → kept_pairs {X = X} others rows [] ≡ []
      none_left [] = refl
      none_left (r ∷ rs) = refl
  both_pairs (row ∷ later) (x ∷ []) = none_left (kept_rows names (row ∷ later))
    where
      none_left : {X : Type 0} (rows : List Row) → kept_pairs {X = X} others rows [] ≡ []
      none_left [] = refl
      none_left (r ∷ rs) = refl
  both_pairs (row ∷ later) (x ∷ y ∷ items) =
      by_first (stays names row) (both_pairs later items) ∙ ap (λ b. cond b (x ∷ y ∷ kept_pairs (names ++ others) later items) (kept_pairs (names ++ others) later items)) (sym (both_stay row))
    where
      by_second : (q : Bool) → kept_pairs others (kept_rows names later) (kept_pairs names later items) ≡ kept_pairs (names ++ others) later items →
          cond q (x ∷ y ∷ kept_pairs others (kept_rows names later) (kept_pairs names later items)) (kept_pairs others (kept_rows names later) (kept_pairs names later items)) ≡
          cond q (x ∷ y ∷ kept_pairs (names ++ others) later items) (kept_pairs (names ++ others) later items)
      by_second true rest = ap (λ xs. x ∷ y ∷ xs) rest
      by_second false rest = rest

      by_first : (p : Bool) → kept_pairs others (kept_rows names later) (kept_pairs names later items) ≡ kept_pairs (names ++ others) later items →
          kept_pairs others (cond p (row ∷ kept_rows names later) (kept_rows names later)) (cond p (x ∷ y ∷ kept_pairs names later items) (kept_pairs names later items)) ≡
          cond (cond p (stays others row) false) (x ∷ y ∷ kept_pairs (names ++ others) later items) (kept_pairs (names ++ others) later items)
      by_first true rest = by_second (stays others row) rest
      by_first false rest = rest

-- the names from a place on are those up to a later one, and the ones from there on
pub part_and_rest : (names : List Name) (from to : ℕ) → from ≤ to → take (to - from) (drop from names) ++ drop to names ≡ drop from names
part_and_rest names from to low =
    ap (λ ns. take (to - from) (drop from names) ++ ns) (ap (λ n. drop n names) (let e : to ≡ from + (to - from) = omega (arith, low) in e) ∙ further names from (to - from)) ∙ take-append-drop (to - from) (drop from names)
  where
    further : (ns : List Name) (i k : ℕ) → drop (i + k) ns ≡ drop k (drop i ns)
    further ns zero k = ap (λ n. drop n ns) (let e : 0 + k ≡ k = omega arith in e)
    further [] (suc i) k = ap (λ n. drop {A = Name} n []) (let e : suc i + k ≡ suc (i + k) = omega arith in e) ∙ sym (drop_none k)
      where
        drop_none : (k : ℕ) → drop {A = Name} k [] ≡ []
        drop_none zero = refl
        drop_none (suc k) = refl
    further (n ∷ ns) (suc i) k = ap (λ m. drop m (n ∷ ns)) (let e : suc i + k ≡ suc (i + k) = omega arith in e) ∙ further ns i k

pub nothing_left : (names : List Name) (at : ℕ) → length names ≤ at → drop at names ≡ []
nothing_left [] zero low = refl
nothing_left [] (suc at) low = refl
nothing_left (n ∷ names) zero low = absurd (omega (arith, low))
nothing_left (n ∷ names) (suc at) low = nothing_left names at (omega (arith, low))

-- one part of the names more has left
module _ (names : List Name) (from to : ℕ) (low : from ≤ to) where
  pub rows_step : (rows after : List Row) → after ≡ kept_rows (take (to - from) (drop from names)) rows → kept_rows (drop to names) after ≡ kept_rows (drop from names) rows
  rows_step rows after is =
      ap (λ rs. kept_rows (drop to names) rs) is
      ∙ (both_rows (take (to - from) (drop from names)) (drop to names) rows ∙ ap (λ ns. kept_rows ns rows) (part_and_rest names from to low))

  pub items_step : {X : Type 0} (rows after : List Row) (items left : List X) → after ≡ kept_rows (take (to - from) (drop from names)) rows → left ≡ kept_items (take (to - from) (drop from names)) rows items →
      kept_items (drop to names) after left ≡ kept_items (drop from names) rows items
  items_step rows after items left is are =
      ap (λ rs. kept_items (drop to names) rs left) is
      ∙ (ap (λ xs. kept_items (drop to names) (kept_rows (take (to - from) (drop from names)) rows) xs) are
      ∙ (both_items (take (to - from) (drop from names)) (drop to names) rows items ∙ ap (λ ns. kept_items ns rows items) (part_and_rest names from to low)))

  pub pairs_step : {X : Type 0} (rows after : List Row) (items left : List X) → after ≡ kept_rows (take (to - from) (drop from names)) rows → left ≡ kept_pairs (take (to - from) (drop from names)) rows items →
      kept_pairs (drop to names) after left ≡ kept_pairs (drop from names) rows items
  pairs_step rows after items left is are =
      ap (λ rs. kept_pairs (drop to names) rs left) is
      ∙ (ap (λ xs. kept_pairs (drop to names) (kept_rows (take (to - from) (drop from names)) rows) xs) are
      ∙ (both_pairs (take (to - from) (drop from names)) (drop to names) rows items ∙ ap (λ ns. kept_pairs ns rows items) (part_and_rest names from to low)))

-- as many items come back as were lent
pub long_same : {X Z : Type 0} (v : Vec X Z) (ws : List X) → length (with_items v ws).items ≡ length v.items
long_same v ws = sym (with_items v ws).ok.0 ∙ v.ok.0
