-- What holds of the rows that are left, when those of some names have left.
use Rattle.std.proofs.Common.{◌≡◌, ◌⊎◌, inl, inr, ℕ, zero, suc, ◌+◌, ◌-◌, ◌*◌, ◌/◌, ◌%◌, ◌≤◌, Bool, true, false, cond, List, [], ◌∷◌, length, refl, ap, sym, ◌∙◌, subst, arith, All}
use Rattle.std.specs.Prelude.{⊤, Some, None, slice_get, map, if◌then◌else◌}
use Rattle.std.specs.List.{AllByRecursion}
use Rattle.std.proofs.lemmas.Bool.{cases_Bool, cases_eq, both_ways, cond-false, cond_both, eq-eqb, ne_eqb, not-true}
use Rattle.std.proofs.lemmas.List.Elements.{recursion_from_All, All-from_recursion}
use Rattle.std.proofs.lemmas.Option.{same_Some}
use Rattle.lit_base.specs.Literal.{Literal}
use Rattle.lit_base.specs.Named.{same_name, lits_at}
use Rattle.lit_base.specs.Held.{clauses_of, unused, is_among, clauses_without}
use Rattle.lit_base.specs.Rounds.{NamedClause}
use Rattle.lit_base.specs.declared.trail.Entry.{Entry}
use Rattle.lit_base.specs.declared.name.Name.{Name}
use Rattle.lit_base.proofs.HeldClauses.{same_name-itself, same_name-true, lits_at-without}
use Rattle.round_prop.specs.declared.node.Node.{Node}
use Rattle.round_prop.specs.declared.note.Note.{Note}
use Rattle.round_prop.specs.declared.row.Row.{Row}
use Rattle.round_prop.specs.Chains.{lits_of}
use Rattle.round_prop.specs.Linked.{IsLinked, IsGuarded, IsPending}
use Rattle.round_prop.specs.Noting.{IsNoted}
use Rattle.round_prop.specs.Readied.{row_names, flip, IsRow, AreRows, AreNamedApart}
use Rattle.round_prop.specs.Removal.{stays, kept_rows, kept_items, kept_pairs}
use Rattle.round_prop.proofs.Follow.{clauses_of-without_names}
use Rattle.round_prop.proofs.WalkSteps.{row_swap}

none-some : {X : Type 0} {x : X} → None ≡ Some x → ⊥
none-some is = cc

-- lengths of what is kept
pub items_long : {X : Type 0} (names : List Name) (rows : List Row) (items : List X) → length items ≡ length rows → length (kept_items names rows items) ≡ length (kept_rows names rows)
items_long names [] items long = refl
items_long names (row ∷ later) [] long = absurd (omega (arith, long))
items_long names (row ∷ later) (x ∷ items) long = by_test (stays names row) (items_long names later items (omega (arith, long)))
  where
    by_test : (b : Bool) → length (kept_items names later items) ≡ length (kept_rows names later) →
        length (cond b (x ∷ kept_items names later items) (kept_items names later items)) ≡ length (cond b (row ∷ kept_rows names later) (kept_rows names later))
    by_test true rest = ap suc rest
    by_test false rest = rest

pub pairs_long : {X : Type 0} (names : List Name) (rows : List Row) (items : List X) → length items ≡ 2 * length rows → length (kept_pairs names rows items) ≡ 2 * length (kept_rows names rows)
pairs_long names [] items long = refl
pairs_long names (row ∷ later) [] long = absurd (omega (arith, long))
pairs_long names (row ∷ later) (x ∷ []) long = absurd (omega (arith, long))
pairs_long names (row ∷ later) (x ∷ y ∷ items) long = by_test (stays names row) (pairs_long names later items (omega (arith, long)))
  where
    by_test : (b : Bool) → length (kept_pairs names later items) ≡ 2 * length (kept_rows names later) →
        length (cond b (x ∷ y ∷ kept_pairs names later items) (kept_pairs names later items)) ≡ 2 * length (cond b (row ∷ kept_rows names later) (kept_rows names later))
    by_test true rest = omega (arith, rest)
    by_test false rest = rest

pub rows_fewer : (names : List Name) (rows : List Row) → length (kept_rows names rows) ≤ length rows
rows_fewer names [] = omega arith
rows_fewer names (row ∷ later) = by_test (stays names row) (rows_fewer names later)
  where
    by_test : (b : Bool) → length (kept_rows names later) ≤ length later → length (cond b (row ∷ kept_rows names later) (kept_rows names later)) ≤ length (row ∷ later)
    by_test true rest = omega (arith, rest)
    by_test false rest = omega (arith, rest)

-- the literals of the nodes that are kept are those that are kept
pub lits_kept : (names : List Name) (rows : List Row) (nodes : List Node) → lits_of (kept_pairs names rows nodes) ≡ kept_pairs names rows (lits_of nodes)
lits_kept names [] nodes = refl
lits_kept names (row ∷ later) [] = refl
lits_kept names (row ∷ later) (x ∷ []) = refl
lits_kept names (row ∷ later) (x ∷ y ∷ nodes) = by_test (stays names row) (lits_kept names later nodes)
  where
    by_test : (b : Bool) → lits_of (kept_pairs names later nodes) ≡ kept_pairs names later (lits_of nodes) →
        lits_of (cond b (x ∷ y ∷ kept_pairs names later nodes) (kept_pairs names later nodes)) ≡
        cond b (x.lit ∷ y.lit ∷ kept_pairs names later (lits_of nodes)) (kept_pairs names later (lits_of nodes))
    by_test true rest = ap (λ ls. x.lit ∷ y.lit ∷ ls) rest
    by_test false rest = rest

-- what holds of all items holds of those that are kept
all_pairs : {X : Type 0} (P : X → Type 0) (names : List Name) (rows : List Row) (items : List X) → AllByRecursion P items → AllByRecursion P (kept_pairs names rows items)
all_pairs P names [] items all = tt
all_pairs P names (row ∷ later) [] all = tt
all_pairs P names (row ∷ later) (x ∷ []) all = tt
all_pairs P names (row ∷ later) (x ∷ y ∷ items) all =
    cond_both (stays names row) (x ∷ y ∷ kept_pairs names later items) (kept_pairs names later items) (AllByRecursion P)
    (λ kept. (all.0, (all.1.0, all_pairs P names later items all.1.1))) (λ left. all_pairs P names later items all.1.1)

pub All-pairs : {X : Type 0} (P : X → Type 0) (names : List Name) (rows : List Row) (items : List X) → All P items → All P (kept_pairs names rows items)
All-pairs P names rows items all = All-from_recursion P (kept_pairs names rows items) (all_pairs P names rows items (recursion_from_All P items all))

-- what holds of each row, its name and its two literals
abbrev EachRow : (Name → Literal → Literal → Type 0) → List Row → List Literal → Type 0
EachRow P [] lits = ⊤
EachRow P (row ∷ later) [] = ⊥
EachRow P (row ∷ later) (a ∷ []) = ⊥
EachRow P (row ∷ later) (a ∷ b ∷ lits) = P row.name a b × EachRow P later lits

flip_two : (n : ℕ) → flip (suc (suc n)) ≡ suc (suc (flip n))
flip_two n = by_test (cases_eq (n % 2) 0)
  where
    by_test : (n % 2 ≡ 0) ⊎ (n % 2 ≡ 0 → ⊥) → flip (suc (suc n)) ≡ suc (suc (flip n))
    by_test (inl even) =
        let here : flip n ≡ n + 1 = ap (λ (b : Bool). if b then n + 1 else n - 1) (eq-eqb (n % 2) 0 even) in
        let there : flip (suc (suc n)) ≡ suc (suc n) + 1 = ap (λ (b : Bool). if b then suc (suc n) + 1 else suc (suc n) - 1) (eq-eqb (suc (suc n) % 2) 0 (omega (arith, even))) in
        omega (arith, here, there)
    by_test (inr odd) =
        let here : flip n ≡ n - 1 = ap (λ (b : Bool). if b then n + 1 else n - 1) (ne_eqb (n % 2) 0 odd) in
        let there : flip (suc (suc n)) ≡ suc (suc n) - 1 = ap (λ (b : Bool). if b then suc (suc n) + 1 else suc (suc n) - 1) (ne_eqb (suc (suc n) % 2) 0 (λ even. odd (omega (arith, even)))) in
        let some : 1 ≤ n = at_least n odd in
        omega (arith, here, there, some)
      where
        at_least : (n : ℕ) → (n % 2 ≡ 0 → ⊥) → 1 ≤ n
        at_least zero odd = absurd (odd refl)
        at_least (suc n) odd = omega arith

half_two : (n : ℕ) → suc (suc n) / 2 ≡ suc (n / 2)
half_two n = omega arith

-- what holds at each node
abbrev AtNodes : (Name → Literal → Literal → Type 0) → List Row → List Literal → Type 0
AtNodes P rows lits = (n : ℕ) (name : Name) (a b : Literal) → slice_get (row_names rows) (n / 2) ≡ Some name → slice_get lits n ≡ Some a → slice_get lits (flip n) ≡ Some b → P name a b

each_row : (P : Name → Literal → Literal → Type 0) (rows : List Row) (lits : List Literal) → length lits ≡ 2 * length rows → AtNodes P rows lits → EachRow P rows lits
each_row P [] lits long at = tt
each_row P (row ∷ later) [] long at = absurd (omega (arith, long))
each_row P (row ∷ later) (a ∷ []) long at = absurd (omega (arith, long))
each_row P (row ∷ later) (a ∷ b ∷ lits) long at = (
  at 0 row.name a b refl refl refl,
  each_row P later lits (omega (arith, long)) (λ n name x y named one two.
      at (suc (suc n)) name x y (ap (λ k. slice_get (row_names (row ∷ later)) k) (half_two n) ∙ named) one (ap (λ k. slice_get (a ∷ b ∷ lits) k) (flip_two n) ∙ two)),
)

at_nodes : (P : Name → Literal → Literal → Type 0) → ((name : Name) (a b : Literal) → P name a b → P name b a) → (rows : List Row) (lits : List Literal) → EachRow P rows lits → AtNodes P rows lits
at_nodes P swap [] lits each n name a b named one two = absurd (none-some named)
at_nodes P swap (row ∷ later) [] each n name a b named one two = absurd each
at_nodes P swap (row ∷ later) (p ∷ []) each n name a b named one two = absurd each
at_nodes P swap (row ∷ later) (p ∷ q ∷ lits) each zero name a b named one two =
    same_row row.name name p a q b (same_Some row.name name named) (same_Some p a one) (same_Some q b two) each.0
  where
    same_row : (m n : Name) (p a q b : Literal) → m ≡ n → p ≡ a → q ≡ b → P m p q → P n a b
    same_row m n p a q b same one two holds = subst (λ z. P n a z) two (subst (λ z. P n z q) one (subst (λ z. P z p q) same holds))
at_nodes P swap (row ∷ later) (p ∷ q ∷ lits) each (suc zero) name a b named one two =
    same_row row.name name q a p b (same_Some row.name name named) (same_Some q a one) (same_Some p b two) (swap row.name p q each.0)
  where
    same_row : (m n : Name) (p a q b : Literal) → m ≡ n → p ≡ a → q ≡ b → P m p q → P n a b
    same_row m n p a q b same one two holds = subst (λ z. P n a z) two (subst (λ z. P n z q) one (subst (λ z. P z p q) same holds))
at_nodes P swap (row ∷ later) (p ∷ q ∷ lits) each (suc (suc n)) name a b named one two =
    at_nodes P swap later lits each.1 n name a b (ap (λ k. slice_get (row_names (row ∷ later)) k) (sym (half_two n)) ∙ named) one
    (ap (λ k. slice_get (p ∷ q ∷ lits) k) (sym (flip_two n)) ∙ two)

each_kept : (P Q : Name → Literal → Literal → Type 0) (names : List Name) → ((name : Name) (a b : Literal) → is_among names name ≡ false → P name a b → Q name a b) →
    (rows : List Row) (lits : List Literal) → EachRow P rows lits → EachRow Q (kept_rows names rows) (kept_pairs names rows lits)
each_kept P Q names step [] lits each = tt
each_kept P Q names step (row ∷ later) [] each = absurd each
each_kept P Q names step (row ∷ later) (a ∷ []) each = absurd each
each_kept P Q names step (row ∷ later) (a ∷ b ∷ lits) each = by_test (stays names row) refl (each_kept P Q names step later lits each.1)
  where
    by_test : (d : Bool) → stays names row ≡ d → EachRow Q (kept_rows names later) (kept_pairs names later lits) →
        EachRow Q (cond d (row ∷ kept_rows names later) (kept_rows names later)) (cond d (a ∷ b ∷ kept_pairs names later lits) (kept_pairs names later lits))
    by_test true kept rest = (step row.name a b (not-true (is_among names row.name) kept) each.0, rest)
    by_test false left rest = rest

-- what is found without the clauses of some names
unused_same : (clauses : List NamedClause) → clauses_of (map unused clauses) ≡ clauses
unused_same [] = refl
unused_same (c ∷ later) = ap (λ cs. c ∷ cs) (unused_same later)

lits_at-less : (names : List Name) (clauses : List NamedClause) (n : Name) → lits_at (clauses_without names clauses) n ≡ cond (is_among names n) None (lits_at clauses n)
lits_at-less names clauses n =
    subst (λ cs. lits_at (clauses_without names cs) n ≡ cond (is_among names n) None (lits_at cs n)) (unused_same clauses)
    (ap (λ cs. lits_at cs n) (sym (clauses_of-without_names names (map unused clauses))) ∙ lits_at-without names (map unused clauses) n)

pub found_still : (names : List Name) (clauses : List NamedClause) (n : Name) (lits : List Literal) → is_among names n ≡ false → lits_at clauses n ≡ Some lits → lits_at (clauses_without names clauses) n ≡ Some lits
found_still names clauses n lits kept found = lits_at-less names clauses n ∙ (cond-false (is_among names n) None (lits_at clauses n) kept ∙ found)

row_left : (clauses : List NamedClause) (trail done : List Entry) (notes after : List Note) (names : List Name) (name : Name) (a b : Literal) → is_among names name ≡ false →
    (IsNoted notes name → IsNoted after name) → IsRow clauses trail done notes name a b → IsRow (clauses_without names clauses) trail done after name a b
row_left clauses trail done notes after names name a b kept noted row =
    record { lits = row.lits; found = found_still names clauses name row.lits kept row.found; pair = row.pair; met = by_case row.met }
  where
    by_case : (IsLinked trail row.lits a b × (IsGuarded trail a b ⊎ IsNoted notes name)) ⊎ IsPending trail done row.lits a b →
        (IsLinked trail row.lits a b × (IsGuarded trail a b ⊎ IsNoted after name)) ⊎ IsPending trail done row.lits a b
    by_case (inl (linked, inl guarded)) = inl (linked, inl guarded)
    by_case (inl (linked, inr old)) = inl (linked, inr (noted old))
    by_case (inr pending) = inr pending

-- each row that is left is right for the clauses that are left
pub rows_left : (clauses : List NamedClause) (trail done : List Entry) (notes after : List Note) (names : List Name) (rows : List Row) (lits : List Literal) → length lits ≡ 2 * length rows →
    ((name : Name) → is_among names name ≡ false → IsNoted notes name → IsNoted after name) → AreRows clauses trail done notes (row_names rows) lits →
    AreRows (clauses_without names clauses) trail done after (row_names (kept_rows names rows)) (kept_pairs names rows lits)
rows_left clauses trail done notes after names rows lits long noted are =
    at_nodes (IsRow (clauses_without names clauses) trail done after) (row_swap (clauses_without names clauses) trail done after) (kept_rows names rows) (kept_pairs names rows lits)
    (each_kept (IsRow clauses trail done notes) (IsRow (clauses_without names clauses) trail done after) names
    (λ name a b kept row. row_left clauses trail done notes after names name a b kept (noted name kept) row) rows lits
    (each_row (IsRow clauses trail done notes) rows lits long are))

-- names that stand apart
abbrev IsNotIn : Name → List Row → Type 0
IsNotIn name rows = AllByRecursion (λ (r : Row). same_name name r.name ≡ false) rows

abbrev AreApart : List Row → Type 0
AreApart [] = ⊤
AreApart (row ∷ later) = IsNotIn row.name later × AreApart later

not_in : (name : Name) (rows : List Row) → ((k : ℕ) → slice_get (row_names rows) k ≡ Some name → ⊥) → IsNotIn name rows
not_in name [] none = tt
not_in name (row ∷ later) none = (by_test (cases_Bool (same_name name row.name)), not_in name later (λ k at. none (suc k) at))
  where
    by_test : (same_name name row.name ≡ true) ⊎ (same_name name row.name ≡ false) → same_name name row.name ≡ false
    by_test (inl same) = absurd (none 0 (ap (λ n. Some n) (sym (same_name-true name row.name same))))
    by_test (inr other) = other

not_there : (name : Name) (rows : List Row) → IsNotIn name rows → (k : ℕ) → slice_get (row_names rows) k ≡ Some name → ⊥
not_there name [] none k at = none-some at
not_there name (row ∷ later) none zero at = both_ways (same_name name row.name) none.0 (subst (λ n. same_name name n ≡ true) (sym (same_Some row.name name at)) (same_name-itself name))
not_there name (row ∷ later) none (suc k) at = not_there name later none.1 k at

are_apart : (rows : List Row) → AreNamedApart (row_names rows) → AreApart rows
are_apart [] apart = tt
are_apart (row ∷ later) apart =
    (not_in row.name later (λ k at. never k (apart 0 (suc k) row.name refl at)), are_apart later (λ i j name one two. down i j (apart (suc i) (suc j) name one two)))
  where
    never : (k : ℕ) → 0 ≡ suc k → ⊥
    never k is = absurd (omega (arith, is))

    down : (i j : ℕ) → suc i ≡ suc j → i ≡ j
    down i j is = omega (arith, is)

named_apart : (rows : List Row) → AreApart rows → AreNamedApart (row_names rows)
named_apart [] apart i j name one two = absurd (none-some one)
named_apart (row ∷ later) apart zero zero name one two = refl
named_apart (row ∷ later) apart zero (suc j) name one two = absurd (not_there row.name later apart.0 j (two ∙ ap (λ n. Some n) (sym (same_Some row.name name one))))
named_apart (row ∷ later) apart (suc i) zero name one two = absurd (not_there row.name later apart.0 i (one ∙ ap (λ n. Some n) (sym (same_Some row.name name two))))
named_apart (row ∷ later) apart (suc i) (suc j) name one two = ap suc (named_apart later apart.1 i j name one two)

not_in_kept : (names : List Name) (name : Name) (rows : List Row) → IsNotIn name rows → IsNotIn name (kept_rows names rows)
not_in_kept names name [] none = tt
not_in_kept names name (row ∷ later) none =
    cond_both (stays names row) (row ∷ kept_rows names later) (kept_rows names later) (IsNotIn name) (λ kept. (none.0, not_in_kept names name later none.1)) (λ left. not_in_kept names name later none.1)

apart_kept : (names : List Name) (rows : List Row) → AreApart rows → AreApart (kept_rows names rows)
apart_kept names [] apart = tt
apart_kept names (row ∷ later) apart =
    cond_both (stays names row) (row ∷ kept_rows names later) (kept_rows names later) AreApart (λ kept. (not_in_kept names row.name later apart.0, apart_kept names later apart.1))
    (λ left. apart_kept names later apart.1)

-- those that are left have different names
pub apart_left : (names : List Name) (rows : List Row) → AreNamedApart (row_names rows) → AreNamedApart (row_names (kept_rows names rows))
apart_left names rows apart = named_apart (kept_rows names rows) (apart_kept names rows (are_apart rows apart))
