-- Flags by place, and a set of literals that has a flag for each.
use Rattle.std.proofs.Common.{◌≡◌, ℕ, zero, suc, ◌+◌, ◌≤◌, ◌<◌, ◌==◌, Bool, true, false, cond, ◌||◌, List, [], ◌∷◌, ◌++◌, length, get_or, set, drop, replicate, refl, sym, ap, ◌∙◌, arith}
use Rattle.std.specs.List.{list_any}
use Rattle.std.proofs.lemmas.Bool.{eqb-true}
use Rattle.std.proofs.lemmas.List.{get_or-set_other, drop_more, drop_all}
use Rattle.std.proofs.lemmas.List.Folds.{list_any_at}
use Rattle.std.proofs.lemmas.Grind.{get_or-set_at}
use Rattle.std.proofs.lemmas.Bool.Decides.{nat_tests}
use Rattle.lit_base.specs.Literal.{Literal, same}
use Rattle.lit_base.specs.LitSet.{with_lit, index_of}
use Rattle.lit_base.proofs.DistinctLits.{has, with_new, same-places}

-- a clear flag is clear wherever it is read
pub clear_at : (n k : ℕ) → get_or (replicate n false) k false ≡ false
clear_at zero k = refl
clear_at (suc n) zero = refl
clear_at (suc n) (suc k) = clear_at n k

-- a flag that is set is there
pub set_is_there : (flags : List Bool) (k : ℕ) → get_or flags k false ≡ true → k < length flags
set_is_there [] k is = cc
set_is_there (b ∷ bs) zero is = omega arith
set_is_there (b ∷ bs) (suc k) is = let later = set_is_there bs k is in omega arith

-- the flag of a literal of the list is there
pub flag_there : (flags : List Bool) (lits : List Literal) (i : ℕ) (x : Literal) → ((k : ℕ) → get_or flags k false ≡ list_any (λ m. index_of m == k) lits) → i < length lits
    → x ≡ get_or lits i x → index_of x < length flags
flag_there flags lits i x flagged in_range is =
    set_is_there flags (index_of x) (flagged (index_of x) ∙ list_any_at (λ m. index_of m == index_of x) lits i x in_range (ap (λ m. index_of m == index_of x) (sym is) ∙ same_number (index_of x)))
  where
    same_number : (n : ℕ) → (n == n) ≡ true
    same_number n = grind (arith, nat_tests)

-- with the flag of the next literal unset, a flag that is set still is that of a later one
pub unset_more : (flags : List Bool) (lits : List Literal) (i place : ℕ) (x : Literal) → i < length lits → x ≡ get_or lits i x → place ≡ index_of x → place < length flags
    → ((k : ℕ) → get_or flags k false ≡ true → list_any (λ m. index_of m == k) (drop i lits) ≡ true)
    → (k : ℕ) → get_or (set flags place false) k false ≡ true → list_any (λ m. index_of m == k) (drop (i + 1) lits) ≡ true
unset_more flags lits i place x in_range is at room left k still = by (place == k) refl
  where
    next : drop i lits ≡ x ∷ drop (i + 1) lits
    next = drop_more lits i x in_range ∙ ap (λ y. y ∷ drop (i + 1) lits) (sym is)

    by : (t : Bool) → (place == k) ≡ t → list_any (λ m. index_of m == k) (drop (i + 1) lits) ≡ true
    by true here = let gone : get_or (set flags place false) k false ≡ false = get_or-set_at flags place k false false (sym (eqb-true place k here)) room in cc
    by false other =
        let was : get_or flags k false ≡ true = sym (get_or-set_other flags place k false false (λ e. let same : (place == k) ≡ true = grind (arith, nat_tests) in cc)) ∙ still in
        let any : list_any (λ m. index_of m == k) (x ∷ drop (i + 1) lits) ≡ true = ap (list_any (λ m. index_of m == k)) (sym next) ∙ left k was in
        sym (ap (λ b. b || list_any (λ m. index_of m == k) (drop (i + 1) lits)) (ap (λ n. n == k) (sym at) ∙ other)) ∙ any

swapped : (m n : ℕ) → (m == n) ≡ (n == m)
swapped m n = grind (arith, nat_tests)

any_same : (lits : List Literal) (x : Literal) → list_any (same x) lits ≡ has lits x
any_same [] x = refl
any_same (l ∷ ls) x =
    ap (λ b. b || list_any (same x) ls) (same-places x l ∙ swapped (index_of x) (index_of l)) ∙ ap (λ b. (index_of l == index_of x) || b) (any_same ls x)

-- a literal that is put in
pub with_lit-is : (lits : List Literal) (x : Literal) → with_lit lits x ≡ with_new lits x
with_lit-is lits x = ap (λ b. cond b lits (lits ++ x ∷ [])) (any_same lits x)

-- behind all the literals no flag is set
pub all_unset : (flags : List Bool) (lits : List Literal) (i : ℕ) → length lits ≤ i → ((k : ℕ) → get_or flags k false ≡ true → list_any (λ m. index_of m == k) (drop i lits) ≡ true) → (k : ℕ) → get_or flags k false ≡ false
all_unset flags lits i all left k = by (get_or flags k false) refl
  where
    by : (t : Bool) → get_or flags k false ≡ t → get_or flags k false ≡ false
    by true is = let none : list_any (λ m. index_of m == k) (drop i lits) ≡ false = ap (list_any (λ m. index_of m == k)) (drop_all i lits all) in let some = left k is in cc
    by false is = is
