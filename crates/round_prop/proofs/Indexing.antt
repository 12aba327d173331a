-- Numbers of names in the order of the names, and a name that is looked for by them.
use Rattle.std.proofs.Common.{◌≡◌, ◌⊎◌, inl, inr, ℕ, zero, suc, ◌+◌, ◌<◌, ◌≤◌, ◌==◌, ◌||◌, ◌&&◌, Bool, true, false, cond, List, [], ◌∷◌, ◌++◌, length, take, drop, set, get_or, refl, ap, sym, ◌∙◌, subst, arith, All, Ordering, Less, Equal, Greater}
use Rattle.std.specs.Prelude.{nat_lt, Result, Ok, Err}
use Rattle.std.specs.Result.{is_ok}
use Rattle.std.specs.List.{list_any}
use Rattle.std.specs.List.Sorted.{IsPermutation, IsSortedByKey, IsNonDecreasingBy, IsBinarySearchResult, IsSearchInRange}
use Rattle.std.specs.Ordering.{is_lt, ordering_then, ordering_index, ordering_reverse}
use Rattle.std.specs.Cmp.{IsTotalOrder}
use Rattle.std.proofs.lemmas.Bool.{cases_lt, both_ways}
use Rattle.std.proofs.lemmas.Cmp.{then_total, on_total, nat_cmp_total}
use Rattle.std.proofs.lemmas.List.{get_or-drop, take_more_set}
use Rattle.std.proofs.lemmas.List.Folds.{list_any_none}
use Rattle.std.proofs.lemmas.List.MinMax.{ranks_by}
use Rattle.std.proofs.lemmas.List.Sorted.{sorted_far, list_any-IsPermutation}
use Rattle.lit_base.specs.Held.{is_among}
use Rattle.lit_base.specs.Named.{same_name}
use Rattle.lit_base.specs.Rounds.{original}
use Rattle.lit_base.specs.declared.name.Name.{Name}
use Rattle.lit_base.proofs.HeldClauses.{same_name-true}
use Rattle.round_prop.specs.Removal.{name_at, name_order, numbers_from, IsIndexOf}
use Rattle.round_prop.proofs.Keeping.{one_up, drop_one}

-- names are in a total order
name_total : IsTotalOrder name_order
name_total = then_total (on_total (λ (n : Name). n.period) nat_cmp_total) (then_total (on_total (λ (n : Name). n.core) nat_cmp_total) (on_total (λ (n : Name). n.index) nat_cmp_total))

equal_same : (a b : Name) → name_order a b ≡ Equal → same_name a b ≡ true
equal_same a b = by_tests (nat_lt a.period b.period) (a.period == b.period) (nat_lt a.core b.core) (a.core == b.core) (nat_lt a.index b.index) (a.index == b.index)
  where
    by_tests : (p q r s t u : Bool) →
        ordering_then (cond p Less (cond q Equal Greater)) (ordering_then (cond r Less (cond s Equal Greater)) (cond t Less (cond u Equal Greater))) ≡ Equal → (q && (s && u)) ≡ true
    by_tests true q r s t u is = cc
    by_tests false false r s t u is = cc
    by_tests false true true s t u is = cc
    by_tests false true false false t u is = cc
    by_tests false true false true true u is = cc
    by_tests false true false true false true is = refl
    by_tests false true false true false false is = cc

order_itself : (n : Name) → name_order n n ≡ Equal
order_itself n = by_order (name_order n n) (name_total.antisymm n n)
  where
    by_order : (o : Ordering) → o ≡ ordering_reverse o → o ≡ Equal
    by_order Less is = cc
    by_order Equal is = refl
    by_order Greater is = cc

same_equal : (a b : Name) → same_name a b ≡ true → name_order a b ≡ Equal
same_equal a b same = ap (λ n. name_order a n) (sym (same_name-true a b same)) ∙ order_itself a

-- where one name isn't before another, a third stands to it as to the other or earlier
rising : (a b n : Name) → is_lt (name_order b a) ≡ false → ordering_index (name_order a n) ≤ ordering_index (name_order b n)
rising a b n not_before = by_order (name_order b n) refl
  where
    most : (o : Ordering) → ordering_index o ≤ 2
    most Less = omega arith
    most Equal = omega arith
    most Greater = omega arith

    at_equal : (o : Ordering) → is_lt o ≡ false → ordering_index (ordering_reverse o) ≤ 1
    at_equal Less wrong = absurd (both_ways true wrong refl)
    at_equal Equal right = omega arith
    at_equal Greater right = omega arith

    at_less : (o : Ordering) → name_order b a ≡ o → is_lt o ≡ false → name_order b n ≡ Less → name_order a n ≡ Less
    at_less Less is wrong less = absurd (both_ways true wrong refl)
    at_less Equal is right less = sym (name_total.congr b a n is) ∙ less
    at_less Greater is right less = name_total.trans a b n (name_total.antisymm a b ∙ ap ordering_reverse is) less

    by_order : (o : Ordering) → name_order b n ≡ o → ordering_index (name_order a n) ≤ ordering_index o
    by_order Less is = let less = ap ordering_index (at_less (name_order b a) refl not_before is) in omega (arith, less)
    by_order Equal is =
        let back = name_total.antisymm a n ∙ ap ordering_reverse (sym (name_total.congr b n a is)) in
        subst (λ o. ordering_index o ≤ 1) (sym back) (at_equal (name_order b a) not_before)
    by_order Greater is = most (name_order a n)

index_rises : (names : List Name) (index : List ℕ) → IsSortedByKey (λ (at : ℕ). name_at names at) name_order index → (name : Name) →
    IsNonDecreasingBy (λ (at : ℕ). ordering_index (name_order (name_at names at) name)) index
index_rises names index sorted name i j d low below =
    rising (name_at names (get_or index i d)) (name_at names (get_or index j d)) name
    (sorted_far (λ (x y : ℕ). is_lt (name_order (name_at names x) (name_at names y))) (ranks_by name_total (λ (at : ℕ). name_at names at)) index sorted i j d low below)

numbers_up : (at count : ℕ) → numbers_from at (suc count) ≡ numbers_from at count ++ (at + count) ∷ []
numbers_up at zero = ap (λ n. n ∷ []) (let e : at ≡ at + 0 = omega arith in e)
numbers_up at (suc count) = ap (λ ns. at ∷ ns) (numbers_up (at + 1) count ∙ ap (λ n. numbers_from (at + 1) count ++ n ∷ []) (let e : at + 1 + count ≡ at + suc count = omega arith in e))

-- one number more
pub numbers_more : (places : List ℕ) (at number : ℕ) → number ≡ at → at < length places → take at places ≡ numbers_from 0 at → take (at + 1) (set places at number) ≡ numbers_from 0 (at + 1)
numbers_more places at number is inside front =
    take_more_set places at number inside
    ∙ (ap (λ ns. ns ++ number ∷ []) front
    ∙ (ap (λ n. numbers_from 0 at ++ n ∷ []) (let e : number ≡ 0 + at = omega (arith, is) in e) ∙ (sym (numbers_up 0 at) ∙ ap (λ n. numbers_from 0 n) (sym (one_up at)))))

numbered : (names later : List Name) (at : ℕ) (name : Name) → drop at names ≡ later → list_any (λ (i : ℕ). same_name (name_at names i) name) (numbers_from at (length later)) ≡ is_among later name
numbered names [] at name is = refl
numbered names (n ∷ later) at name is =
    ap (λ m. same_name m name || list_any (λ (i : ℕ). same_name (name_at names i) name) (numbers_from (at + 1) (length later))) here
    ∙ ap (λ b. same_name n name || b) (numbered names later (at + 1) name rest)
  where
    here : name_at names at ≡ n
    here = ap (λ i. get_or names i (original 0)) (let e : at ≡ at + 0 = omega arith in e) ∙ (sym (get_or-drop at names 0 (original 0)) ∙ ap (λ (ns : List Name). get_or ns 0 (original 0)) is)

    rest : drop (at + 1) names ≡ later
    rest = ap (λ i. drop i names) (one_up at) ∙ (drop_one names at ∙ ap (λ (ns : List Name). drop 1 ns) is)

-- the numbers of all names that were sorted by the names
pub indexed : (names : List Name) (numbers index : List ℕ) → numbers ≡ numbers_from 0 (length names) → IsPermutation numbers index → IsSortedByKey (λ (at : ℕ). name_at names at) name_order index → IsIndexOf names index
indexed names numbers index are same sorted = record {
  rises = index_rises names index sorted;
  all = λ name.
      sym (list_any-IsPermutation (λ (at : ℕ). same_name (name_at names at) name) numbers index same)
      ∙ (ap (λ ns. list_any (λ (at : ℕ). same_name (name_at names at) name) ns) are ∙ numbered names names 0 name refl);
}

any_at : (p : ℕ → Bool) (xs : List ℕ) (i d : ℕ) → i < length xs → p (get_or xs i d) ≡ true → list_any p xs ≡ true
any_at p [] i d inside is = absurd (omega (arith, inside))
any_at p (x ∷ xs) zero d inside is = ap (λ b. b || list_any p xs) is
any_at p (x ∷ xs) (suc i) d inside is = either (p x) (list_any p xs) (any_at p xs i d (omega (arith, inside)) is)
  where
    either : (a b : Bool) → b ≡ true → (a || b) ≡ true
    either true b is = refl
    either false b is = is

less_other : (a b : Name) → name_order a b ≡ Less → same_name a b ≡ false
less_other a b less = by_same (same_name a b) refl
  where
    never : Less ≡ Equal → ⊥
    never is = cc

    by_same : (s : Bool) → same_name a b ≡ s → same_name a b ≡ false
    by_same true is = absurd (never (sym less ∙ same_equal a b is))
    by_same false is = is

greater_other : (a b : Name) → name_order a b ≡ Greater → same_name a b ≡ false
greater_other a b greater = by_same (same_name a b) refl
  where
    never : Greater ≡ Equal → ⊥
    never is = cc

    by_same : (s : Bool) → same_name a b ≡ s → same_name a b ≡ false
    by_same true is = absurd (never (sym greater ∙ same_equal a b is))
    by_same false is = is

-- a search by halving finds exactly the names that are indexed
pub sought : (names : List Name) (index : List ℕ) (name : Name) (r : Result ℕ ℕ) → IsIndexOf names index → IsSearchInRange r (length index) →
    IsBinarySearchResult (λ (at : ℕ). name_order (name_at names at) name) index r → is_ok r ≡ is_among names name
sought names index name (Ok i) is inside found = sym (sym (is.all name) ∙ any_at (λ (at : ℕ). same_name (name_at names at) name) index i 0 inside (equal_same (name_at names (get_or index i 0)) name (found 0)))
sought names index name (Err i) is inside found = sym (sym (is.all name) ∙ list_any_none (λ (at : ℕ). same_name (name_at names at) name) index none)
  where
    none : All (λ (at : ℕ). same_name (name_at names at) name ≡ false) index
    none k d below = by_place (cases_lt k i)
      where
        by_place : (k < i) ⊎ (i ≤ k) → same_name (name_at names (get_or index k d)) name ≡ false
        by_place (inl before) = less_other (name_at names (get_or index k d)) name ((found (is.rises name)).0 k d (omega arith) before)
        by_place (inr behind) = greater_other (name_at names (get_or index k d)) name ((found (is.rises name)).1 k d behind below)

pub numbers_long : (at count : ℕ) → length (numbers_from at count) ≡ count
numbers_long at zero = refl
numbers_long at (suc count) = ap suc (numbers_long (at + 1) count)

-- what stands in front of others
pub front_of : (xs ys : List ℕ) (n : ℕ) → length xs ≡ n → take n (xs ++ ys) ≡ xs
front_of [] ys n long = ap (λ k. take k ys) (sym long)
front_of (x ∷ xs) ys zero long = absurd (omega (arith, long))
front_of (x ∷ xs) ys (suc n) long = ap (λ zs. x ∷ zs) (front_of xs ys n (omega (arith, long)))
