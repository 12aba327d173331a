-- There is no room for the pigeons: n + 1 of them can't sit in n holes, each of them alone.
use Rattle.std.proofs.Common.{◌≡◌, ℕ, zero, suc, ◌+◌, ◌<◌, ◌≤◌, ◌==◌, Bool, true, false, List, [], ◌∷◌, ◌++◌, length, refl, sym, subst, ◌∙◌, ◌⊎◌, inl, inr, arith, length-append}
use Rattle.std.specs.Cmp.{nat_eq_equiv}
use Rattle.std.specs.List.{IsDistinct, list_any}
use Rattle.std.proofs.lemmas.Bool.{eqb-true, false_from_ne_true, or_cases}
use Rattle.std.proofs.lemmas.List.Folds.{list_any-append}
use Rattle.std.proofs.lemmas.Map.Keys.{IsDistinct-push}
use Rattle.std.proofs.lemmas.Map.Steps.{length-le_from_distinct_below}
use Rattle.lit_base.specs.Truth.{Satisfies}
use Rattle.formula_kinds.specs.Hole.{hole_formula}
use Rattle.formula_kinds.specs.Laws.{Sits, PigeonsSit}
use Rattle.formula_kinds.proofs.Pigeons.{pigeons}

-- the holes of the first k pigeons: no two are equal, and in each of them one of these pigeons sits
record Taken (n : ℕ) (model : List Bool) (k : ℕ) : Type 0 where
  holes : List ℕ
  many : length holes ≡ k
  apart : IsDistinct ◌==◌ holes
  each : (h : ℕ) → list_any (λ i. h == i) holes ≡ true → (p : ℕ) × (p < k) × (h < n) × Sits n model p h

-- where pigeon k sits is not taken
is_free : (n : ℕ) (model : List Bool) (k h : ℕ) (before : Taken n model k) → PigeonsSit n model → k ≤ n → h < n → Sits n model k h → list_any (λ i. h == i) before.holes ≡ false
is_free n model k h before sit within hole sits =
    false_from_ne_true _ (λ taken. let at = before.each h taken in sit.alone at.0 k h at.1 within hole at.3 sits)

taken_after : (n : ℕ) (model : List Bool) (k y : ℕ) (before : Taken n model k) → y < n → Sits n model k y →
    (h : ℕ) → list_any (λ i. h == i) (before.holes ++ y ∷ []) ≡ true → (p : ℕ) × (p < suc k) × (h < n) × Sits n model p h
taken_after n model k y before hole sits h is =
    by_part (or_cases _ _ (sym (list_any-append (λ i. h == i) before.holes (y ∷ [])) ∙ is))
  where
    by_part : (list_any (λ i. h == i) before.holes ≡ true) ⊎ (list_any (λ i. h == i) (y ∷ []) ≡ true) → (p : ℕ) × (p < suc k) × (h < n) × Sits n model p h
    by_part (inl front) = let at = before.each h front in (at.0, (let low : at.0 < suc k = omega arith in low), at.2, at.3)
    by_part (inr last) = here (or_cases (h == y) false last)
      where
        here : ((h == y) ≡ true) ⊎ (false ≡ true) → (p : ℕ) × (p < suc k) × (h < n) × Sits n model p h
        here (inl same) = let e : y ≡ h = sym (eqb-true h y same) in (k, omega arith, subst (λ (i : ℕ). i < n) e hole, subst (λ (i : ℕ). Sits n model k i) e sits)
        here (inr never) = cc

taken : (n : ℕ) (model : List Bool) → PigeonsSit n model → (k : ℕ) → k ≤ n + 1 → Taken n model k
unfolding IsDistinct
taken n model sit zero within = record { holes = []; many = refl; apart = tt; each = λ h never. cc }
taken n model sit (suc k) within =
    let before = taken n model sit k (omega arith) in
    let at = sit.somewhere k (omega arith) in
    record {
      holes = before.holes ++ at.0 ∷ [];
      many = let many = before.many in length-append before.holes (at.0 ∷ []) ∙ omega arith;
      apart = IsDistinct-push nat_eq_equiv before.holes at.0 before.apart (is_free n model k at.0 before sit (omega arith) at.1 at.2);
      each = taken_after n model k at.0 before at.1 at.2;
    }

-- no model satisfies the formula
pub no_room : (n : ℕ) (model : List Bool) → ¬ Satisfies model (hole_formula n)
no_room n model all =
    let full = taken n model ((pigeons n model).0 all) (n + 1) (omega arith) in
    let few : length full.holes ≤ n = length-le_from_distinct_below full.holes n full.apart (λ q is. (full.each q is).2) in
    let many = full.many in
    omega arith
