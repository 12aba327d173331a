-- What the steps of a heap keep: a variable rises, sinks, comes in or goes out.
use Rattle.std.proofs.Common.{◌≡◌, ℕ, zero, suc, ◌<◌, ◌≤◌, List, refl, ap, ◌∙◌, sym, subst, arith, ◌≢◌, ◌⊎◌, inl, inr}
use Rattle.std.proofs.lemmas.Bool.{cases_eq}
use Rattle.var_order.specs.declared.heap.Heap.{Heap}
use Rattle.var_order.specs.Heap.{var_at, parent_of, HaveSwapped, IsBelow, IsInOrder, IsHeap, IsHeapButUp, IsHeapButDown, IsBetterChild}

pub below_trans : (activities : List ℕ) (u v w : ℕ) → IsBelow activities u v → IsBelow activities v w → IsBelow activities u w
below_trans activities u v w first second = record {
  activity = omega (arith, first.activity, second.activity);
  number = λ same. omega (arith, first.activity, second.activity, first.number, second.number);
}

-- the same of variables that are read at other places
pub below_at : (activities : List ℕ) (v w x y : ℕ) → x ≡ v → y ≡ w → IsBelow activities v w → IsBelow activities x y
below_at activities v w x y x_is y_is below = subst (λ (z : ℕ). IsBelow activities z y) (sym x_is) (subst (λ (z : ℕ). IsBelow activities v z) (sym y_is) below)

-- a variable that is better than the one above it is swapped with it
pub risen : (activities : List ℕ) (old new : Heap) (at : ℕ) → 0 < at → at < old.size → IsHeapButUp at activities old → IsBelow activities (var_at old (parent_of at)) (var_at old at) →
    HaveSwapped old new at (parent_of at) → IsHeapButUp (parent_of at) activities new
risen activities old new at low high before better swapped = record { order = order; around = around }
  where
    same : (place : ℕ) → place ≢ at → place ≢ parent_of at → var_at new place ≡ var_at old place
    same = swapped.others

    order : (place : ℕ) → 0 < place → place < new.size → place ≢ parent_of at → IsInOrder activities new place
    order place some within apart = by_place (cases_eq place at)
      where
        inside : place < old.size
        inside = omega (arith, swapped.size)

        by_above : place ≢ at → (parent_of place ≡ at) ⊎ (parent_of place ≢ at) → (parent_of place ≡ parent_of at) ⊎ (parent_of place ≢ parent_of at) → IsInOrder activities new place
        by_above other (inl is) _ = below_at activities _ _ _ _ (same place other apart) (ap (var_at new) is ∙ swapped.first) (before.around place some inside is low)
        by_above other (inr _) (inl is) =
            below_at activities _ _ _ _ (same place other apart) (ap (var_at new) is ∙ swapped.second)
            (below_trans activities _ _ _ (before.order place some inside other) (below_at activities _ _ _ _ (ap (var_at old) is) refl better))
        by_above other (inr above) (inr beside) = below_at activities _ _ _ _ (same place other apart) (same (parent_of place) above beside) (before.order place some inside other)

        by_place : (place ≡ at) ⊎ (place ≢ at) → IsInOrder activities new place
        by_place (inl is) = below_at activities _ _ _ _ (ap (var_at new) is ∙ swapped.first) (ap (λ (p : ℕ). var_at new (parent_of p)) is ∙ swapped.second) better
        by_place (inr other) = by_above other (cases_eq (parent_of place) at) (cases_eq (parent_of place) (parent_of at))

    around : (place : ℕ) → 0 < place → place < new.size → parent_of place ≡ parent_of at → 0 < parent_of at → IsBelow activities (var_at new place) (var_at new (parent_of (parent_of at)))
    around place some within is above = by_place (cases_eq place at)
      where
        inside : place < old.size
        inside = omega (arith, swapped.size)

        top : var_at new (parent_of (parent_of at)) ≡ var_at old (parent_of (parent_of at))
        top = same (parent_of (parent_of at)) (omega arith) (omega arith)

        parent : IsInOrder activities old (parent_of at)
        parent = before.order (parent_of at) above (omega arith) (omega arith)

        by_place : (place ≡ at) ⊎ (place ≢ at) → IsBelow activities (var_at new place) (var_at new (parent_of (parent_of at)))
        by_place (inl same_place) = below_at activities _ _ _ _ (ap (var_at new) same_place ∙ swapped.first) top parent
        by_place (inr other) =
            below_at activities _ _ _ _ (same place other (omega arith)) top
            (below_trans activities _ _ _ (before.order place some inside other) (below_at activities _ _ _ _ (ap (var_at old) is) refl parent))

-- a variable is swapped with the best one right below it, which is better
pub sunk : (activities : List ℕ) (old new : Heap) (from at child : ℕ) → from ≤ at → IsHeapButDown from at activities old → IsBetterChild activities old at child →
    HaveSwapped old new at child → IsHeapButDown from child activities new
sunk activities old new from at child after before chosen swapped = record { order = order; around = around }
  where
    apart_from_child : at < child
    apart_from_child = omega (arith, chosen.low, chosen.below)

    order : (place : ℕ) → 0 < place → place < new.size → from ≤ parent_of place → parent_of place ≢ child → IsInOrder activities new place
    order place some within far apart = by_above (cases_eq (parent_of place) at)
      where
        inside : place < old.size
        inside = omega (arith, swapped.size)

        below_child : parent_of place ≡ at → (place ≡ child) ⊎ (place ≢ child) → IsInOrder activities new place
        below_child is (inl same) = below_at activities _ _ _ _ (ap (var_at new) same ∙ swapped.second) (ap (var_at new) is ∙ swapped.first) chosen.better
        below_child is (inr other) =
            below_at activities _ _ _ _ (swapped.others place (omega (arith, is)) other) (ap (var_at new) is ∙ swapped.first) (chosen.best place some inside is)

        elsewhere : parent_of place ≢ at → (place ≡ at) ⊎ (place ≢ at) → IsInOrder activities new place
        elsewhere other (inl is) =
            below_at activities _ _ _ _ (ap (var_at new) is ∙ swapped.first) (swapped.others (parent_of place) other apart ∙ ap (λ (p : ℕ). var_at old (parent_of p)) is)
            (before.around child chosen.low chosen.high chosen.below (omega (arith, is)) (subst (λ (p : ℕ). from ≤ parent_of p) is far))
        elsewhere other (inr beside) =
            below_at activities _ _ _ _ (swapped.others place beside (λ is. other (ap parent_of is ∙ chosen.below))) (swapped.others (parent_of place) other apart)
            (before.order place some inside far other)

        by_above : (parent_of place ≡ at) ⊎ (parent_of place ≢ at) → IsInOrder activities new place
        by_above (inl is) = below_child is (cases_eq place child)
        by_above (inr other) = elsewhere other (cases_eq place at)

    around : (place : ℕ) → 0 < place → place < new.size → parent_of place ≡ child → 0 < child → from ≤ parent_of child → IsBelow activities (var_at new place) (var_at new (parent_of child))
    around place some within is low far =
        below_at activities _ _ _ _ (swapped.others place (omega (arith, is, apart_from_child)) (omega (arith, is))) (ap (var_at new) chosen.below ∙ swapped.first)
        (below_at activities _ _ _ _ refl (ap (var_at old) (sym is)) (before.order place some (omega (arith, swapped.size)) (omega (arith, is, apart_from_child)) (λ same. absurd (omega (arith, is, same, apart_from_child)))))

below_refl : (activities : List ℕ) (v : ℕ) → IsBelow activities v v
below_refl activities v = record { activity = omega arith; number = λ _. omega arith }

-- no variable is better than the one at the top, as far as this place
top_up_to : (n : ℕ) (activities : List ℕ) (h : Heap) (place : ℕ) → IsHeap activities h → place ≤ n → place < h.size → IsBelow activities (var_at h place) (var_at h 0)
top_up_to zero activities h place heap low within = below_at activities _ _ _ _ (ap (var_at h) (let is : place ≡ 0 = omega arith in is)) refl (below_refl activities (var_at h 0))
top_up_to (suc n) activities h place heap low within = by_place (cases_eq place 0) (top_up_to n activities h (parent_of place) heap)
  where
    by_place : (place ≡ 0) ⊎ (place ≢ 0) → (parent_of place ≤ n → parent_of place < h.size → IsBelow activities (var_at h (parent_of place)) (var_at h 0)) → IsBelow activities (var_at h place) (var_at h 0)
    by_place (inl is) _ = below_at activities _ _ _ _ (ap (var_at h) is) refl (below_refl activities (var_at h 0))
    by_place (inr other) above = below_trans activities _ _ _ (heap.order place (omega arith) within (omega arith)) (above (omega arith) (omega arith))

-- no variable of a heap is better than the one at its top
pub top_is_best : (activities : List ℕ) (h : Heap) (place : ℕ) → IsHeap activities h → place < h.size → IsBelow activities (var_at h place) (var_at h 0)
top_is_best activities h place heap within = top_up_to place activities h place heap (omega arith) within
