-- What a pick keeps while it takes variables out, and what it gives in the end.
use Rattle.std.proofs.Common.{◌≡◌, ℕ, ◌+◌, ◌-◌, ◌<◌, ◌≤◌, true, List, length, get_or, refl, ap, ◌∙◌, sym, arith}
use Rattle.std.specs.Prelude.{Option, Some, None}
use Rattle.std.proofs.lemmas.Bool.{ltb-true}
use Rattle.lit_base.specs.Trail.{is_free}
use Rattle.lit_base.specs.declared.trail.Entry.{Entry}
use Rattle.var_order.specs.declared.heap.Heap.{Heap}
use Rattle.var_order.specs.Heap.{var_at, place_of, order_by, ArePlaced, IsBelow, IsIndexed}
use Rattle.var_order.specs.Laws.{IsChoice, IsBestChoice}
use Rattle.var_order.specs.Order.{OrderState, activity_at, is_present, HasAllFree, pick_of}
use Rattle.var_order.proofs.Best.{pick_is_best, best_is_pick}
use Rattle.var_order.proofs.Heaps.{below_at, top_is_best}
use Rattle.var_order.proofs.Members.{member}

-- an order from which variables were taken out, none of them free
pub record IsLeftOf (before now : OrderState) (trail : List Entry) : Type 0 where
  pub activities : now.activities ≡ before.activities
  pub free : HasAllFree now trail
  pub fewer : (v : ℕ) → is_present now v ≡ true → is_present before v ≡ true
  pub others : (v : ℕ) → 1 ≤ v → is_free trail v ≡ true → is_present now v ≡ is_present before v

-- a variable that can be chosen stands in the heap
choice_stands : (activities : List ℕ) (h : Heap) (trail : List Entry) (v : ℕ) → ArePlaced (length activities) h → HasAllFree (order_by activities h) trail → IsChoice activities trail v → place_of h (v - 1) < h.size
choice_stands activities h trail v placed all choice =
    ltb-true _ _ (sym (member (length activities) h (v - 1) placed (omega (arith, choice.low, choice.high))) ∙ all v choice.low choice.high choice.free)

-- the variable at the top of the heap, if it is free, is the best choice
top_is_choice : (activities : List ℕ) (h : Heap) (trail : List Entry) → IsIndexed activities h → HasAllFree (order_by activities h) trail → 0 < h.size →
    is_free trail (var_at h 0 + 1) ≡ true → IsBestChoice activities trail (var_at h 0 + 1)
top_is_choice activities h trail index all some free = record {
  choice = record { low = omega arith; high = omega (arith, index.placed.var_within 0 (omega (arith, index.placed.size))); free = free };
  greatest = λ w choice. let own = activity_of_top in let b = (below w choice).activity in omega arith;
  lowest = λ w choice same. let own = activity_of_top in let e = (below w choice).number (omega (arith, same, own)) in omega (arith, choice.low);
}
  where
    activity_of_top : activity_at activities (var_at h 0 + 1) ≡ get_or activities (var_at h 0) 0
    activity_of_top = ap (λ (p : ℕ). get_or activities p 0) (let e : (var_at h 0 + 1) - 1 ≡ var_at h 0 = omega arith in e)

    below : (w : ℕ) → IsChoice activities trail w → IsBelow activities (w - 1) (var_at h 0)
    below w choice =
        below_at activities _ _ _ _ (sym (index.placed.var_back (w - 1) (omega (arith, choice.low, choice.high)))) refl
        (top_is_best activities h (place_of h (w - 1)) index.heap (choice_stands activities h trail w index.placed all choice))

-- the variable at the top of the heap, if it is free, is picked
pub top_is_picked : (activities : List ℕ) (h : Heap) (trail : List Entry) → IsIndexed activities h → HasAllFree (order_by activities h) trail → 0 < h.size →
    is_free trail (var_at h 0 + 1) ≡ true → pick_of activities trail ≡ Some (var_at h 0 + 1)
top_is_picked activities h trail index all some free = best_is_pick activities trail (var_at h 0 + 1) (top_is_choice activities h trail index all some free)

-- where the heap is empty, none is picked
pub none_is_picked : (activities : List ℕ) (h : Heap) (trail : List Entry) → IsIndexed activities h → HasAllFree (order_by activities h) trail → h.size ≡ 0 → pick_of activities trail ≡ None
none_is_picked activities h trail index all none = by_pick (pick_of activities trail) refl
  where
    by_pick : (picked : Option ℕ) → pick_of activities trail ≡ picked → picked ≡ None
    by_pick None is = refl
    by_pick (Some v) is = absurd (omega (arith, choice_stands activities h trail v index.placed all (pick_is_best activities trail v is).choice, none))
