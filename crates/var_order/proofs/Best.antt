-- The best of the variables up to one of them.
use Rattle.std.proofs.Common.{◌≡◌, ℕ, zero, suc, ◌≤◌, Bool, true, false, cond, not, ◌&&◌, List, length, refl, ap, subst, arith, ◌⊎◌, inl, inr}
use Rattle.std.specs.Prelude.{Option, Some, None, nat_lt}
use Rattle.std.proofs.lemmas.Bool.{and_from, ltb-true, ltb-false}
use Rattle.lit_base.specs.Trail.{is_free, is_full}
use Rattle.lit_base.proofs.FullTrail.{not_free}
use Rattle.lit_base.specs.declared.trail.Entry.{Entry}
use Rattle.var_order.specs.Order.{activity_at, beats, best_of, pick_of}
use Rattle.var_order.specs.Laws.{IsBestChoice}

-- what holds of the variables up to n and of the next one holds of those up to the next one
up_to_next : (n : ℕ) (P : ℕ → Type 0) → P (suc n) → ((w : ℕ) → 1 ≤ w → w ≤ n → P w) → (w : ℕ) → 1 ≤ w → w ≤ suc n → P w
up_to_next n P next below w low high = by_place (let split : (suc n ≡ w) ⊎ (w ≤ n) = grind arith in split)
  where
    by_place : (suc n ≡ w) ⊎ (w ≤ n) → P w
    by_place (inl is) = subst P is next
    by_place (inr lower) = below w low lower

-- a free variable w is not preferred to v: its activity isn't greater, and where it is the same, its number isn't lower
Yields : List ℕ → List Entry → ℕ → ℕ → Type 0
Yields activities trail v w = is_free trail w ≡ true → (activity_at activities w ≤ activity_at activities v) × (activity_at activities w ≡ activity_at activities v → v ≤ w)

-- v is free and the best of the variables up to n
record IsBestUpTo (n : ℕ) (activities : List ℕ) (trail : List Entry) (v : ℕ) : Type 0 where
  low : 1 ≤ v
  high : v ≤ n
  free : is_free trail v ≡ true
  others : (w : ℕ) → 1 ≤ w → w ≤ n → Yields activities trail v w

BestUpTo : ℕ → List ℕ → List Entry → Option ℕ → Type 0
BestUpTo n activities trail None = (w : ℕ) → 1 ≤ w → w ≤ n → is_free trail w ≡ false
BestUpTo n activities trail (Some v) = IsBestUpTo n activities trail v

-- the first free variable
first_best : (n : ℕ) (activities : List ℕ) (trail : List Entry) (b : Bool) → is_free trail (suc n) ≡ b → BestUpTo n activities trail None → BestUpTo (suc n) activities trail (cond (b && true) (Some (suc n)) None)
unfolding BestUpTo Yields
first_best n activities trail true free none = record {
  low = omega arith;
  high = omega arith;
  free = free;
  others = up_to_next n (Yields activities trail (suc n)) (λ own. (omega arith, λ same. omega arith)) (λ w low high. λ own. absurd (let h : ⊥ = cc (none w low high, own) in h));
}
first_best n activities trail false taken none = up_to_next n (λ w. is_free trail w ≡ false) taken none

-- a variable beats the best so far, or doesn't
next_best : (n : ℕ) (activities : List ℕ) (trail : List Entry) (v : ℕ) (b t : Bool) → is_free trail (suc n) ≡ b → nat_lt (activity_at activities v) (activity_at activities (suc n)) ≡ t → IsBestUpTo n activities trail v →
    BestUpTo (suc n) activities trail (cond (b && t) (Some (suc n)) (Some v))
unfolding BestUpTo Yields
next_best n activities trail v true true free more best =
    let above = ltb-true _ _ more in
    record {
      low = omega arith;
      high = omega arith;
      free = free;
      others = up_to_next n (Yields activities trail (suc n)) (λ own. (omega arith, λ same. omega arith))
          (λ w low high own. let before = best.others w low high own in (omega (arith, before.0, above), λ same. absurd (omega (arith, before.0, above, same))));
    }
next_best n activities trail v true false free more best =
    let above = ltb-false _ _ more in
    record {
      low = best.low;
      high = omega (arith, best.high);
      free = best.free;
      others = up_to_next n (Yields activities trail v) (λ own. (above, λ same. omega (arith, best.high))) best.others;
    }
next_best n activities trail v false t taken more best = record {
  low = best.low;
  high = omega (arith, best.high);
  free = best.free;
  others = up_to_next n (Yields activities trail v) (λ own. absurd (let h : ⊥ = cc in h)) best.others;
}

with_next : (n : ℕ) (activities : List ℕ) (trail : List Entry) (best : Option ℕ) → BestUpTo n activities trail best →
    BestUpTo (suc n) activities trail (cond (is_free trail (suc n) && beats activities best (suc n)) (Some (suc n)) best)
unfolding BestUpTo
with_next n activities trail None none = first_best n activities trail (is_free trail (suc n)) refl none
with_next n activities trail (Some v) best = next_best n activities trail v (is_free trail (suc n)) (nat_lt (activity_at activities v) (activity_at activities (suc n))) refl refl best

best_up_to : (n : ℕ) (activities : List ℕ) (trail : List Entry) → BestUpTo n activities trail (best_of n activities trail)
unfolding BestUpTo
best_up_to zero activities trail = λ w low high. absurd (omega arith)
best_up_to (suc n) activities trail = with_next n activities trail (best_of n activities trail) (best_up_to n activities trail)

-- the best of the variables up to n is one of them, and free
pub best_of-some : (n : ℕ) (activities : List ℕ) (trail : List Entry) (v : ℕ) → best_of n activities trail ≡ Some v → (1 ≤ v) × (v ≤ n) × (is_free trail v ≡ true)
unfolding BestUpTo
best_of-some n activities trail v is =
    let best : IsBestUpTo n activities trail v = subst (BestUpTo n activities trail) is (best_up_to n activities trail) in
    (best.low, best.high, best.free)

-- the variable that is picked is the best choice
pub pick_is_best : (activities : List ℕ) (trail : List Entry) (v : ℕ) → pick_of activities trail ≡ Some v → IsBestChoice activities trail v
unfolding BestUpTo Yields
pick_is_best activities trail v is =
    let best : IsBestUpTo (length activities) activities trail v = subst (BestUpTo (length activities) activities trail) is (best_up_to (length activities) activities trail) in
    record {
      choice = record { low = best.low; high = best.high; free = best.free };
      greatest = λ w other. (best.others w other.low other.high other.free).0;
      lowest = λ w other. (best.others w other.low other.high other.free).1;
    }

full_from_none_free : (n : ℕ) (trail : List Entry) → ((v : ℕ) → 1 ≤ v → v ≤ n → is_free trail v ≡ false) → is_full n trail ≡ true
full_from_none_free zero trail taken = refl
full_from_none_free (suc n) trail taken =
    and_from (not (is_free trail (suc n))) (is_full n trail) (ap not (taken (suc n) (omega arith) (omega arith)))
    (full_from_none_free n trail (λ v low high. taken v low (omega arith)))

-- where none of the variables up to n is the best, all of them stand on the trail
pub best_of-none : (n : ℕ) (activities : List ℕ) (trail : List Entry) → best_of n activities trail ≡ None → is_full n trail ≡ true
unfolding BestUpTo
best_of-none n activities trail is = full_from_none_free n trail (subst (BestUpTo n activities trail) is (best_up_to n activities trail))

-- where none is picked, the trail is full
pub none_where_full : (activities : List ℕ) (trail : List Entry) → pick_of activities trail ≡ None → is_full (length activities) trail ≡ true
none_where_full activities trail is = best_of-none (length activities) activities trail is

-- two best choices are one
one_best : (activities : List ℕ) (trail : List Entry) (v w : ℕ) → IsBestChoice activities trail v → IsBestChoice activities trail w → w ≡ v
one_best activities trail v w best other =
    let above = best.greatest w other.choice in
    let below = other.greatest v best.choice in
    omega (arith, above, below, best.lowest w other.choice (omega arith), other.lowest v best.choice (omega arith))

-- the best choice is the variable that is picked
pub best_is_pick : (activities : List ℕ) (trail : List Entry) (v : ℕ) → IsBestChoice activities trail v → pick_of activities trail ≡ Some v
best_is_pick activities trail v best = by_pick (pick_of activities trail) refl
  where
    by_pick : (picked : Option ℕ) → pick_of activities trail ≡ picked → picked ≡ Some v
    by_pick None is =
        let taken = not_free (length activities) v trail (none_where_full activities trail is) best.choice.low best.choice.high in
        cc (taken, best.choice.free)
    by_pick (Some w) is = ap Some (one_best activities trail v w best (pick_is_best activities trail w is))
