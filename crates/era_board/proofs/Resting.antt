-- Where a pass stands that a board has just given.
use Rattle.std.proofs.Common.{◌≡◌, ℕ, List, [], ◌∷◌, ◌++◌, length, get_or, replicate, refl, sym, ap, ◌∙◌, subst, Some, length-append, arith}
use Rattle.std.specs.Prelude.{slice_get}
use mathlib.Core.Path.{Path}
use lib.ListN.{get_or-replicate}
use Rattle.board_rule.specs.declared.views.Account.{Account}
use Rattle.board_rule.specs.Accounts.{fresh}
use Rattle.era_board.specs.Periods.{IsAtRest}

module _ {O : Type 0} where
  fresh_rests : (o : O) (n i : ℕ) → IsAtRest (fresh o n i)
  fresh_rests o n i = let none_yet : List ℕ = replicate n 0 in record {
    known = omega arith;
    laid = λ to l other. get_or-replicate n to 0 0 l;
    taken = λ from l other. let e : get_or none_yet from 0 ≡ 0 = get_or-replicate n from 0 0 l in omega arith;
  }

  -- a fresh account is at rest, and has not arrived
  pub rests_when_fresh : (a : Account O) (o : O) (n i : ℕ) → Path (Account O) a (fresh o n i) → IsAtRest a × (a.number ≡ i) × (a.arrivals ≡ 0)
  rests_when_fresh a o n i e = (subst IsAtRest (sym e) (fresh_rests o n i), ap (λ (z : Account O). z.number) e, ap (λ (z : Account O). z.arrivals) e)

-- of a list of two that were popped in turn
pub two_popped : {A : Type 0} (l m k : List A) (x y : A) → l ≡ m ++ y ∷ [] → m ≡ k ++ x ∷ [] → length l ≡ 2 → (slice_get l 0 ≡ Some x) × (slice_get l 1 ≡ Some y)
two_popped {A} l m k x y e f len = let is : Path (List A) l ((k ++ x ∷ []) ++ y ∷ []) = e ∙ ap (λ (z : List A). z ++ y ∷ []) f in
    subst (λ (z : List A). (slice_get z 0 ≡ Some x) × (slice_get z 1 ≡ Some y)) (sym is) (go k (sym (ap length is) ∙ len))
  where
    go : (k' : List A) → length ((k' ++ x ∷ []) ++ y ∷ []) ≡ 2 → (slice_get ((k' ++ x ∷ []) ++ y ∷ []) 0 ≡ Some x) × (slice_get ((k' ++ x ∷ []) ++ y ∷ []) 1 ≡ Some y)
    go [] h = (refl, refl)
    go (z ∷ zs) h = absurd (omega (arith, length-append (zs ++ x ∷ []) (y ∷ []), length-append zs (x ∷ [])))
