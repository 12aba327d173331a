-- Lemmas on steps that may fail.
use Rattle.std.proofs.Common.{◌≡◌, Bool, true, false, cond, refl, Result, Ok, Err}
use Rattle.lit_base.specs.Results.{on_ok}

pub on_ok-assoc : {A B C F : Type 0} (r : Result A F) (f : A → Result B F) (g : B → Result C F) → on_ok (on_ok r f) g ≡ on_ok r (λ x. on_ok (f x) g)
on_ok-assoc (Ok x) f g = refl
on_ok-assoc (Err fault) f g = refl

pub on_ok-same : {A B F : Type 0} (r : Result A F) (f g : A → Result B F) → ((x : A) → f x ≡ g x) → on_ok r f ≡ on_ok r g
on_ok-same (Ok x) f g same = same x
on_ok-same (Err fault) f g same = refl

-- two ways to go on from a step: one of two steps more, or another step
pub on_ok-either : {A B C F : Type 0} (t : Bool) (r : Result A F) (f : A → Result B F) (g : B → Result C F) (h : A → Result C F)
    → cond t (on_ok (on_ok r f) g) (on_ok r h) ≡ on_ok r (λ x. cond t (on_ok (f x) g) (h x))
on_ok-either true (Ok x) f g h = refl
on_ok-either false (Ok x) f g h = refl
on_ok-either true (Err fault) f g h = refl
on_ok-either false (Err fault) f g h = refl
