-- What holds of each element of a list, and lists whose elements are distinct.
use Rattle.std.proofs.Common.{◌≡◌, Bool, false, List, [], ◌∷◌, ◌++◌, filter}
use Rattle.std.specs.List.{AllByRecursion, IsDistinct}
use Rattle.std.proofs.ByRecursion.{all_kept_by}
use Rattle.std.proofs.lemmas.Bool.{cond_both}

-- what follows for each element from what holds of each
pub each_when : {X : Type 0} (P Q : X → Type 0) → ((x : X) → P x → Q x) → (xs : List X) → AllByRecursion P xs → AllByRecursion Q xs
each_when P Q step [] all = tt
each_when P Q step (x ∷ xs) all = (step x all.0, each_when P Q step xs all.1)

-- what holds of each element, and of one more at the end
pub one_more : {X : Type 0} (P : X → Type 0) (xs : List X) (x : X) → AllByRecursion P xs → P x → AllByRecursion P (xs ++ x ∷ [])
one_more P [] x all one = (one, tt)
one_more P (y ∷ ys) x all one = (all.0, one_more P ys x all.1 one)

-- what a filter keeps of distinct elements is distinct
pub IsDistinct-filter : {X : Type 0} (eq : X → X → Bool) (p : X → Bool) (xs : List X) → IsDistinct eq xs → IsDistinct eq (filter p xs)
unfolding IsDistinct
IsDistinct-filter eq p [] apart = tt
IsDistinct-filter eq p (x ∷ xs) apart =
    cond_both (p x) (x ∷ filter p xs) (filter p xs) (IsDistinct eq) (λ kept. (all_kept_by p (λ y. eq x y ≡ false) xs apart.0, IsDistinct-filter eq p xs apart.1))
    (λ dropped. IsDistinct-filter eq p xs apart.1)

-- distinct elements and one more
pub distinct_more : {X : Type 0} (eq : X → X → Bool) (xs : List X) (x : X) → IsDistinct eq xs → AllByRecursion (λ y. eq y x ≡ false) xs → IsDistinct eq (xs ++ x ∷ [])
unfolding IsDistinct
distinct_more eq [] x apart differ = (tt, tt)
distinct_more eq (y ∷ ys) x apart differ = (one_more (λ z. eq y z ≡ false) ys x apart.0 differ.0, distinct_more eq ys x apart.1 differ.1)
