-- Sums of the first values of a function.
use Rattle.std.proofs.Common.{◌≡◌, ◌≢◌, ℕ, zero, suc, ◌+◌, ◌*◌, ◌<◌, ◌≤◌, ap, suc-mul, arith}
use mathlib.Core.Logic.{dite}
use native.Mathlib.Decide.{ℕ_discrete}
use Rattle.board_rule.specs.Board.{sum_to}

pub sum_same : (n : ℕ) (f g : ℕ → ℕ) → ((j : ℕ) → j < n → g j ≡ f j) → sum_to n g ≡ sum_to n f
sum_same zero f g e = omega arith
sum_same (suc n) f g e = let below = sum_same n f g (λ j l. e j (omega arith)) in let here = e n (omega arith) in omega arith

-- where two functions differ at one place alone, their sums differ by as much
pub sum_change : (n i : ℕ) (f g : ℕ → ℕ) → i < n → ((j : ℕ) → j ≢ i → g j ≡ f j) → sum_to n g + f i ≡ sum_to n f + g i
sum_change zero i f g l e = absurd (omega arith)
sum_change (suc n) i f g l e = dite (ℕ_discrete n i)
    (λ is. let below = sum_same n f g (λ j k. e j (λ x. omega arith)) in let a = ap f is in let b = ap g is in omega arith)
    (λ other. let below = sum_change n i f g (omega arith) e in let here = e n other in omega arith)

pub sum_most : (n c : ℕ) (f : ℕ → ℕ) → ((j : ℕ) → j < n → f j ≤ c) → sum_to n f ≤ n * c
sum_most zero c f h = omega arith
sum_most (suc n) c f h = let below = sum_most n c f (λ j l. h j (omega arith)) in let here = h n (omega arith) in omega (arith, suc-mul n c)

-- where one value is below what all are at most, so is the sum
pub sum_below : (n c i : ℕ) (f : ℕ → ℕ) → i < n → ((j : ℕ) → j < n → f j ≤ c) → f i < c → sum_to n f < n * c
sum_below zero c i f l h b = absurd (omega arith)
sum_below (suc n) c i f l h b = dite (ℕ_discrete n i)
    (λ is. let below = sum_most n c f (λ j k. h j (omega arith)) in let a = ap f is in omega (arith, suc-mul n c))
    (λ other. let below = sum_below n c i f (omega arith) (λ j k. h j (omega arith)) b in let here = h n (omega arith) in omega (arith, suc-mul n c))
