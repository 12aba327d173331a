-- Lemmas on running sums.
use Rattle.std.proofs.Common.{◌≡◌, ℕ, zero, suc, ◌+◌, ◌-◌, ◌<◌, ◌≤◌, List, [], ◌∷◌, ◌++◌, length, take, get_or, refl, ap, ◌∙◌, arith}
use Rattle.std.specs.Prelude.{sum}
use Rattle.std.proofs.lemmas.List.Sums.{sum_by-cons}
use Rattle.log_merge.specs.Sums.{Counted, next_start, counts_between, counted, AreRising}

-- there are as many counts as starts
pub length-counts_between : (starts : List ℕ) (end : ℕ) → length (counts_between starts end) ≡ length starts
length-counts_between [] end = refl
length-counts_between (start ∷ starts) end = ap suc (length-counts_between starts end)

-- so a place that has a count has a start
pub has_start : (starts : List ℕ) (end place : ℕ) (s : Counted) → counted starts end ≡ s → place < length s.counts → place < length starts
has_start starts end place s is within = omega (arith, ap (λ (v : Counted). length v.counts) is, length-counts_between starts end)

-- a start is the first one and the counts before it
pub start_at : (starts : List ℕ) (end place : ℕ) → AreRising starts end → place < length starts →
    get_or starts place 0 ≡ next_start starts end + sum (take place (counts_between starts end))
start_at [] end place rising within = absurd (omega arith)
start_at (start ∷ starts) end zero rising within = omega arith
start_at (start ∷ starts) end (suc place) rising within =
    let later = start_at starts end place rising.1 (omega arith) in
    let count = next_start starts end - start in
    omega (arith, later, rising.0, sum_by-cons (λ x. x) count (take place (counts_between starts end)))

-- a start and its count are within the end
pub start_fits : (starts : List ℕ) (end place : ℕ) → AreRising starts end → place < length starts →
    get_or starts place 0 + get_or (counts_between starts end) place 0 ≤ end
start_fits [] end place rising within = absurd (omega arith)
start_fits (start ∷ starts) end zero rising within = omega (arith, rising.0, next_fits starts end rising.1)
  where
    next_fits : (starts : List ℕ) (end : ℕ) → AreRising starts end → next_start starts end ≤ end
    next_fits [] end rising = omega arith
    next_fits (start ∷ starts) end rising = omega (arith, rising.0, next_fits starts end rising.1)
start_fits (start ∷ starts) end (suc place) rising within = start_fits starts end place rising.1 (omega arith)

-- the end is the first start and all counts
pub end_is : (starts : List ℕ) (end : ℕ) → AreRising starts end → end ≡ next_start starts end + sum (counts_between starts end)
end_is [] end rising = omega arith
end_is (start ∷ starts) end rising =
    omega (arith, rising.0, end_is starts end rising.1, sum_by-cons (λ x. x) (next_start starts end - start) (counts_between starts end))

-- one more count begins at the end
pub next_start-push : (starts : List ℕ) (end count : ℕ) → next_start (starts ++ end ∷ []) (end + count) ≡ next_start starts end
next_start-push [] end count = refl
next_start-push (start ∷ starts) end count = refl

pub counts_between-push : (starts : List ℕ) (end count : ℕ) → counts_between (starts ++ end ∷ []) (end + count) ≡ counts_between starts end ++ count ∷ []
counts_between-push [] end count = ap (λ n. n ∷ []) (omega arith)
counts_between-push (start ∷ starts) end count =
    ap (λ next. (next - start) ∷ counts_between (starts ++ end ∷ []) (end + count)) (next_start-push starts end count)
    ∙ ap (λ later. (next_start starts end - start) ∷ later) (counts_between-push starts end count)

pub AreRising-push : (starts : List ℕ) (end count : ℕ) → AreRising starts end → AreRising (starts ++ end ∷ []) (end + count)
AreRising-push [] end count rising = (omega arith, tt)
AreRising-push (start ∷ starts) end count rising = (omega (arith, rising.0, next_start-push starts end count), AreRising-push starts end count rising.1)
