-- Running sums: the places at which counts begin, and where the last of them ends.
use Rattle.std.specs.Prelude.{ℕ, ◌-◌, ◌≤◌, ◌<◌, ◌^◌, ⊤, List, [], ◌∷◌}

-- counts, and the number that stands before the first of them
pub record Counted : Type 0 where
  pub first : ℕ
  pub counts : List ℕ

-- the first of the starts, and the end where there is none
abbrev pub next_start : List ℕ → ℕ → ℕ
next_start [] end = end
next_start (start ∷ starts) end = start

-- how far it is from each start to the next, and from the last one to the end
abbrev pub counts_between : List ℕ → ℕ → List ℕ
counts_between [] end = []
counts_between (start ∷ starts) end = (next_start starts end - start) ∷ counts_between starts end

-- the counts that begin at these starts
abbrev pub counted : List ℕ → ℕ → Counted
counted starts end = record { first = next_start starts end; counts = counts_between starts end }

-- no start is above the next, nor the last one above the end
abbrev pub AreRising : List ℕ → ℕ → Type 0
AreRising [] end = ⊤
AreRising (start ∷ starts) end = (start ≤ next_start starts end) × AreRising starts end

-- they are running sums, and fit 64 bits
pub record AreSums (starts : List ℕ) (end : ℕ) : Type 0 where
  pub rising : AreRising starts end
  pub fits : end < 2 ^ 64
