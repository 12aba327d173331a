-- A list with the newest first, split at a place that is counted from the oldest.
use Rattle.std.proofs.Common.{◌≡◌, ℕ, ◌+◌, ◌<◌, ◌≤◌, List, [], ◌∷◌, ◌++◌, length, take, drop, reverse, get_or, ap, sym, ◌∙◌, arith}
use Rattle.std.proofs.lemmas.List.{take_more, take_at, get_or_at, take-append-drop, append_assoc, reverse-append, reverse-reverse, length-reverse, length-append, length-take-le}
use mathlib.Core.List.{reverse-cons}

-- the items so far with one more
pub newest : {X : Type 0} (items : List X) (i : ℕ) (d : X) → i < length items → reverse (take (i + 1) items) ≡ get_or items i d ∷ reverse (take i items)
newest items i d within = ap reverse (take_more items i d within) ∙ reverse-append (take i items) (get_or items i d ∷ [])

-- the items so far are the oldest of all
pub oldest : {X : Type 0} (items : List X) (i : ℕ) → reverse items ≡ reverse (drop i items) ++ reverse (take i items)
oldest items i = ap reverse (sym (take-append-drop i items)) ∙ reverse-append (take i items) (drop i items)

-- the item at a place has the older ones behind it
pub split : {X : Type 0} (items : List X) (i : ℕ) (d : X) → i < length items → reverse items ≡ reverse (drop (i + 1) items) ++ get_or items i d ∷ reverse (take i items)
split items i d within = oldest items (i + 1) ∙ ap (λ older. reverse (drop (i + 1) items) ++ older) (newest items i d within)

-- there are as many older ones as its place tells
pub older_length : {X : Type 0} (items : List X) (i : ℕ) → i ≤ length items → length (reverse (take i items)) ≡ i
older_length items i within = length-reverse (take i items) ∙ length-take-le i items within

-- what stands where a list is split
pub record IsSplit {X : Type 0} (items : List X) (place : ℕ) (x : X) (older : List X) : Type 0 where
  pub within : place < length items
  pub read : (d : X) → get_or items place d ≡ x
  pub rest : reverse (take place items) ≡ older

turned : {X : Type 0} (items newer older : List X) (x : X) → reverse items ≡ newer ++ x ∷ older → items ≡ reverse older ++ x ∷ reverse newer
turned items newer older x is =
    sym (reverse-reverse items)
    ∙ (ap reverse is
    ∙ (reverse-append newer (x ∷ older)
    ∙ (ap (λ xs. xs ++ reverse newer) (reverse-cons x older) ∙ append_assoc (reverse older) (x ∷ []) (reverse newer))))

pub split_read : {X : Type 0} (items newer older : List X) (x : X) (place : ℕ) → reverse items ≡ newer ++ x ∷ older → length older ≡ place → IsSplit items place x older
split_read items newer older x place is size =
    let all = turned items newer older x is in
    let long : length (reverse older) ≡ place = length-reverse older ∙ size in
    let total : length items ≡ length (reverse older) + length (x ∷ reverse newer) = ap length all ∙ length-append (reverse older) (x ∷ reverse newer) in
    record {
      within = omega arith;
      read = λ d. ap (λ xs. get_or xs place d) all ∙ get_or_at (reverse older) x (reverse newer) d place long;
      rest = ap (λ xs. reverse (take place xs)) all ∙ (ap reverse (take_at (reverse older) (x ∷ reverse newer) place long) ∙ reverse-reverse older);
    }
