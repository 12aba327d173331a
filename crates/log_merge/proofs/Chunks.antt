-- Lemmas on counts that stand in rows of one length.
use Rattle.std.proofs.Common.{◌≡◌, ℕ, zero, suc, ◌+◌, ◌*◌, ◌<◌, ◌≤◌, List, [], ◌∷◌, ◌++◌, length, take, drop, get_or, refl, sym, ap, ◌∙◌, arith}
use Rattle.std.specs.Prelude.{sum}
use Rattle.std.specs.Simd.{first_chunks}
use Rattle.std.proofs.lemmas.List.{take_all, drop_all, take-take, length-drop, get_or-take, get_or-drop, take-append-le, drop-append-le}
use Rattle.std.proofs.lemmas.List.Sums.{sum_by-cons, sum_by-append, sum_by-take-drop}
use Rattle.std.proofs.Math.Seq.{take-add}
use Rattle.log_merge.specs.Numbering.{lemmas_in}

-- there are as many rows as are asked for
pub length-first_chunks : (width rows : ℕ) (xs : List ℕ) → length (first_chunks width rows xs) ≡ rows
length-first_chunks width zero xs = refl
length-first_chunks width (suc rows) xs = ap suc (length-first_chunks width rows (drop width xs))

-- the rows behind the first are as many fewer
rest_whole : (width rows : ℕ) (xs : List ℕ) → length xs ≡ suc rows * width → length (drop width xs) ≡ rows * width
rest_whole width rows xs whole = omega (arith, whole, length-drop width xs)

first_within : (width rows : ℕ) (xs : List ℕ) → length xs ≡ suc rows * width → width ≤ length xs
first_within width rows xs whole = omega (arith, whole)

-- a list with no element is empty
empty : (xs : List ℕ) → length xs ≤ 0 → xs ≡ []
empty xs none = drop_all 0 xs none

-- one more row
pub first_chunks-push : (width rows : ℕ) (xs row : List ℕ) → length xs ≡ rows * width → length row ≡ width →
    first_chunks width (suc rows) (xs ++ row) ≡ first_chunks width rows xs ++ row ∷ []
first_chunks-push width zero xs row whole one =
    ap (λ ys. take width (ys ++ row) ∷ []) (empty xs (omega (arith, whole))) ∙ ap (λ ys. ys ∷ []) (take_all width row (omega (arith, one)))
first_chunks-push width (suc rows) xs row whole one =
    let first = first_within width rows xs whole in
    ap (λ ys. ys ∷ first_chunks width (suc rows) (drop width (xs ++ row))) (take-append-le width xs row first)
    ∙ ap (λ ys. take width xs ∷ first_chunks width (suc rows) ys) (drop-append-le width xs row first)
    ∙ ap (λ ys. take width xs ∷ ys) (first_chunks-push width rows (drop width xs) row (rest_whole width rows xs whole) one)

-- rows of no width: none of them has an element
pub no_width-push : (rows : ℕ) (xs ys : List ℕ) → first_chunks 0 (suc rows) ys ≡ first_chunks 0 rows xs ++ [] ∷ []
no_width-push zero xs ys = refl
no_width-push (suc rows) xs ys = ap (λ later. [] ∷ later) (no_width-push rows xs ys)

pub no_width-sum : (rows : ℕ) (xs : List ℕ) → lemmas_in (first_chunks 0 rows xs) ≡ 0
no_width-sum zero xs = refl
no_width-sum (suc rows) xs = omega (arith, sum_by-cons sum [] (first_chunks 0 rows xs), no_width-sum rows xs)

-- the count of a row at a place
pub chunk_at : (width rows : ℕ) (xs : List ℕ) (row place : ℕ) → row < rows → place < width →
    get_or (get_or (first_chunks width rows xs) row []) place 0 ≡ get_or xs (row * width + place) 0
chunk_at width zero xs row place within inside = absurd (omega arith)
chunk_at width (suc rows) xs zero place within inside =
    let same : place ≡ 0 * width + place = omega arith in
    get_or-take width xs place 0 inside ∙ ap (λ n. get_or xs n 0) same
chunk_at width (suc rows) xs (suc row) place within inside =
    let same : width + (row * width + place) ≡ suc row * width + place = omega arith in
    chunk_at width rows (drop width xs) row place (omega arith) inside ∙ get_or-drop width xs (row * width + place) 0 ∙ ap (λ n. get_or xs n 0) same

-- the front of a list that is longer than a row: that row, and a front of the rest
sum_front : (width more : ℕ) (xs : List ℕ) → sum (take (width + more) xs) ≡ sum (take width xs) + sum (take more (drop width xs))
sum_front width more xs = ap sum (take-add width more xs) ∙ sum_by-append (λ x. x) (take width xs) (take more (drop width xs))

-- what stands before a place: the rows before, and in the row what stands before the place
pub chunk_sum : (width rows : ℕ) (xs : List ℕ) (row place : ℕ) → row < rows → place < width →
    sum (take (row * width + place) xs) ≡ lemmas_in (take row (first_chunks width rows xs)) + sum (take place (get_or (first_chunks width rows xs) row []))
chunk_sum width zero xs row place within inside = absurd (omega arith)
chunk_sum width (suc rows) xs zero place within inside =
    let same : 0 * width + place ≡ place = omega arith in
    let front : sum (take (0 * width + place) xs) ≡ sum (take place (take width xs)) = ap (λ n. sum (take n xs)) same ∙ ap sum (sym (take-take place width xs (omega arith))) in
    omega (arith, front)
chunk_sum width (suc rows) xs (suc row) place within inside =
    let same : suc row * width + place ≡ width + (row * width + place) = omega arith in
    let front : sum (take (suc row * width + place) xs) ≡ sum (take (width + (row * width + place)) xs) = ap (λ n. sum (take n xs)) same in
    omega (
      arith,
      front,
      sum_front width (row * width + place) xs,
      chunk_sum width rows (drop width xs) row place (omega arith) inside,
      sum_by-cons sum (take width xs) (take row (first_chunks width rows (drop width xs))),
    )

-- all rows together
pub chunks_sum : (width rows : ℕ) (xs : List ℕ) → length xs ≡ rows * width → lemmas_in (first_chunks width rows xs) ≡ sum xs
chunks_sum width zero xs whole = ap sum (sym (empty xs (omega (arith, whole))))
chunks_sum width (suc rows) xs whole =
    omega (
      arith,
      sum_by-cons sum (take width xs) (first_chunks width rows (drop width xs)),
      chunks_sum width rows (drop width xs) (rest_whole width rows xs whole),
      sum_by-take-drop (λ x. x) xs width,
    )
