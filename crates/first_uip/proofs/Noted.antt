-- The places of the flagged entries, from the oldest on, and the places that a search through the marked variables finds.
use Rattle.std.proofs.Common.{◌≡◌, ℕ, ◌==◌, ◌+◌, ◌-◌, ◌≤◌, ◌<◌, Bool, true, false, cond, List, [], ◌∷◌, ◌++◌, All, IsPermutation, append-nil, length, get_or, map, reverse, filter, count_by, sum_by, refl, ap, ap₂, ◌∙◌, sym, subst, arith, length-append}
use Rattle.std.specs.Prelude.{Some, slice_get}
use Rattle.std.specs.List.Sorted.{IsNonDecreasing}
use Rattle.std.proofs.lemmas.Bool.{cond_both, eqb-true}
use Rattle.std.proofs.lemmas.List.{reverse-append}
use Rattle.std.proofs.lemmas.List.Elements.{All-append, All-weaker, All-cons, All-nil}
use Rattle.std.proofs.lemmas.List.Sums.{sum_by-cons, sum_by-append}
use Rattle.std.proofs.lemmas.List.Sorted.{IsNonDecreasingBy-push, sum_by-IsPermutation}
use Rattle.lit_base.specs.declared.trail.Entry.{Entry}
use Rattle.lit_base.specs.Trail.{is_free}
use Rattle.lit_base.specs.Fits.{HasDistinctVariables}
use Rattle.trail_book.specs.TrailState.{place_of}
use Rattle.first_uip.specs.Marks.{one_if}
use Rattle.first_uip.specs.Places.{AreAt}
use Rattle.first_uip.proofs.Placed.{place_of-free}
use Rattle.first_uip.proofs.Standing.{newest_at, older_at}
use Rattle.first_uip.proofs.Sorted.{times, same_sorted}

-- the places of the entries whose variables pass the test
abbrev pub places_of : (ℕ → Bool) → List Entry → List ℕ
places_of has [] = []
places_of has (e ∷ older) = places_of has older ++ cond (has e.lit.variable) (length older ∷ []) []

-- each is below the number of entries, and there are no more of them
pub places_below : (has : ℕ → Bool) (rest : List Entry) → All (λ place. place < length rest) (places_of has rest)
places_below has [] = λ i d below. absurd (omega arith)
places_below has (e ∷ older) =
    All-append (λ place. place < length (e ∷ older)) (places_of has older) (cond (has e.lit.variable) (length older ∷ []) [])
    (All-weaker (λ place. place < length older) (λ place. place < length (e ∷ older)) (λ place low. omega arith) (places_of has older) (places_below has older))
    (cond_both (has e.lit.variable) (length older ∷ []) [] (All (λ place. place < length (e ∷ older)))
    (λ is. All-cons (λ place. place < length (e ∷ older)) (length older) [] (omega arith) (All-nil (λ place. place < length (e ∷ older))))
    (λ isnt. All-nil (λ place. place < length (e ∷ older))))

pub places_few : (has : ℕ → Bool) (rest : List Entry) → length (places_of has rest) ≤ length rest
places_few has [] = omega arith
places_few has (e ∷ older) =
    let few = places_few has older in
    let one : length (cond (has e.lit.variable) (length older ∷ []) []) ≤ 1 =
    cond_both (has e.lit.variable) (length older ∷ []) [] (λ ps. length ps ≤ 1) (λ is. omega arith) (λ isnt. omega arith) in
    omega (arith, length-append (places_of has older) (cond (has e.lit.variable) (length older ∷ []) []))

-- they rise
places_up : (has : ℕ → Bool) (rest : List Entry) → IsNonDecreasing (places_of has rest)
places_up has [] = λ i j d low below. absurd (omega arith)
places_up has (e ∷ older) =
    cond_both (has e.lit.variable) (length older ∷ []) [] (λ ps. IsNonDecreasing (places_of has older ++ ps))
    (λ is. IsNonDecreasingBy-push (λ x. x) (places_of has older) (length older) (places_up has older)
    (λ d some. let low : get_or (places_of has older) (length (places_of has older) - 1) d < length older = places_below has older (length (places_of has older) - 1) d (omega arith) in omega arith))
    (λ isnt. subst IsNonDecreasing (sym (append-nil (places_of has older))) (places_up has older))

-- the entries stand there
pub places_hold : (has : ℕ → Bool) (trail rest : List Entry) → ((place : ℕ) (e : Entry) → slice_get (reverse rest) place ≡ Some e → slice_get (reverse trail) place ≡ Some e) →
    AreAt trail (places_of has rest) (filter (λ e. has e.lit.variable) rest)
places_hold has trail [] up = refl
places_hold has trail (e ∷ older) up = by_test (has e.lit.variable) (places_hold has trail older (λ place x is. up place x (older_at e older place x is)))
  where
    by_test : (b : Bool) → AreAt trail (places_of has older) (filter (λ e. has e.lit.variable) older) → AreAt trail (places_of has older ++ cond b (length older ∷ []) []) (cond b (e ∷ filter (λ e. has e.lit.variable) older) (filter (λ e. has e.lit.variable) older))
    by_test true rest =
        ap (map (slice_get (reverse trail))) (reverse-append (places_of has older) (length older ∷ []))
        ∙ ap₂ (λ x xs. x ∷ xs) (up (length older) e (newest_at e older)) rest
    by_test false rest = ap (λ ps. map (slice_get (reverse trail)) (reverse ps)) (append-nil (places_of has older)) ∙ rest

-- sums by parts
sum_both : (f g h : ℕ → ℕ) (xs : List ℕ) → ((x : ℕ) → f x ≡ g x + h x) → sum_by f xs ≡ sum_by g xs + sum_by h xs
sum_both f g h [] split = omega arith
sum_both f g h (x ∷ xs) split = omega (arith, sum_by-cons f x xs, sum_by-cons g x xs, sum_by-cons h x xs, split x, sum_both f g h xs split)

sum_none : (f : ℕ → ℕ) (xs : List ℕ) → ((x : ℕ) → f x ≡ 0) → sum_by f xs ≡ 0
sum_none f [] none = refl
sum_none f (x ∷ xs) none = omega (arith, sum_by-cons f x xs, none x, sum_none f xs none)

-- one where the place of a variable is this one
abbrev one_at : ℕ → List Entry → ℕ → ℕ
one_at n rest v = one_if (λ at. at == n) (place_of rest v)

-- that of an entry's variable is its own
one_more_at : (n : ℕ) (e : Entry) (older : List Entry) (v : ℕ) → is_free older e.lit.variable ≡ true →
    one_at n (e ∷ older) v ≡ one_at n older v + cond (e.lit.variable == v) (cond (length older == n) 1 0) 0
one_more_at n e older v free = by_test (e.lit.variable == v) refl
  where
    by_test : (b : Bool) → (e.lit.variable == v) ≡ b → one_if (λ at. at == n) (cond b (Some (length older)) (place_of older v)) ≡ one_at n older v + cond b (cond (length older == n) 1 0) 0
    by_test true here =
        let none : one_at n older v ≡ 0 = ap (one_if (λ at. at == n)) (place_of-free v older (subst (λ w. is_free older w ≡ true) (eqb-true e.lit.variable v here) free)) in
        omega arith
    by_test false other = omega arith

-- a variable that is listed once counts once
once_at : (marked : List ℕ) (has b : Bool) (v : ℕ) → count_by (λ w. v == w) marked ≡ cond has 1 0 → sum_by (λ w. cond (v == w) (cond b 1 0) 0) marked ≡ cond has (cond b 1 0) 0
once_at marked has true v once = once
once_at marked has false v once =
    sum_none (λ w. cond (v == w) 0 0) marked (λ w. cond_both (v == w) 0 0 (λ n. n ≡ 0) (λ is. refl) (λ isnt. refl))
    ∙ cond_both has 0 0 (λ n. 0 ≡ n) (λ is. refl) (λ isnt. refl)

times_last : (n place : ℕ) (has : Bool) → times n (cond has (place ∷ []) []) ≡ cond has (cond (place == n) 1 0) 0
times_last n place true = sum_by-cons (λ x. cond (x == n) 1 0) place [] ∙ omega arith
times_last n place false = refl

-- each place stands there as often as it is that of a listed variable
times_found : (has : ℕ → Bool) (marked : List ℕ) (rest : List Entry) (n : ℕ) → HasDistinctVariables rest → ((v : ℕ) → count_by (λ w. v == w) marked ≡ cond (has v) 1 0) →
    times n (places_of has rest) ≡ sum_by (one_at n rest) marked
times_found has marked [] n distinct once = sym (sum_none (one_at n []) marked (λ v. refl))
times_found has marked (e ∷ older) n distinct once =
    omega (
      arith,
      sum_by-append (λ x. cond (x == n) 1 0) (places_of has older) (cond (has e.lit.variable) (length older ∷ []) []),
      times_last n (length older) (has e.lit.variable),
      times_found has marked older n distinct.1 once,
      once_at marked (has e.lit.variable) (length older == n) e.lit.variable (once e.lit.variable),
      sum_both (one_at n (e ∷ older)) (one_at n older) (λ v. cond (e.lit.variable == v) (cond (length older == n) 1 0) 0) marked (λ v. one_more_at n e older v distinct.0),
    )

-- so what was found of the listed variables, once it is sorted, are the places of the flagged entries
pub sorted_places : (has : ℕ → Bool) (marked : List ℕ) (rest : List Entry) (found sorted : List ℕ) → HasDistinctVariables rest → ((v : ℕ) → count_by (λ w. v == w) marked ≡ cond (has v) 1 0) →
    ((n : ℕ) → times n found ≡ sum_by (λ v. one_if (λ at. at == n) (place_of rest v)) marked) → IsPermutation found sorted → IsNonDecreasing sorted → sorted ≡ places_of has rest
sorted_places has marked rest found sorted distinct once counts moved up =
    same_sorted sorted (places_of has rest) up (places_up has rest)
    (λ n. sum_by-IsPermutation (λ x. cond (x == n) 1 0) found sorted moved ∙ (counts n ∙ sym (times_found has marked rest n distinct once)))
