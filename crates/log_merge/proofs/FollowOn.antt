-- The numbers of the log follow on.
use Rattle.std.proofs.Common.{◌≡◌, ℕ, zero, suc, ◌+◌, ◌-◌, ◌<◌, ◌≤◌, List, [], ◌∷◌, ◌++◌, length, take, drop, get_or, refl, sym, ap, ◌∙◌, subst, length-append, add-one, arith}
use Rattle.std.specs.Prelude.{⊤, sum}
use Rattle.std.proofs.lemmas.List.{take_all}
use Rattle.std.proofs.lemmas.List.Sums.{sum_by-cons, sum_by_more}
use Rattle.lit_base.specs.declared.name.Name.{Name}
use Rattle.solo_core.specs.declared.lemma.Lemma.{Lemma}
use Rattle.solo_core.specs.State.{lemma_name}
use Rattle.solo_core.specs.Log.{AreNumbered, NumbersOriginals}
use Rattle.solo_core.specs.Soundness.{AreNamed}
use Rattle.log_merge.specs.Numbering.{Numbering, lemmas_in, counts_in, number_before, number_of}
use Rattle.log_merge.specs.Log.{names_from, names_of_cores, names_of_periods, log_names, names_of_lemmas}
use Rattle.log_merge.proofs.Placed.{number_of-lemma}

pub numbers_originals : (n : Numbering) → NumbersOriginals (number_of n)
numbers_originals n index = refl

-- the number of a lemma's name
number_at : (n : Numbering) (period core index : ℕ) → 1 ≤ period → number_of n (lemma_name period core index) ≡ number_before n period core + index + 1
number_at n period core index begun = number_of-lemma n (lemma_name period core index) (λ none. omega (arith, none, begun))

-- the lemmas of a core have the numbers behind what stands before it
numbered_from : (n : Numbering) (period core index id : ℕ) (lemmas : List Lemma) → 1 ≤ period → id ≡ number_before n period core + index + 1 →
    AreNamed period core index lemmas → AreNumbered (number_of n) id lemmas
numbered_from n period core index id [] begun is named = tt
numbered_from n period core index id (lemma ∷ later) begun is named = (
  ap (number_of n) named.0 ∙ number_at n period core index begun ∙ sym is,
  numbered_from n period core (index + 1) (id + 1) later begun (omega (arith, is)) named.1,
)

pub numbered_in_core : (n : Numbering) (period core : ℕ) (lemmas : List Lemma) → 1 ≤ period → AreNamed period core 0 lemmas →
    AreNumbered (number_of n) (number_before n period core + 1) lemmas
numbered_in_core n period core lemmas begun named = numbered_from n period core 0 (number_before n period core + 1) lemmas begun (omega arith) named

pub first_core : (n : Numbering) → number_before n 1 0 ≡ n.originals
first_core n = omega arith

pub next_core : (n : Numbering) (period core : ℕ) → core < length (counts_in n period) →
    number_before n period (core + 1) ≡ number_before n period core + get_or (counts_in n period) core 0
next_core n period core within = omega (arith, sum_by_more (λ x. x) (counts_in n period) core 0 within)

-- a period takes as many numbers as it has lemmas
whole_period : (n : Numbering) (period : ℕ) → 1 ≤ period → period ≤ length n.periods →
    number_before n (period + 1) 0 ≡ number_before n period 0 + sum (counts_in n period)
whole_period n period begun ended =
    let same : period + 1 - 1 ≡ period - 1 + 1 = omega arith in
    omega (arith, ap (λ k. lemmas_in (take k n.periods)) same, sum_by_more sum n.periods (period - 1) [] (omega arith))

pub next_period : (n : Numbering) (period : ℕ) → 1 ≤ period → period ≤ length n.periods →
    number_before n (period + 1) 0 ≡ number_before n period (length (counts_in n period))
next_period n period begun ended =
    omega (arith, whole_period n period begun ended, ap sum (take_all (length (counts_in n period)) (counts_in n period) (omega arith)))

-- names that have the numbers from this one on
abbrev HaveNumbersFrom : (Name → ℕ) → ℕ → List Name → Type 0
HaveNumbersFrom number id [] = ⊤
HaveNumbersFrom number id (name ∷ later) = (number name ≡ id) × HaveNumbersFrom number (id + 1) later

HaveNumbersFrom-append : (number : Name → ℕ) (id mid : ℕ) (names later : List Name) → mid ≡ id + length names →
    HaveNumbersFrom number id names → HaveNumbersFrom number mid later → HaveNumbersFrom number id (names ++ later)
HaveNumbersFrom-append number id mid [] later is first second = subst (λ k. HaveNumbersFrom number k later) (omega (arith, is)) second
HaveNumbersFrom-append number id mid (name ∷ names) later is first second =
    (first.0, HaveNumbersFrom-append number (id + 1) mid names later (omega (arith, is)) first.1 second)

lemmas_numbered : (number : Name → ℕ) (id : ℕ) (lemmas : List Lemma) → HaveNumbersFrom number id (names_of_lemmas lemmas) → AreNumbered number id lemmas
lemmas_numbered number id [] names = tt
lemmas_numbered number id (lemma ∷ later) names = (names.0, lemmas_numbered number (id + 1) later names.1)

-- the names of a core's lemmas
length-names_from : (period core index count : ℕ) → length (names_from period core index count) ≡ count
length-names_from period core index zero = refl
length-names_from period core index (suc count) = ap suc (length-names_from period core (index + 1) count)

names_from_numbered : (n : Numbering) (period core index count id : ℕ) → 1 ≤ period → id ≡ number_before n period core + index + 1 →
    HaveNumbersFrom (number_of n) id (names_from period core index count)
names_from_numbered n period core index zero id begun is = tt
names_from_numbered n period core index (suc count) id begun is =
    (number_at n period core index begun ∙ sym is, names_from_numbered n period core (index + 1) count (id + 1) begun (omega (arith, is)))

-- what is known of a list whose rest from a place on is known
module _ {A : Type 0} (d : A) where
  rest_within : (xs : List A) (i : ℕ) (x : A) (rest : List A) → drop i xs ≡ x ∷ rest → i < length xs
  rest_within [] zero x rest is = cc
  rest_within [] (suc i) x rest is = cc
  rest_within (y ∷ ys) zero x rest is = omega arith
  rest_within (y ∷ ys) (suc i) x rest is = omega (arith, rest_within ys i x rest is)

  rest_first : (xs : List A) (i : ℕ) (x : A) (rest : List A) → drop i xs ≡ x ∷ rest → get_or xs i d ≡ x
  rest_first [] zero x rest is = cc
  rest_first [] (suc i) x rest is = cc
  rest_first (y ∷ ys) zero x rest is = cc
  rest_first (y ∷ ys) (suc i) x rest is = rest_first ys i x rest is

  rest_later : (xs : List A) (i : ℕ) (x : A) (rest : List A) → drop i xs ≡ x ∷ rest → drop (suc i) xs ≡ rest
  rest_later [] zero x rest is = cc
  rest_later [] (suc i) x rest is = cc
  rest_later (y ∷ ys) zero x rest is = cc
  rest_later (y ∷ ys) (suc i) x rest is = rest_later ys i x rest is

-- the names of the lemmas of the cores from one on
length-names_of_cores : (period core : ℕ) (counts : List ℕ) → length (names_of_cores period core counts) ≡ sum counts
length-names_of_cores period core [] = refl
length-names_of_cores period core (count ∷ later) =
    omega (
      arith,
      length-append (names_from period core 0 count) (names_of_cores period (core + 1) later),
      length-names_from period core 0 count,
      length-names_of_cores period (core + 1) later,
      sum_by-cons (λ x. x) count later,
    )

cores_numbered : (n : Numbering) (period core : ℕ) (counts : List ℕ) (id : ℕ) → 1 ≤ period → drop core (counts_in n period) ≡ counts →
    id ≡ number_before n period core + 1 → HaveNumbersFrom (number_of n) id (names_of_cores period core counts)
cores_numbered n period core [] id begun rest is = tt
cores_numbered n period core (count ∷ later) id begun rest is =
    let row = counts_in n period in
    let next = next_core n period core (rest_within 0 row core count later rest) in
    let here = rest_first 0 row core count later rest in
    HaveNumbersFrom-append (number_of n) id (id + count) (names_from period core 0 count) (names_of_cores period (core + 1) later) (omega (arith, length-names_from period core 0 count))
    (names_from_numbered n period core 0 count id begun (omega (arith, is)))
    (cores_numbered n period (core + 1) later (id + count) begun (ap (λ k. drop k row) (add-one core) ∙ rest_later 0 row core count later rest) (omega (arith, is, next, here)))

-- the names of the lemmas of the periods from one on
periods_numbered : (n : Numbering) (before : ℕ) (rows : List (List ℕ)) (id : ℕ) → drop before n.periods ≡ rows → id ≡ number_before n (before + 1) 0 + 1 →
    HaveNumbersFrom (number_of n) id (names_of_periods (before + 1) rows)
periods_numbered n before [] id rest is = tt
periods_numbered n before (counts ∷ later) id rest is =
    let back : before + 1 - 1 ≡ before = omega arith in
    let within = rest_within [] n.periods before counts later rest in
    let here : counts_in n (before + 1) ≡ counts = ap (λ k. get_or n.periods k []) back ∙ rest_first [] n.periods before counts later rest in
    HaveNumbersFrom-append (number_of n) id (id + sum counts) (names_of_cores (before + 1) 0 counts) (names_of_periods (before + 1 + 1) later)
    (omega (arith, length-names_of_cores (before + 1) 0 counts))
    (cores_numbered n (before + 1) 0 counts id (omega arith) here is)
    (periods_numbered n (before + 1) later (id + sum counts) (ap (λ k. drop k n.periods) (add-one before) ∙ rest_later [] n.periods before counts later rest)
    (omega (arith, is, whole_period n (before + 1) (omega arith) (omega (arith, within)), ap sum here)))

pub log_numbered : (n : Numbering) (lemmas : List Lemma) → names_of_lemmas lemmas ≡ log_names n → AreNumbered (number_of n) (n.originals + 1) lemmas
log_numbered n lemmas are =
    lemmas_numbered (number_of n) (n.originals + 1) lemmas
    (subst (HaveNumbersFrom (number_of n) (n.originals + 1)) (sym are) (periods_numbered n 0 n.periods (n.originals + 1) refl (omega arith)))
