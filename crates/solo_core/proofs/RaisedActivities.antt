-- Activities that rise and are halved.
use Rattle.std.proofs.Common.{◌≡◌, ℕ, zero, suc, ◌==◌, ◌+◌, ◌-◌, ◌%◌, ◌^◌, ◌≤◌, ◌<◌, Bool, true, false, List, [], ◌∷◌, ◌++◌, length, get_or, set, take, refl, ap, sym, ◌∙◌, subst, arith, length-set, get_or-set_same, get_or-set_other}
use Rattle.std.specs.Prelude.{◌≢◌}
use Rattle.std.specs.List.{AllByRecursion, IsDistinct}
use Rattle.std.proofs.lemmas.Bool.{cond_both, eqb-true, eqb-false}
use Rattle.std.proofs.lemmas.List.{take_more}
use Rattle.std.proofs.lemmas.List.Elements.{recursion_from_All, All-from_recursion, All-take}
use Rattle.var_order.specs.Order.{activity_at, halves}
use Rattle.solo_core.specs.Turn.{raised, halved_at}
use Rattle.solo_core.specs.Searching.{AreActivitiesUpTo, AreVariables}

-- activities with one of them raised
abbrev pub raised_one : ℕ → ℕ → List ℕ → List ℕ
raised_one weight v activities = set activities (v - 1) (activity_at activities v + weight)

-- raising and halving keep the number of activities
pub length-raised : (weight : ℕ) (touched activities : List ℕ) → length (raised weight touched activities) ≡ length activities
length-raised weight [] activities = refl
length-raised weight (v ∷ later) activities =
    length-raised weight later (raised_one weight v activities) ∙ length-set activities (v - 1) (activity_at activities v + weight)

length-halves : (activities : List ℕ) → length (halves activities) ≡ length activities
length-halves [] = refl
length-halves (a ∷ later) = ap suc (length-halves later)

pub length-halved_at : (halve conflicts : ℕ) (activities : List ℕ) → length (halved_at halve conflicts activities) ≡ length activities
length-halved_at halve conflicts activities =
    cond_both (conflicts % halve == 0) (halves activities) activities (λ after. length after ≡ length activities) (λ due. length-halves activities) (λ early. refl)

-- the last of some variables is raised after the others
raised-pushed : (weight : ℕ) (touched : List ℕ) (v : ℕ) (activities : List ℕ) → raised weight (touched ++ v ∷ []) activities ≡ raised_one weight v (raised weight touched activities)
raised-pushed weight [] v activities = refl
raised-pushed weight (w ∷ later) v activities = raised-pushed weight later v (raised_one weight w activities)

pub raised-next : (weight : ℕ) (touched : List ℕ) (i d : ℕ) (activities : List ℕ) → i < length touched →
    raised weight (take (i + 1) touched) activities ≡ raised_one weight (get_or touched i d) (raised weight (take i touched) activities)
raised-next weight touched i d activities within =
    ap (λ vs. raised weight vs activities) (take_more touched i d within) ∙ raised-pushed weight (take i touched) (get_or touched i d) activities

-- the activities of other variables stay
others_stay : (weight : ℕ) (touched activities : List ℕ) (place : ℕ) → AllByRecursion (λ v. place ≢ (v - 1)) touched → get_or (raised weight touched activities) place 0 ≡ get_or activities place 0
others_stay weight [] activities place other = refl
others_stay weight (v ∷ later) activities place other =
    others_stay weight later (raised_one weight v activities) place other.1
    ∙ get_or-set_other activities (v - 1) place (activity_at activities v + weight) 0 other.0

-- variables that differ from one have other places
other_places : (n v : ℕ) (later : List ℕ) → 1 ≤ v → AllByRecursion (λ w. (v == w) ≡ false) later → AllByRecursion (λ w. (1 ≤ w) × (w ≤ n)) later → AllByRecursion (λ w. (v - 1) ≢ (w - 1)) later
other_places n v [] low differ within = tt
other_places n v (w ∷ later) low differ within = (
  (λ same. eqb-false v w differ.0 (let some : 1 ≤ w = within.0.0 in omega (arith, same, some))),
  other_places n v later low differ.1 within.1,
)

-- distinct variables are raised by no more than the weight
raised_by : (weight n : ℕ) (touched activities : List ℕ) (place : ℕ) → IsDistinct (λ v w. v == w) touched → AllByRecursion (λ v. (1 ≤ v) × (v ≤ n)) touched → n ≤ length activities →
    get_or (raised weight touched activities) place 0 ≤ get_or activities place 0 + weight
unfolding IsDistinct
raised_by weight n [] activities place apart within few = omega arith
raised_by weight n (v ∷ later) activities place apart within few =
    by_place (place == v - 1) refl
    (raised_by weight n later (raised_one weight v activities) place apart.1 within.1 (let size = length-set activities (v - 1) (activity_at activities v + weight) in omega (arith, few, size)))
  where
    by_place : (b : Bool) → (place == v - 1) ≡ b → get_or (raised weight later (raised_one weight v activities)) place 0 ≤ get_or (raised_one weight v activities) place 0 + weight → get_or (raised weight later (raised_one weight v activities)) place 0 ≤ get_or activities place 0 + weight
    by_place true here rest =
        let is : place ≡ v - 1 = eqb-true place (v - 1) here in
        let own : get_or (raised weight later (raised_one weight v activities)) (v - 1) 0 ≡ get_or activities (v - 1) 0 + weight =
        others_stay weight later (raised_one weight v activities) (v - 1) (other_places n v later within.0.0 apart.0 within.1)
        ∙ get_or-set_same activities (v - 1) (activity_at activities v + weight) 0 (let low : 1 ≤ v = within.0.0 in let high : v ≤ n = within.0.1 in omega arith) in
        subst (λ p. get_or (raised weight later (raised_one weight v activities)) p 0 ≤ get_or activities p 0 + weight) (sym is) (omega (arith, own))
    by_place false other rest =
        let differ : place ≡ v - 1 → ⊥ = eqb-false place (v - 1) other in
        let same : get_or (raised_one weight v activities) place 0 ≡ get_or activities place 0 = get_or-set_other activities (v - 1) place (activity_at activities v + weight) 0 differ in
        omega (arith, rest, same)

pub raised_up_to : (weight most : ℕ) (touched activities : List ℕ) → IsDistinct (λ v w. v == w) touched → AreVariables (length activities) touched → AreActivitiesUpTo most activities →
    AreActivitiesUpTo (most + weight) (raised weight touched activities)
raised_up_to weight most touched activities apart within few v =
    let own : activity_at activities v ≤ most = few v in
    omega (arith, own, raised_by weight (length activities) touched activities (v - 1) apart (recursion_from_All (λ w. (1 ≤ w) × (w ≤ length activities)) touched within) (omega arith))

-- halving raises no activity
halves_below : (activities : List ℕ) (place : ℕ) → get_or (halves activities) place 0 ≤ get_or activities place 0
halves_below [] place = omega arith
halves_below (a ∷ later) zero = omega arith
halves_below (a ∷ later) (suc place) = halves_below later place

pub halved_up_to : (halve conflicts most : ℕ) (activities : List ℕ) → AreActivitiesUpTo most activities → AreActivitiesUpTo most (halved_at halve conflicts activities)
halved_up_to halve conflicts most activities few =
    cond_both (conflicts % halve == 0) (halves activities) activities (AreActivitiesUpTo most)
    (λ due v. let own : activity_at activities v ≤ most = few v in omega (arith, own, halves_below activities (v - 1)))
    (λ early. few)

-- what is up to a bound is up to a greater one
pub up_to_more : (most more : ℕ) (activities : List ℕ) → most ≤ more → AreActivitiesUpTo most activities → AreActivitiesUpTo more activities
up_to_more most more activities above few v = let own : activity_at activities v ≤ most = few v in omega (arith, own, above)

-- the first of distinct variables are distinct
first_apart : (i : ℕ) (touched : List ℕ) → IsDistinct (λ v w. v == w) touched → IsDistinct (λ v w. v == w) (take i touched)
unfolding IsDistinct
first_apart zero touched apart = tt
first_apart (suc i) [] apart = tt
first_apart (suc i) (v ∷ later) apart = (
  recursion_from_All (λ w. (v == w) ≡ false) (take i later) (All-take (λ w. (v == w) ≡ false) i later (All-from_recursion (λ w. (v == w) ≡ false) later apart.0)),
  first_apart i later apart.1,
)

-- while distinct variables are raised, no activity passes a word of 64 bits
pub raise_fits : (weight : ℕ) (touched activities : List ℕ) (i v : ℕ) → weight ≤ 5 → IsDistinct (λ v w. v == w) touched → AreVariables (length activities) touched →
    AreActivitiesUpTo (2 ^ 63) activities → activity_at (raised weight (take i touched) activities) v + weight < 2 ^ 64
raise_fits weight touched activities i v light apart within few =
    let most : activity_at (raised weight (take i touched) activities) v ≤ 2 ^ 63 + weight =
    raised_up_to weight (2 ^ 63) (take i touched) activities (first_apart i touched apart) (All-take (λ w. (1 ≤ w) × (w ≤ length activities)) i touched within) few v in
    omega (arith, most, light)
