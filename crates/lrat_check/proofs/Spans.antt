-- The parts of an array and of a map, after a change of one of them.
use Rattle.std.proofs.Common.{◌≡◌, ℕ, zero, suc, ◌<◌, ◌≤◌, ◌==◌, Bool, true, false, cond, List, [], ◌∷◌, length, set, take, replicate, ◌++◌, ◌+◌, ◌-◌, refl, ap, sym, ◌∙◌, arith, eqb-true}
use Rattle.std.specs.Prelude.{Option, Some, None, option_map}
use Rattle.std.proofs.lemmas.Option.{slice_get_past}
use Rattle.std.proofs.lemmas.Bool.{le-leb}
use Rattle.std.proofs.lemmas.Bool.Decides.{nat_tests}
use Rattle.std.proofs.lemmas.List.{take_all, length-append, length-replicate}
use Rattle.lrat_check.specs.declared.table.Span.{Span}
use Rattle.lrat_check.specs.declared.table.ShortSpan.{ShortSpan}
use Rattle.lrat_check.specs.Table.{long, part_of, part_at, first_of}

-- a part that doesn't end before it begins is one
pub part_is : (s : Span) → s.from ≤ s.to → part_of (Some s) ≡ Some s
part_is s ordered = ap (λ b. cond b (Some s) None) (le-leb s.from s.to ordered)

-- past the array there is none
pub part_past : (spans : List ShortSpan) (n : ℕ) → length spans ≤ n → part_at spans n ≡ None
part_past spans n past = ap (λ o. part_of (option_map long o)) (slice_get_past spans n past)

next-eqb : (m n : ℕ) → (suc m == suc n) ≡ (m == n)
next-eqb m n = grind (arith, nat_tests)

zero-eqb : (n : ℕ) → (zero == suc n) ≡ false
zero-eqb n = grind (arith, nat_tests)

eqb-zero : (n : ℕ) → (suc n == zero) ≡ false
eqb-zero n = grind (arith, nat_tests)

-- one part of the array is written
pub part_set : (spans : List ShortSpan) (place : ℕ) (s : ShortSpan) → place < length spans → (n : ℕ) → part_at (set spans place s) n ≡ cond (place == n) (part_of (Some (long s))) (part_at spans n)
part_set [] place s within n = absurd (omega arith)
part_set (t ∷ ts) zero s within zero = refl
part_set (t ∷ ts) zero s within (suc n) = sym (ap (λ b. cond b (part_of (Some (long s))) (part_at ts n)) (zero-eqb n))
part_set (t ∷ ts) (suc place) s within zero = sym (ap (λ b. cond b (part_of (Some (long s))) (part_of (Some (long t)))) (eqb-zero place))
part_set (t ∷ ts) (suc place) s within (suc n) =
    part_set ts place s (omega arith) n ∙ sym (ap (λ b. cond b (part_of (Some (long s))) (part_at ts n)) (next-eqb place n))

-- one is added at its end
part_push : (spans : List ShortSpan) (s : ShortSpan) (n : ℕ) → part_at (spans ++ s ∷ []) n ≡ cond (length spans == n) (part_of (Some (long s))) (part_at spans n)
part_push [] s zero = refl
part_push [] s (suc n) = sym (ap (λ b. cond b (part_of (Some (long s))) None) (zero-eqb n))
part_push (t ∷ ts) s zero = sym (ap (λ b. cond b (part_of (Some (long s))) (part_of (Some (long t)))) (eqb-zero (length ts)))
part_push (t ∷ ts) s (suc n) = part_push ts s n ∙ sym (ap (λ b. cond b (part_of (Some (long s))) (part_at ts n)) (next-eqb (length ts) n))

-- spans that stand for none are added at its end
part_holes : (spans : List ShortSpan) (count : ℕ) (s : ShortSpan) → part_of (Some (long s)) ≡ None → (n : ℕ) → part_at (spans ++ replicate count s) n ≡ part_at spans n
part_holes [] zero s hole n = refl
part_holes [] (suc count) s hole zero = hole
part_holes [] (suc count) s hole (suc n) = part_holes [] count s hole n
part_holes (t ∷ ts) count s hole zero = refl
part_holes (t ∷ ts) count s hole (suc n) = part_holes ts count s hole n

-- the array grows up to a place, and a part is put there
pub part_put : (spans : List ShortSpan) (place : ℕ) (hole s : ShortSpan) → part_of (Some (long hole)) ≡ None → length spans ≤ place → (n : ℕ) →
    part_at ((take place spans ++ replicate (place - length spans) hole) ++ s ∷ []) n ≡ cond (place == n) (part_of (Some (long s))) (part_at spans n)
part_put spans place hole s none past n =
    part_push (take place spans ++ replicate (place - length spans) hole) s n
    ∙ (ap (λ k. cond (k == n) (part_of (Some (long s))) (part_at (take place spans ++ replicate (place - length spans) hole) n)) size
    ∙ ap (λ o. cond (place == n) (part_of (Some (long s))) o)
    (ap (λ xs. part_at (xs ++ replicate (place - length spans) hole) n) whole ∙ part_holes spans (place - length spans) hole none n))
  where
    whole : take place spans ≡ spans
    whole = take_all place spans past

    size : length (take place spans ++ replicate (place - length spans) hole) ≡ place
    size =
        let joined = length-append (take place spans) (replicate (place - length spans) hole) in
        let front = ap length whole in
        let back = length-replicate (place - length spans) hole in
        omega (arith, joined, front, back, past)

-- a part is taken out of the array
pub part_cleared : (spans : List ShortSpan) (place : ℕ) (hole : ShortSpan) → part_of (Some (long hole)) ≡ None → place < length spans → (n : ℕ) →
    part_at (set spans place hole) n ≡ cond (place == n) None (part_at spans n)
part_cleared spans place hole none within n = part_set spans place hole within n ∙ ap (λ o. cond (place == n) o (part_at spans n)) none

-- it isn't there
pub part_absent : (spans : List ShortSpan) (place : ℕ) → length spans ≤ place → (n : ℕ) → part_at spans n ≡ cond (place == n) None (part_at spans n)
part_absent spans place past n = by_place (place == n) refl
  where
    by_place : (b : Bool) → (place == n) ≡ b → part_at spans n ≡ cond b None (part_at spans n)
    by_place true is = part_past spans n (let same = eqb-true place n is in omega (arith, same, past))
    by_place false is = refl

-- a part is put into the array
pub first_put : (b : Bool) (s : Span) (other before after : Option Span) → after ≡ cond b (Some s) before → first_of after other ≡ cond b (Some s) (first_of before other)
first_put true s other before after is = ap (λ o. first_of o other) is
first_put false s other before after is = ap (λ o. first_of o other) is

-- a part is put into the map, and taken out of the array
pub leap_put : (b : Bool) (s : Span) (array before map map_after : Option Span) → array ≡ cond b None before → map_after ≡ cond b (Some s) map →
    first_of array map_after ≡ cond b (Some s) (first_of before map)
leap_put true s array before map map_after is put = ap (λ o. first_of o map_after) is ∙ put
leap_put false s array before map map_after is same = ap (λ o. first_of o map_after) is ∙ ap (first_of before) same

-- it is taken out of both
pub both_removed : (b : Bool) (array before map map_after : Option Span) → array ≡ cond b None before → map_after ≡ cond b None map →
    first_of array map_after ≡ cond b None (first_of before map)
both_removed true array before map map_after is gone = ap (λ o. first_of o map_after) is ∙ gone
both_removed false array before map map_after is same = ap (λ o. first_of o map_after) is ∙ ap (first_of before) same

-- a part is written into the map
pub part_written : (t b : Bool) (s : Span) (before after : Option Span) → s.from ≤ s.to → t ≡ b → after ≡ cond t (Some s) before → part_of after ≡ cond b (Some s) (part_of before)
part_written t b s before after ordered same is = ap part_of is ∙ (by_test t ∙ ap (λ u. cond u (Some s) (part_of before)) same)
  where
    by_test : (u : Bool) → part_of (cond u (Some s) before) ≡ cond u (Some s) (part_of before)
    by_test true = part_is s ordered
    by_test false = refl

-- it is taken out of the map
pub part_unwritten : (t b : Bool) (before after : Option Span) → t ≡ b → after ≡ cond t None before → part_of after ≡ cond b None (part_of before)
part_unwritten t b before after same is = ap part_of is ∙ (by_test t ∙ ap (λ u. cond u None (part_of before)) same)
  where
    by_test : (u : Bool) → part_of (cond u None before) ≡ cond u None (part_of before)
    by_test true = refl
    by_test false = refl
