-- What holds of a trail, from the few facts that each step keeps.
use Rattle.std.proofs.Common.{◌≡◌, ℕ, ◌+◌, ◌^◌, ◌<◌, ◌≤◌, Bool, true, List, [], ◌∷◌, length, arith}
use Rattle.std.specs.Prelude.{Option, Some, None}
use Rattle.std.specs.List.{AllByRecursion}
use Rattle.lit_base.specs.Literal.{IsWithin}
use Rattle.lit_base.specs.declared.trail.Entry.{Entry}
use Rattle.lit_base.specs.declared.name.Name.{Name}
use Rattle.lit_base.specs.Trail.{is_free, level_now}
use Rattle.lit_base.specs.Fits.{HasDistinctVariables, IsLeveled, IsNextLevel}
use Rattle.trail_book.specs.TrailState.{TrailState, IsTrail}
use Rattle.trail_book.proofs.Counts.{length-free_count}

-- a level is that of the older entries, or one more
next_level : (now level : ℕ) (reason : Option Name) → IsNextLevel now level reason → (now ≤ level) × (level ≤ now + 1)
next_level now level None next = (omega arith, omega arith)
next_level now level (Some name) next = (omega arith, omega arith)

-- the level of a trail is at most the number of its entries
pub level_now-le : (trail : List Entry) → IsLeveled trail → level_now trail ≤ length trail
level_now-le [] leveled = omega arith
level_now-le (e ∷ older) leveled =
    let next = next_level (level_now older) e.level e.reason leveled.0 in
    omega (arith, next.1, level_now-le older leveled.1)

-- no entry is of a higher level than the trail
pub levels_below : (n : ℕ) (trail : List Entry) → IsLeveled trail → level_now trail ≤ n → AllByRecursion (λ e. e.level ≤ n) trail
levels_below n [] leveled below = tt
levels_below n (e ∷ older) leveled below =
    let next = next_level (level_now older) e.level e.reason leveled.0 in
    (below, levels_below n older leveled.1 (omega (arith, next.0)))

-- a literal has one of 1,000,000 variables
few_entries : (trail : List Entry) → HasDistinctVariables trail → AllByRecursion (λ e. IsWithin 1000000 e.lit) trail → length trail ≤ 1000000
few_entries trail distinct literals = few_of 1000000 trail distinct literals
  where
    few_of : (n : ℕ) (trail : List Entry) → HasDistinctVariables trail → AllByRecursion (λ e. IsWithin n e.lit) trail → length trail ≤ n
    few_of n trail distinct within = omega (arith, length-free_count n trail distinct within)

-- the levels, and the number of entries, are bounded where the rest holds
pub trail_from : (t : TrailState) → length t.saved < 2 ^ 32 → HasDistinctVariables t.entries → AllByRecursion (λ e. IsWithin (length t.saved) e.lit) t.entries →
    AllByRecursion (λ e. IsWithin 1000000 e.lit) t.entries → IsLeveled t.entries → IsTrail t
trail_from t counted distinct within literals leveled = record {
  counted = counted;
  distinct = distinct;
  within = within;
  literals = literals;
  leveled = leveled;
  levels = levels_below (length t.entries) t.entries leveled (level_now-le t.entries leveled);
  fits = omega (arith, length-free_count (length t.saved) t.entries distinct within);
  few = few_entries t.entries distinct literals;
}

-- one more entry, of a free variable and of the next level
pub trail_with : (t : TrailState) (e : Entry) → IsTrail t → is_free t.entries e.lit.variable ≡ true → IsWithin (length t.saved) e.lit → IsWithin 1000000 e.lit →
    IsNextLevel (level_now t.entries) e.level e.reason → IsTrail (record t { entries = e ∷ t.entries })
trail_with t e trail free within literal next =
    trail_from (record t { entries = e ∷ t.entries }) trail.counted (free, trail.distinct) (within, trail.within) (literal, trail.literals) (next, trail.leveled)

-- one entry less, with saved values of as many variables
pub trail_without : (e : Entry) (older : List Entry) (saved after : List (Option Bool)) → IsTrail (record { entries = e ∷ older; saved = saved }) → length after ≡ length saved →
    IsTrail (record { entries = older; saved = after })
trail_without e older saved after trail same =
    trail_from (record { entries = older; saved = after }) (omega (arith, trail.counted)) trail.distinct.1 (rw same trail.within.1) trail.literals.1 trail.leveled.1
