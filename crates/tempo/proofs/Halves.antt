-- The sequence by halves: any bound that is large enough gives the same value, and the two equations follow.
use Rattle.std.proofs.Common.{◌≡◌, ℕ, zero, suc, ◌==◌, ◌+◌, ◌-◌, ◌*◌, ◌<◌, ◌≤◌, false, refl, ap, ◌∙◌, sym, arith, ◌⊎◌, inl, inr}
use Rattle.std.specs.Prelude.{◌^◌}
use Rattle.std.proofs.Math.Nat.{pow-succ'}
use Rattle.std.proofs.lemmas.Nat.{pow_pos}
use Rattle.std.proofs.Math.Pow.{pow_mono}
use Rattle.std.proofs.lemmas.Bool.{eq-eqb, ne_eqb, lt-ltb, le-ltb, cases_eq, cases_lt}
use Rattle.tempo.specs.Tempo.{luby_within, luby}

-- a number is below its power of two
pub below_power : (t : ℕ) → t < 2 ^ t
below_power zero = omega arith
below_power (suc t) = omega (arith, below_power t, pow-succ' 2 t)

-- the last place of a bound has half of it
pub within-last : (k t : ℕ) → t + 1 ≡ 2 ^ suc k → luby_within (suc k) t ≡ 2 ^ k
within-last k t last = rw (eq-eqb (t + 1) (2 ^ suc k) last) refl

-- a place of the first half has its value within the half
pub within-first : (k t : ℕ) → t < 2 ^ k → luby_within (suc k) t ≡ luby_within k t
within-first k t first =
    let other : (t + 1 == 2 ^ suc k) ≡ false = ne_eqb (t + 1) (2 ^ suc k) (λ last. omega (arith, pow-succ' 2 k)) in
    rw other (rw (lt-ltb t (2 ^ k) first) refl)

-- a place of the second half but the last has the value of the place so far from 1 on
pub within-second : (k t : ℕ) → 2 ^ k ≤ t → t + 1 < 2 ^ suc k → luby_within (suc k) t ≡ luby_within k (t - 2 ^ k + 1)
within-second k t second before =
    let other : (t + 1 == 2 ^ suc k) ≡ false = ne_eqb (t + 1) (2 ^ suc k) (λ last. omega arith) in
    rw other (rw (le-ltb t (2 ^ k) second) refl)

-- a larger bound changes nothing
pub within-more : (n k t : ℕ) → k ≤ n → t < 2 ^ k → luby_within n t ≡ luby_within k t
within-more zero k t fewer below =
    let same : zero ≡ k = omega arith in
    ap (λ b. luby_within b t) same
within-more (suc n) k t fewer below = by_bound (cases_eq k (suc n)) (λ less. within-more n k t less below)
  where
    by_bound : (k ≡ suc n) ⊎ (k ≡ suc n → ⊥) → (k ≤ n → luby_within n t ≡ luby_within k t) → luby_within (suc n) t ≡ luby_within k t
    by_bound (inl same) more = ap (λ b. luby_within b t) (sym same)
    by_bound (inr other) more =
        let less : k ≤ n = omega arith in
        let first : t < 2 ^ n = omega (arith, pow_mono {i = k} {j = n} less) in
        within-first n t first ∙ more less

-- each bound that a place is below gives the value there
pub luby-within : (k t : ℕ) → t < 2 ^ k → luby t ≡ luby_within k t
luby-within k t below = by_order (cases_lt k t)
  where
    by_order : (k < t) ⊎ (t ≤ k) → luby t ≡ luby_within k t
    by_order (inl less) = within-more t k t (omega arith) below
    by_order (inr more) = sym (within-more k t t more (below_power t))

-- at the last place before a power of two stands half of it
pub luby-peak : (k t : ℕ) → t + 1 ≡ 2 ^ suc k → luby t ≡ 2 ^ k
luby-peak k t last = luby-within (suc k) t (omega arith) ∙ within-last k t last

-- a place of the second half but the last repeats the first half
pub luby-rest : (k t : ℕ) → 2 ^ k ≤ t → t + 1 < 2 ^ suc k → luby t ≡ luby (t - 2 ^ k + 1)
luby-rest k t second before =
    let again : t - 2 ^ k + 1 < 2 ^ k = omega (arith, pow-succ' 2 k) in
    luby-within (suc k) t (omega arith) ∙ within-second k t second before ∙ sym (luby-within k (t - 2 ^ k + 1) again)

-- the equation at the peaks, by the exponent
pub luby-peaks : (k t : ℕ) → 1 ≤ k → t ≡ 2 ^ k - 1 → luby t ≡ 2 ^ (k - 1)
luby-peaks zero t some last = absurd (omega arith)
luby-peaks (suc k) t some last =
    let less : suc k - 1 ≡ k = omega arith in
    rw less (luby-peak k t (omega (arith, pow_pos (suc k))))

-- the equation at the other places, by the exponent
pub luby-repeats : (k t : ℕ) → 2 ^ (k - 1) ≤ t → t < 2 ^ k - 1 → luby t ≡ luby (t - 2 ^ (k - 1) + 1)
luby-repeats zero t second before = absurd (omega arith)
luby-repeats (suc k) t second before =
    let less : suc k - 1 ≡ k = omega arith in
    let from : 2 ^ k ≤ t = rw less at second in
    rw less (luby-rest k t from (omega arith))

-- a value is at most its place
pub within_le : (k t : ℕ) → luby_within k t ≤ t
within_le zero t = omega arith
within_le (suc k) t = by_place (cases_eq (t + 1) (2 ^ suc k)) (cases_lt t (2 ^ k)) (within_le k)
  where
    by_place : (t + 1 ≡ 2 ^ suc k) ⊎ (t + 1 ≡ 2 ^ suc k → ⊥) → (t < 2 ^ k) ⊎ (2 ^ k ≤ t) → ((s : ℕ) → luby_within k s ≤ s) → luby_within (suc k) t ≤ t
    by_place (inl last) half fewer = omega (arith, within-last k t last, pow-succ' 2 k, pow_pos k)
    by_place (inr other) (inl first) fewer = omega (arith, within-first k t first, fewer t)
    by_place (inr other) (inr second) fewer =
        rw (ne_eqb (t + 1) (2 ^ suc k) other) (rw (le-ltb t (2 ^ k) second) (omega (arith, fewer (t - 2 ^ k + 1), pow_pos k)))

-- a value is at least 1
pub within_some : (k t : ℕ) → 1 ≤ t → t < 2 ^ k → 1 ≤ luby_within k t
within_some zero t some below = absurd (omega arith)
within_some (suc k) t some below = by_place (cases_eq (t + 1) (2 ^ suc k)) (cases_lt t (2 ^ k)) (within_some k)
  where
    by_place : (t + 1 ≡ 2 ^ suc k) ⊎ (t + 1 ≡ 2 ^ suc k → ⊥) → (t < 2 ^ k) ⊎ (2 ^ k ≤ t) → ((s : ℕ) → 1 ≤ s → s < 2 ^ k → 1 ≤ luby_within k s) → 1 ≤ luby_within (suc k) t
    by_place (inl last) half more = omega (arith, within-last k t last, pow_pos k)
    by_place (inr other) (inl first) more = omega (arith, within-first k t first, more t some first)
    by_place (inr other) (inr second) more =
        let before : t + 1 < 2 ^ suc k = omega arith in
        let again : t - 2 ^ k + 1 < 2 ^ k = omega (arith, pow-succ' 2 k) in
        omega (arith, within-second k t second before, more (t - 2 ^ k + 1) (omega arith) again)

pub luby_le : (t : ℕ) → luby t ≤ t
luby_le t = within_le t t

pub luby_some : (t : ℕ) → 1 ≤ t → 1 ≤ luby t
luby_some t some = within_some t t some (below_power t)

-- a power of two that has a place below twice itself, which isn't the last, is twice a power of two
pub twice-power : (half place : ℕ) → (k : ℕ) × (half ≡ 2 ^ k) → 1 ≤ place → place < 2 * half → (place + 1 ≡ 2 * half → ⊥) → (k : ℕ) × (half ≡ 2 * 2 ^ k)
twice-power half place (zero, power) some below other = absurd (other (omega arith))
twice-power half place (suc k, power) some below other = (k, power ∙ pow-succ' 2 k)

-- the equation at the peaks, by the half
pub luby-top : (half place : ℕ) → (k : ℕ) × (half ≡ 2 ^ k) → place + 1 ≡ 2 * half → luby place ≡ half
luby-top half place (k, power) last = luby-peak k place (omega (arith, pow-succ' 2 k)) ∙ sym power

-- the equation at the other places, by the half
pub luby-folded : (half place : ℕ) → (k : ℕ) × (half ≡ 2 ^ k) → half ≤ place → place + 1 < 2 * half → luby place ≡ luby (place - half + 1)
luby-folded half place (k, power) second before =
    rw power (luby-rest k place (omega arith) (omega (arith, pow-succ' 2 k)))
