-- The row of a core, and its start activities, one after the other.
use Rattle.std.proofs.Common.{◌≡◌, ℕ, zero, suc, ◌+◌, ◌-◌, ◌≤◌, ◌<◌, List, [], ◌∷◌, ◌++◌, length, get_or, refl, ap, sym, ◌∙◌, subst, arith, add-one, add-zero}
use Rattle.std.specs.Prelude.{Some, slice_get}
use Rattle.std.proofs.lemmas.Option.{same_Some}
use Rattle.core_rows.specs.declared.row.Row.{Row}
use Rattle.core_rows.specs.Noise.{start_of}
use Rattle.core_rows.specs.Rows.{IsInRange, row_of}
use Rattle.core_rows.proofs.InRange.{row_in_range}
use Rattle.solo_core.specs.First.{starts_from}
use Rattle.solo_core.specs.Searching.{AreActivitiesUpTo}

-- a core's row is that of its number
pub row_is : (table : List Row) (core : ℕ) (row : Row) → ((i : ℕ) → i < 16 → slice_get table i ≡ Some (row_of i)) → core < 16 → slice_get table core ≡ Some row → row ≡ row_of core
row_is table core row all within is = same_Some row (row_of core) (sym is ∙ all core within)

pub row_ranges : (core : ℕ) (row : Row) → row ≡ row_of core → IsInRange row
row_ranges core row is = subst IsInRange (sym is) (row_in_range core)

starts_from-suc : (bits seed core n first : ℕ) → starts_from bits seed core (suc n) first ≡ starts_from bits seed core n first ++ start_of bits seed core (first + n) ∷ []
starts_from-suc bits seed core zero first = ap (λ v. start_of bits seed core v ∷ []) (sym (add-zero first))
starts_from-suc bits seed core (suc n) first =
    ap (λ t. start_of bits seed core first ∷ t) (starts_from-suc bits seed core n (suc first))
    ∙ ap (λ v. start_of bits seed core first ∷ (starts_from bits seed core n (suc first) ++ start_of bits seed core v ∷ [])) (let e : suc first + n ≡ first + suc n = omega arith in e)

-- the activities of one variable more
pub starts-more : (bits seed core n : ℕ) → starts_from bits seed core (n + 1) 1 ≡ starts_from bits seed core n 1 ++ start_of bits seed core (n + 1) ∷ []
starts-more bits seed core n =
    rw add-one (starts_from-suc bits seed core n 1 ∙ ap (λ v. starts_from bits seed core n 1 ++ start_of bits seed core v ∷ []) (let e : 1 + n ≡ suc n = omega arith in e))

-- each variable has one
pub length-starts : (bits seed core n first : ℕ) → length (starts_from bits seed core n first) ≡ n
length-starts bits seed core zero first = refl
length-starts bits seed core (suc n) first = ap suc (length-starts bits seed core n (suc first))

places_up_to : (most one : ℕ) (activities : List ℕ) (place : ℕ) → ((p : ℕ) → get_or activities p 0 ≤ most) → one ≤ most → get_or (activities ++ one ∷ []) place 0 ≤ most
places_up_to most one [] zero few low = low
places_up_to most one [] (suc place) few low = omega arith
places_up_to most one (a ∷ later) zero few low = few 0
places_up_to most one (a ∷ later) (suc place) few low = places_up_to most one later place (λ p. few (suc p)) low

-- one activity more, which is up to the bound
pub one_up_to : (most one : ℕ) (activities : List ℕ) → AreActivitiesUpTo most activities → one ≤ most → AreActivitiesUpTo most (activities ++ one ∷ [])
one_up_to most one activities few low v =
    places_up_to most one activities (v - 1) (λ p. subst (λ q. get_or activities q 0 ≤ most) (let e : p + 1 - 1 ≡ p = omega arith in e) (few (p + 1))) low

-- without activities all are up to the bound
pub none_up_to : (most : ℕ) → AreActivitiesUpTo most []
none_up_to most v = omega arith
