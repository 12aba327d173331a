-- What is read of a trail.
use Rattle.std.proofs.Common.{◌≡◌, inl, inr, ℕ, ◌==◌, ◌*◌, ◌-◌, ◌^◌, Bool, true, false, List, length, get_or, refl, ap, ◌∙◌, sym, arith, add-zero}
use Rattle.std.specs.Prelude.{Option, Some, None, is_none}
use Rattle.std.proofs.lemmas.Bool.{ne_eqb}
use Rattle.lit_base.specs.Literal.{Literal}
use Rattle.lit_base.specs.declared.trail.Entry.{Entry}
use Rattle.lit_base.specs.Trail.{sign_of, value_by, is_free, is_full}
use Rattle.lit_base.specs.Backjump.{one_or_other, last_value}
use Rattle.trail_book.specs.TrailState.{TrailState, IsTrail, place_of, standing_of}
use Rattle.trail_book.specs.Arrays.{standing_at, sign_by, value_by_standing, place_by_standing}
use Rattle.trail_book.proofs.Counts.{is_full-length}
use Rattle.trail_book.proofs.Places.{place_of-is_none}
use Rattle.trail_book.proofs.Standings.{stands, value_read, place_read}

-- a trail is full by its counts
pub full_by_counts : (t : TrailState) (entries variables : ℕ) → IsTrail t → entries ≡ length t.entries → variables ≡ length t.saved → (entries == variables) ≡ is_full (length t.saved) t.entries
full_by_counts t entries variables trail entries_are variables_are =
    rw (entries_are, variables_are) (is_full-length (length t.saved) t.entries trail.distinct trail.within)

-- the sign of a variable by the value of its positive literal
sign_by-value_by : (sign : Option Bool) → sign_by (value_by sign true) ≡ sign
sign_by-value_by None = refl
sign_by-value_by (Some true) = refl
sign_by-value_by (Some false) = refl

-- where the positive literal of a variable stands
positive_read : (standings : List ℕ) (trail : List Entry) (v : ℕ) → ((l : Literal) → standing_at standings l ≡ standing_of trail l) →
    get_or standings (2 * v) (2 ^ 30) ≡ standing_of trail (record { variable = v; positive = true })
positive_read standings trail v are = ap (λ i. get_or standings i (2 ^ 30)) (sym (add-zero (2 * v))) ∙ are (record { variable = v; positive = true })

-- and what is read of it: the variable's place, its sign, and whether it is free
pub place_held : (standings : List ℕ) (t : TrailState) (v : ℕ) → IsTrail t → ((l : Literal) → standing_at standings l ≡ standing_of t.entries l) →
    place_by_standing (get_or standings (2 * v) (2 ^ 30)) ≡ place_of t.entries v
place_held standings t v trail are = ap place_by_standing (positive_read standings t.entries v are) ∙ place_read t.entries (record { variable = v; positive = true }) trail.few

sign_held : (standings : List ℕ) (t : TrailState) (v : ℕ) → IsTrail t → ((l : Literal) → standing_at standings l ≡ standing_of t.entries l) →
    sign_by (value_by_standing (get_or standings (2 * v) (2 ^ 30))) ≡ sign_of t.entries v
sign_held standings t v trail are =
    ap (λ s. sign_by (value_by_standing s)) (positive_read standings t.entries v are)
    ∙ (ap sign_by (value_read t.entries (record { variable = v; positive = true }) trail.few) ∙ sign_by-value_by (sign_of t.entries v))

pub free_held : (standings : List ℕ) (t : TrailState) (v : ℕ) → IsTrail t → ((l : Literal) → standing_at standings l ≡ standing_of t.entries l) →
    (get_or standings (2 * v) (2 ^ 30) == 2 ^ 30) ≡ is_free t.entries v
free_held standings t v trail are =
    let l : Literal = record { variable = v; positive = true } in
    let few = trail.few in
    ap (λ s. s == 2 ^ 30) (positive_read standings t.entries v are)
    ∙ (elim (stands t.entries l) [
      | inl holds ↦ ne_eqb (standing_of t.entries l) (2 ^ 30) (λ is. omega (arith, is, few, holds.standing, holds.within)) ∙ ap is_none (sym holds.at)
      | inr (inl fails) ↦ ne_eqb (standing_of t.entries l) (2 ^ 30) (λ is. omega (arith, is, fails.standing)) ∙ ap is_none (sym fails.at)
      | inr (inr free) ↦ ap (λ s. s == 2 ^ 30) free.standing ∙ ap is_none (sym free.at)
    ] ∙ place_of-is_none t.entries v)

-- the last value is the sign where there is one, and else what was saved
pub last_read : (standings : List ℕ) (t : TrailState) (v : ℕ) (sign : Option Bool) → IsTrail t → ((l : Literal) → standing_at standings l ≡ standing_of t.entries l) →
    sign ≡ sign_by (value_by_standing (get_or standings (2 * v) (2 ^ 30))) → one_or_other sign (get_or t.saved (v - 1) None) ≡ last_value t.entries t.saved v
last_read standings t v sign trail are sign_is = ap (λ o. one_or_other o (get_or t.saved (v - 1) None)) (sign_is ∙ sign_held standings t v trail are)
