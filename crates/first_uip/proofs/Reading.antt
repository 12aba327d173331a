-- The clauses that the analysis reads are held, over the variables of the trail.
use Rattle.std.proofs.Common.{◌≡◌, ℕ, zero, suc, ◌==◌, ◌+◌, ◌≤◌, true, not, ◌||◌, List, [], ◌∷◌, get_or, inl, inr, arith}
use Rattle.std.specs.Prelude.{Option, Some, None}
use Rattle.std.specs.Bool.{beq}
use Rattle.std.proofs.lemmas.Bool.{eqb-true, or_cases, and_parts}
use Rattle.std.proofs.lemmas.List.Sums.{AllPass-from_list_all}
use Rattle.lit_base.specs.Literal.{Literal, same}
use Rattle.lit_base.specs.declared.trail.Entry.{Entry}
use Rattle.lit_base.specs.declared.name.Name.{Name}
use Rattle.lit_base.specs.Trail.{is_false}
use Rattle.lit_base.specs.Fits.{IsImpliedBy, HasReason, FitsClauses, IsFalsifiedBy}
use Rattle.lit_base.proofs.Standing.{negation_stands}
use Rattle.lit_base.proofs.TrailWithin.{IsTrailWithin, stands_within}
use Rattle.lit_base.proofs.TwoOfLevel.{level_of-stands}
use Rattle.first_uip.specs.Reasons.{IsHeldBelow, IsReasonBelow, AreReasonsBelow}

-- the variable of a false literal is within the variables of the trail
false_within : (variables : ℕ) (trail : List Entry) (l : Literal) → IsTrailWithin variables trail → is_false trail l ≡ true → l.variable ≤ variables
false_within variables trail l within is =
    let found = level_of-stands l.variable (not l.positive) trail (negation_stands trail l is) in
    (stands_within variables l.variable found.0 trail within found.1).1

-- a clause that is falsified
pub falsified_below : (variables : ℕ) (trail : List Entry) (found : Option (List Literal)) → IsTrailWithin variables trail → IsFalsifiedBy trail found → IsHeldBelow (variables + 1) found
falsified_below variables trail None within falsified = falsified
falsified_below variables trail (Some lits) within falsified = λ k d below.
    let low : (get_or lits k d).variable ≤ variables = false_within variables trail (get_or lits k d) within (AllPass-from_list_all (is_false trail) lits falsified k d below) in
    omega arith

-- a clause that implies a literal over older entries
implied_below : (variables : ℕ) (older : List Entry) (l : Literal) (found : Option (List Literal)) → IsTrailWithin variables older → l.variable ≤ variables → IsImpliedBy older l found →
    IsHeldBelow (variables + 1) found
implied_below variables older l None within low implied = implied
implied_below variables older l (Some lits) within low implied = λ k d below.
    let m = get_or lits k d in
    elim (or_cases (is_false older m) (same m l) (AllPass-from_list_all (λ m. is_false older m || same m l) lits implied.others k d below)) [
      | inl untrue ↦ let under : m.variable ≤ variables = false_within variables older m within untrue in omega arith
      | inr own ↦ let is : m.variable ≡ l.variable = eqb-true m.variable l.variable (and_parts (m.variable == l.variable) (beq m.positive l.positive) own).0 in omega arith
    ]

reason_below : (look : Name → Option (List Literal)) (variables : ℕ) (older : List Entry) (l : Literal) (reason : Option Name) → IsTrailWithin variables older → l.variable ≤ variables →
    HasReason look older l reason → IsReasonBelow (variables + 1) look reason
reason_below look variables older l None within low has = tt
reason_below look variables older l (Some name) within low has = implied_below variables older l (look name) within low has

-- the reasons of a trail that fits the clauses
pub reasons_below : (look : Name → Option (List Literal)) (variables : ℕ) (trail : List Entry) → IsTrailWithin variables trail → FitsClauses look trail →
    AreReasonsBelow (variables + 1) look trail
reasons_below look variables [] within fits k d below = absurd (omega arith)
reasons_below look variables (e ∷ older) within fits zero d below = reason_below look variables older e.lit e.reason within.1 within.0.1 fits.0
reasons_below look variables (e ∷ older) within fits (suc k) d below = reasons_below look variables older within.1 fits.1 k d (omega arith)
