-- What a sheet says of its stretch: the model that it has, and the conflicts that its mail counts.
use Rattle.std.proofs.Common.{◌≡◌, ℕ, ◌+◌, Bool, List, length, refl, ap, subst, arith}
use Rattle.std.specs.Prelude.{◌↔◌, Some, IsSome}
use Rattle.std.proofs.lemmas.Option.{same_Some}
use Rattle.lit_base.specs.Cnf.{Cnf}
use Rattle.lit_base.specs.Truth.{Satisfies}
use Rattle.lit_base.specs.Trail.{model_of}
use Rattle.lit_base.specs.Rounds.{NamedClause}
use Rattle.solo_core.specs.State.{CoreFrame, CoreState}
use Rattle.solo_core.specs.Stretch.{Stretched, stretch}
use Rattle.solo_core.specs.Sheet.{mail_of, model_at, sheet_of}
use Rattle.solo_core.specs.Period.{BeginsPeriod}
use Rattle.solo_core.specs.Soundness.{IsSound, HoldsFormula}
use Rattle.solo_core.specs.declared.sheet.End.{End}
use Rattle.solo_core.specs.declared.sheet.End.TheVariants.{Quota, Sat, Unsat, Spent}
use Rattle.solo_core.proofs.EndRules.{conflicts_counted}
use Rattle.solo_core.proofs.StretchSound.{stretch_satisfies}

model_exactly : (frame : CoreFrame) (state : CoreState) (ended : End) → IsSome (model_at frame state ended) ↔ (ended ≡ Sat)
model_exactly frame state Sat = (λ some. refl, λ is. refl)
model_exactly frame state Unsat = (λ some. cc, λ is. cc)
model_exactly frame state Quota = (λ some. cc, λ is. cc)
model_exactly frame state Spent = (λ some. cc, λ is. cc)

-- a model stands in a sheet exactly at Sat
pub sheet_model_exactly : (frame : CoreFrame) (stretched : Stretched) → IsSome (sheet_of frame stretched).model ↔ (stretched.ended ≡ Sat)
sheet_model_exactly frame stretched = model_exactly frame stretched.state stretched.ended

-- it is the one of the trail
model_is : (frame : CoreFrame) (state : CoreState) (ended : End) (model : List Bool) → model_at frame state ended ≡ Some model → (ended ≡ Sat) × (model_of frame.variables state.trail ≡ model)
model_is frame state Sat model is = (refl, same_Some (model_of frame.variables state.trail) model is)
model_is frame state Unsat model is = cc
model_is frame state Quota model is = cc
model_is frame state Spent model is = cc

-- and satisfies a formula that is held
pub sheet_model_satisfies : (cnf : Cnf) (base : List NamedClause) (frame : CoreFrame) (quota : ℕ) (state : CoreState) (model : List Bool) → IsSound base frame state → HoldsFormula cnf state →
    (sheet_of frame (stretch frame quota state)).model ≡ Some model → Satisfies model cnf
sheet_model_satisfies cnf base frame quota state model sound holds is =
    let s = stretch frame quota state in
    let found = model_is frame s.state s.ended model is in
    subst (λ m. Satisfies m cnf) found.1 (stretch_satisfies cnf base frame quota state sound holds found.0)

-- the mail of a period counts what its stretch added
pub mail_counts : (frame : CoreFrame) (quota : ℕ) (state : CoreState) → BeginsPeriod state →
    state.conflicts + (mail_of frame (stretch frame quota state)).conflicts ≡ (stretch frame quota state).state.conflicts
mail_counts frame quota state begins = let counted = conflicts_counted frame quota state in omega (arith, counted.in_period, counted.risen, begins.0)

-- and each of these conflicts left a lemma
pub sheet_counts : (frame : CoreFrame) (quota : ℕ) (state : CoreState) → BeginsPeriod state →
    length (sheet_of frame (stretch frame quota state)).lemmas ≡ (mail_of frame (stretch frame quota state)).conflicts
sheet_counts frame quota state begins =
    let counted = conflicts_counted frame quota state in
    let none = ap length begins.1 in omega (arith, counted.in_period, counted.lemmas, counted.risen, begins.0, none)
