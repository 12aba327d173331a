-- What backs the verdict of a run, from the laws of runs.
use Rattle.std.proofs.Common.{◌≡◌, ◌↔◌, List, Bool, refl, Option, Some, None, IsSome}
use Rattle.lit_base.specs.Cnf.{Cnf}
use Rattle.solo_core.specs.declared.sheet.Settings.{Settings}
use Rattle.crew.specs.declared.outcome.Verdict.TheVariants.{Sat, Unsat, Unknown}
use Rattle.crew.specs.Outcome.{outcome_of}
use Rattle.dp2ll.specs.Outcome.{IsModelOf, IsRefuted, AreAllSpent, FindsModel, IsBacked}

-- what is there
found_in : (found : Option (List Bool)) → IsSome found → (model : List Bool) × (found ≡ Some model)
found_in None some = cc
found_in (Some model) some = (model, refl)

-- the model of a run that is satisfied
model_found : (cnf : Cnf) (settings : Settings) → IsSome (outcome_of cnf settings).model
    → ((model : List Bool) → (outcome_of cnf settings).model ≡ Some model → IsModelOf cnf model)
    → (model : List Bool) × FindsModel cnf settings model
model_found cnf settings some satisfies =
    let found = found_in (outcome_of cnf settings).model some in
    (found.0, record { found = found.1; satisfied = satisfies found.0 found.1 })

-- each verdict is backed
pub backed_by : (cnf : Cnf) (settings : Settings)
    → IsSome (outcome_of cnf settings).model ↔ ((outcome_of cnf settings).verdict ≡ Sat)
    → ((model : List Bool) → (outcome_of cnf settings).model ≡ Some model → IsModelOf cnf model)
    → ((outcome_of cnf settings).verdict ≡ Unsat → IsRefuted cnf settings)
    → ((outcome_of cnf settings).verdict ≡ Unknown) ↔ AreAllSpent cnf settings
    → IsBacked cnf settings
backed_by cnf settings exactly satisfies refutes spent = record {
  model = λ sat. model_found cnf settings (exactly.1 sat) satisfies;
  refuted = refutes;
  unknown = spent;
}
