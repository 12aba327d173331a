-- What `gen` and `race` write: a formula that is made, and the summary of a race on one.
use Rattle.std.specs.Prelude.{ℕ, List}
use Rattle.cnf_text.specs.Spelling.{formula_text}
use Rattle.formula_kinds.specs.declared.kind.Kind.{Kind}
use Rattle.formula_kinds.specs.Formula.{formula_of}
use Rattle.solo_core.specs.declared.sheet.Settings.{Settings}
use Rattle.crew.specs.Outcome.{outcome_of}
use Rattle.answer_text.specs.Summary.{summary_text}

-- the formula of this kind and number as text
abbrev pub gen_text : Kind → ℕ → ℕ → List ℕ
gen_text kind n seed = formula_text (formula_of kind n seed).variables (formula_of kind n seed).clauses

-- the summary of the race on the formula of this kind and number, which these settings' seed draws
abbrev pub race_text : Kind → ℕ → Settings → List ℕ
race_text kind n settings = summary_text kind n (formula_of kind n settings.seed) (outcome_of (formula_of kind n settings.seed) settings)
