-- What was taken of the tokens so far, as contracts see it.
use Rattle.std.specs.Prelude.{◌≡◌, ℕ, ◌≤◌, List, All}
use Rattle.lit_base.specs.Literal.{Literal, IsWithin}
use Rattle.lit_base.specs.Cnf.{Cnf}
use Rattle.cnf_text.specs.declared.stage.Stage.{Stage}

-- the stage of the header, how many clauses it says, the closed clauses, the literals of the open one, and how many literals were met
pub record ProgressState : Type 0 where
  pub stage : Stage
  pub limit : ℕ
  pub formula : Cnf
  pub literals : List Literal
  pub count : ℕ

-- at most a million variables and four million clauses are asked for, the set that keeps literals distinct has room for the formula's variables, and the open clause's literals are of these
pub record IsSound (limit variables room : ℕ) (literals : List Literal) : Type 0 where
  pub few : limit ≤ 4000000
  pub few_variables : variables ≤ 1000000
  pub roomy : room ≡ variables
  pub within : All (IsWithin variables) literals
