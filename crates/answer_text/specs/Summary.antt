-- The summary of a race, as text.
use Rattle.std.specs.Prelude.{ℕ, List, ◌++◌, length, codes, decimal}
use Rattle.lit_base.specs.Cnf.{Cnf}
use Rattle.formula_kinds.specs.declared.kind.Kind.{Kind}
use Rattle.formula_kinds.specs.Kinds.{kind_word}
use Rattle.crew.specs.declared.outcome.Outcome.{Outcome}
use Rattle.answer_text.specs.Answer.{verdict_line}
use Rattle.answer_text.specs.Trace.{winner_line}

-- which formula was made
abbrev pub race_line : Kind → ℕ → List ℕ
race_line kind n = codes "c race " ++ (kind_word kind ++ (codes " " ++ (decimal n ++ codes "\n")))

-- how large it is
abbrev pub size_line : ℕ → ℕ → List ℕ
size_line variables clauses = codes "c variables " ++ (decimal variables ++ (codes " clauses " ++ (decimal clauses ++ codes "\n")))

-- how many eras the cores ran, which of them won, how many lines their log has, and the `s` line
abbrev pub outcome_lines : Outcome → List ℕ
outcome_lines outcome =
    codes "c eras " ++ decimal outcome.eras ++ codes "\n" ++ winner_line outcome.winner
    ++ codes "c lemmas " ++ decimal outcome.lemmas ++ codes "\n" ++ verdict_line outcome.verdict

-- the summary of a race on the formula of this kind and number
abbrev pub summary_text : Kind → ℕ → Cnf → Outcome → List ℕ
summary_text kind n cnf outcome = race_line kind n ++ (size_line cnf.variables (length cnf.clauses) ++ outcome_lines outcome)
