-- What the analysis reads of clauses: that they are held, over variables that have flags.
use Rattle.std.specs.Prelude.{ℕ, ◌<◌, ◌==◌, Bool, ⊤, List, [], Option, Some, None, if◌then◌else◌}
use Rattle.std.specs.List.{All}
use Rattle.lit_base.specs.Literal.{Literal}
use Rattle.lit_base.specs.Analysis.{variables_of}
use Rattle.lit_base.specs.declared.trail.Entry.{Entry}
use Rattle.lit_base.specs.declared.name.Name.{Name}

-- the clause that was looked up is there, over variables below this number
abbrev pub IsHeldBelow : ℕ → Option (List Literal) → Type 0
IsHeldBelow bound None = ⊥
IsHeldBelow bound (Some lits) = All (λ l. l.variable < bound) lits

-- the same of a reason; a decision has none
abbrev pub IsReasonBelow : ℕ → (Name → Option (List Literal)) → Option Name → Type 0
IsReasonBelow bound look None = ⊤
IsReasonBelow bound look (Some name) = IsHeldBelow bound (look name)

-- the same of the reason of each entry
abbrev pub AreReasonsBelow : ℕ → (Name → Option (List Literal)) → List Entry → Type 0
AreReasonsBelow bound look entries = All (λ e. IsReasonBelow bound look e.reason) entries

-- the variables of a reason; a decision has none
abbrev pub reason_variables : (Name → Option (List Literal)) → Option Name → List ℕ
reason_variables look None = []
reason_variables look (Some name) = variables_of (look name)

-- those of the reason of an entry, where it is resolved
abbrev pub resolved_variables : (Name → Option (List Literal)) → Bool → Option Name → List ℕ
resolved_variables look resolved reason = if resolved then reason_variables look reason else []

-- an entry of level 0 is
abbrev pub root_variables : (Name → Option (List Literal)) → Option Entry → List ℕ
root_variables look None = []
root_variables look (Some e) = resolved_variables look (e.level == 0) e.reason
