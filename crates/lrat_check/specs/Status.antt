-- The status of a clause that is read from its front.
use Rattle.std.specs.Prelude.{◌||◌, List, if◌then◌else◌}
use Rattle.std.specs.List.{list_any, list_all}
use Rattle.lit_base.specs.Literal.{Literal, same}
use Rattle.lit_base.specs.Walk.{holds, fails}
use Rattle.lit_base.specs.declared.proof.ClauseStatus.{ClauseStatus}
use Rattle.lit_base.specs.declared.proof.ClauseStatus.TheVariants.{Satisfied, Implies, Unresolved}

-- the status of a clause by the literals behind its first free one, where those before that are false
abbrev pub open_status : List Literal → Literal → List Literal → ClauseStatus
open_status known first lits =
    if list_any (holds known) lits then Satisfied
    else (if list_all (λ m. fails known m || same m first) lits then Implies first else Unresolved)

-- the status of a clause by the literals behind its second free one, where none before that is true
abbrev pub late_status : List Literal → List Literal → ClauseStatus
late_status known lits = if list_any (holds known) lits then Satisfied else Unresolved
