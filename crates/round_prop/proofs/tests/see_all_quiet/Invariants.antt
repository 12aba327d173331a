use Rattle.std.proofs.Common.{◌≡◌, List, take}
use Rattle.std.specs.Prelude.{IsTrue, Some}
use Rattle.lit_base.specs.Literal.{Literal}
use Rattle.lit_base.specs.Named.{lits_at}
use Rattle.lit_base.specs.Held.{clauses_of, is_among}
use Rattle.lit_base.specs.Quiet.{IsQuiet}
use Rattle.lit_base.specs.declared.name.Name.{Name}
use Rattle.round_prop.proofs.tests.see_all_quiet.Given as goal

-- the clauses of the names so far are quiet
abbrev pub invariant-loop-name : goal.invariant-loop-name
invariant-loop-name g l =
    (name : Name) (lits : List Literal) → IsTrue (is_among (take l.name-index l.names) name) → lits_at (clauses_of l.pool.held) name ≡ Some lits → IsQuiet l.trail.entries lits
