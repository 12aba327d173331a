use Rattle.std.proofs.Common.{◌≡◌, List, subst}
use Rattle.std.proofs.lemmas.List.{take_all}
use Rattle.std.specs.Prelude.{IsTrue, Some}
use Rattle.lit_base.specs.Literal.{Literal}
use Rattle.lit_base.specs.Named.{lits_at}
use Rattle.lit_base.specs.Held.{clauses_of, is_among}
use Rattle.lit_base.specs.Quiet.{IsQuiet}
use Rattle.lit_base.specs.declared.name.Name.{Name}
use Rattle.round_prop.proofs.Playing.{quiet_more}
use Rattle.round_prop.proofs.tests.see_all_quiet.Goals as goal

-- and that of the next one
pub loop-name-preserved : goal.loop-name-preserved
loop-name-preserved g c =
    quiet_more c.args.trail.now.entries (clauses_of c.args.pool.now.held) c.args.names.now c.loop-name.name-index _ c.loop-name-test.true c.loop-name.invariant c.see_quiet.ensures

-- at the end these are all
pub returns : goal.returns
returns g c =
    subst (λ names. (name : Name) (lits : List Literal) → IsTrue (is_among names name) → lits_at (clauses_of c.args.pool.now.held) name ≡ Some lits → IsQuiet c.args.trail.now.entries lits)
    (take_all c.loop-name.name-index c.args.names.now c.loop-name-test.false) c.loop-name.invariant
