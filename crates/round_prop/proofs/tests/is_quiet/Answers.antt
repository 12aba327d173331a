use Rattle.std.proofs.Common.{sym, ◌∙◌}
use Rattle.round_prop.proofs.Playing.{quiet_true, quiet_other}
use Rattle.round_prop.proofs.tests.is_quiet.Goals as goal

-- the first is true
pub returns-then-is_true : goal.returns-then-is_true
returns-then-is_true c = λ told. quiet_true c.args.trail.now.entries c.args.lits.now c.in-Some.lit (sym c.in-Some.is ∙ c.first_alive.ensures) (sym c.is_true.ensures ∙ c.if-is_true.true)

-- another isn't false
pub returns-else-is_true : goal.returns-else-is_true
returns-else-is_true c = λ told.
    quiet_other c.args.trail.now.entries c.args.lits.now c.in-Some.lit c.other_link.result (sym c.in-Some.is ∙ c.first_alive.ensures) c.other_link.ensures (sym c.is_some.ensures ∙ told)
