use Rattle.std.proofs.Common.{sym, ◌∙◌}
use Rattle.first_uip.proofs.Placed.{level_below, level_above, level_nowhere}
use Rattle.first_uip.proofs.marks.level_before.Goals as goal

pub returns-in_err-place : goal.returns-in_err-place
returns-in_err-place c =
    c.from_residual.ensures ∙ level_nowhere c.args.place c.args.var c.args.trail.now.entries c.requires (sym c.in_err-place.was ∙ c.place.ensures.value)

pub returns-then-branch-place : goal.returns-then-branch-place
returns-then-branch-place c =
    c.level_of.ensures.value
    ∙ level_below c.args.place c.in_ok-place.field-0 c.args.var c.args.trail.now.entries c.requires c.in_ok-place.ensures.value c.if-branch-place.true

pub returns : goal.returns
returns c = level_above c.args.place c.in_ok-place.field-0 c.args.var c.args.trail.now.entries c.requires c.in_ok-place.ensures.value c.if-branch-place.false
