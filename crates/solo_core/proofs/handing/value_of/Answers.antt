use Rattle.std.proofs.Common.{◌∙◌, sym, ap}
use Rattle.std.specs.Prelude.{is_none}
use Rattle.lit_base.specs.Trail.{value_or_false}
use Rattle.solo_core.proofs.Values.{free_is_false, sign_at_place}
use Rattle.solo_core.proofs.handing.value_of.Goals as goal

pub returns-in-Some : goal.returns-in-Some
returns-in-Some c =
    c.is_positive.ensures
    ∙ ap value_or_false (sym (sign_at_place c.args.trail.now.entries c.args.var c.in-Some.place c.entry.result (sym c.place.ensures.value ∙ c.in-Some.is) c.entry.ensures.value))

pub returns-in-None : goal.returns-in-None
returns-in-None c = sym (free_is_false c.args.trail.now.entries c.args.var (sym c.place.ensures.free ∙ ap is_none c.in-None.is))
