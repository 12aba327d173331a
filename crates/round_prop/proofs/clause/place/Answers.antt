use Rattle.std.proofs.Common.{◌^◌, ◌%◌, ap, ◌∙◌}
use Rattle.round_prop.proofs.Placed.{place_in-standing}
use Rattle.round_prop.proofs.clause.place.Goals as goal

-- the place is what is left of the standing by 2^30
pub returns : goal.returns
returns c = ap (λ s. s % 2 ^ 30) c.standing.ensures.value ∙ place_in-standing c.args.trail.now.entries c.args.lit c.standing.ensures.trail.few
