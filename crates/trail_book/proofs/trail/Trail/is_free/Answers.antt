use Rattle.std.proofs.Common.{◌*◌, ◌^◌, ◌==◌, ap, ◌∙◌, get_or}
use Rattle.lit_base.specs.Trail.{is_free}
use Rattle.trail_book.specs.TrailState.{TrailState}
use Rattle.trail_book.proofs.Looks.{free_held}
use Rattle.trail_book.proofs.trail.Trail.is_free.Goals as goal

-- the positive literal of a free variable stands at 2^30
pub returns : goal.returns
returns c =
    ap (λ s. s == 2 ^ 30) (c.read_standing.ensures ∙ ap (λ s. get_or s (2 * c.args.var) (2 ^ 30)) c.deref.ensures.value)
    ∙ (free_held c.self.inside.standings.items _ c.args.var c.self.invariant.trail c.self.invariant.standing ∙ ap (λ (t : TrailState). is_free t.entries c.args.var) c.self.view_is)
