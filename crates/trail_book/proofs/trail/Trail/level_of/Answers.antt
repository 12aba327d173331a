use Rattle.std.proofs.Common.{ap, ◌∙◌}
use Rattle.std.specs.Prelude.{is_none}
use Rattle.trail_book.specs.TrailState.{TrailState}
use Rattle.trail_book.specs.Arrays.{number_at}
use Rattle.lit_base.specs.Trail.{is_free}
use Rattle.trail_book.proofs.Places.{level_of-is_none}
use Rattle.trail_book.proofs.trail.Trail.level_of.Goals as goal

-- no level is stored for a free variable
pub returns-clause-free : goal.returns-clause-free
returns-clause-free c =
    ap is_none (c.read_number.ensures ∙ ap (λ ns. number_at ns c.args.var) c.deref.ensures.value ∙ c.self.invariant.level c.args.var)
    ∙ level_of-is_none _ c.args.var ∙ ap (λ (t : TrailState). is_free t.entries c.args.var) c.self.view_is
