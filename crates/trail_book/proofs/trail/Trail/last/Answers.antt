use Rattle.std.proofs.Common.{◌-◌, ◌*◌, ◌^◌, get_or, ap, ◌∙◌, sym}
use Rattle.std.specs.Prelude.{Some, None}
use Rattle.lit_base.specs.Backjump.{last_value}
use Rattle.trail_book.specs.TrailState.{TrailState}
use Rattle.trail_book.specs.Arrays.{sign_by, value_by_standing}
use Rattle.trail_book.proofs.Looks.{last_read}
use Rattle.trail_book.proofs.trail.Trail.last.Goals as goal

-- the variable stands on the trail
pub returns-in-Some : goal.returns-in-Some
returns-in-Some c =
    let read = c.sign_by.ensures ∙ ap (λ s. sign_by (value_by_standing s)) (c.read_standing.ensures ∙ ap (λ s. get_or s (2 * c.args.var) (2 ^ 30)) c.deref.ensures.value) in
    last_read c.self.inside.standings.items _ c.args.var (Some c.in-Some.sign) c.self.invariant.trail c.self.invariant.standing (sym c.in-Some.is ∙ read)
    ∙ ap (λ (t : TrailState). last_value t.entries t.saved c.args.var) c.self.view_is

-- it does not
pub returns-in-None : goal.returns-in-None
returns-in-None c =
    let read = c.sign_by.ensures ∙ ap (λ s. sign_by (value_by_standing s)) (c.read_standing.ensures ∙ ap (λ s. get_or s (2 * c.args.var) (2 ^ 30)) c.deref.ensures.value) in
    c.read_saved.ensures
    ∙ ap (λ saved. get_or saved (c.args.var - 1) None) c.deref-in-None.ensures.value
    ∙ last_read c.self.inside.standings.items _ c.args.var None c.self.invariant.trail c.self.invariant.standing (sym c.in-None.is ∙ read)
    ∙ ap (λ (t : TrailState). last_value t.entries t.saved c.args.var) c.self.view_is
