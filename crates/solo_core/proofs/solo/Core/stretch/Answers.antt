use Rattle.std.proofs.Common.{◌≡◌, ◌∙◌, ap, sym, subst}
use Rattle.std.specs.Prelude.{None}
use Rattle.solo_core.specs.State.{CoreValue}
use Rattle.solo_core.specs.Calls.{IsOpen, IsKept}
use Rattle.solo_core.proofs.Kept.{stretch_ended}
use Rattle.solo_core.proofs.solo.Core.stretch.Goals as goal

-- the search was at the start of its period, and its stretch is made now
pub invariant_of-self-2 : goal.invariant_of-self-2
invariant_of-self-2 c whole =
    let ended : c.self.inside.ended ≡ None =
    ap (λ (v : CoreValue). v.ended) c.self.view_is ∙ c.requires.open (sym (ap (λ (v : CoreValue). v.is_broken) c.self.view_is) ∙ c.if-self.false) in
    let opened : IsOpen c.self.inside.search = subst (IsKept c.self.inside.search) ended (c.self.invariant c.if-self.false) in
    stretch_ended c.self.inside.search c.stretch.new.self c.args.quota c.in_ok-end.end opened c.in_ok-end.ensures.state c.in_ok-end.ensures.end c.in_ok-end.ensures.joined
