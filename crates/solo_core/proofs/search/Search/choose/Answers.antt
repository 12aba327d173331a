use Rattle.std.proofs.Common.{subst, sym, ap, ◌∙◌, ◌+◌}
use Rattle.std.specs.Prelude.{Some, None}
use Rattle.lit_base.specs.Literal.{Literal}
use Rattle.lit_base.specs.Trail.{level_now}
use Rattle.lit_base.specs.declared.trail.Entry.{Entry}
use Rattle.trail_book.specs.TrailState.{TrailState}
use Rattle.solo_core.specs.State.{order_of}
use Rattle.solo_core.specs.Searching.{IsJoined}
use Rattle.solo_core.specs.contracts.search.Search.{the_view}
use Rattle.solo_core.proofs.Joined.{ordered_joined, decided_joined}
use Rattle.solo_core.proofs.Orders.{decided_present, unpicked_present}
use Rattle.solo_core.proofs.search.Search.choose.Goals as goal

-- a decision
pub returns-in-Some-clause-joined : goal.returns-in-Some-clause-joined
returns-in-Some-clause-joined c =
    let before : IsJoined (the_view c.self.inside) = subst IsJoined (sym c.self.view_is) c.requires in
    let lit = c.last_literal-lit.result in
    let e : Entry = record { lit = lit; level = level_now c.self.inside.trail.entries + 1; reason = None } in
    let own = ap (λ (l : Literal). l.variable) c.last_literal-lit.ensures in
    subst (λ (t : TrailState). IsJoined (the_view (record c.self.inside { order = c.pick.new.self; trail = t }))) (sym c.decide.ensures)
    (decided_joined (the_view c.self.inside) lit c.pick.new.self before c.pick.ensures.activities
    (decided_present (order_of (the_view c.self.inside)) c.pick.new.self e c.self.inside.trail.entries c.pick.result (c.in-Some.is ∙ ap Some (sym own)) c.pick.ensures.activities c.pick.ensures.others before.order.present))

-- nothing is free
pub returns-in-None-clause-joined : goal.returns-in-None-clause-joined
returns-in-None-clause-joined c =
    let before : IsJoined (the_view c.self.inside) = subst IsJoined (sym c.self.view_is) c.requires in
    ordered_joined (the_view c.self.inside) c.pick.new.self before c.pick.ensures.activities
    (unpicked_present (order_of (the_view c.self.inside)) c.pick.new.self c.self.inside.trail.entries c.pick.result c.in-None.is c.pick.ensures.activities c.pick.ensures.others before.order.present)
