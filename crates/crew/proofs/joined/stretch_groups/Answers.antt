use Rattle.crew.proofs.Sent.{searcher_send}
use denote.Param.Send.{sendable}
use Rattle.std.proofs.Crossing.{crosses}
use Rattle.std.proofs.Common.{get_or, subst, arith, of_calls}
use Rattle.crew.specs.Groups.{AreEach, list_of}
use Rattle.crew.specs.Turns.{HasWorked}
use Rattle.crew.proofs.Groups.{each_list}
use Rattle.crew.proofs.joined.stretch_groups.Goals as goal

-- each group was left so
pub returns : goal.returns
returns g c =
    let groups = c.args.groups.now in
    each_list (AreEach HasWorked) groups c.for_each_mut.new.s (omega (arith, c.for_each_mut.auto.s))
    (λ i d below.
    let fact = (c.for_each_mut.ensures i d below).1 in
    subst (λ y. AreEach HasWorked (list_of (get_or groups i d)) (list_of y)) fact.left
    (subst (λ x. AreEach HasWorked (list_of x) (list_of fact.after_call.now)) fact.argument_is
    (let call = fact.call in search of_calls)))

pub for_each_mut-requires-send-T : goal.for_each_mut-requires-send-T
for_each_mut-requires-send-T g c κs within = search (crosses, sendable, searcher_send) depth 30
