use Rattle.std.proofs.Common.{◌≡◌, length, drop, sym, ◌∙◌, subst, arith}
use Rattle.std.proofs.lemmas.Result.{on_ok_weaker}
use Rattle.crew.specs.Groups.{AreEach, AreDealt, lists_of}
use Rattle.crew.specs.Turns.{MayWork, HasWorked}
use Rattle.crew.proofs.InTurn.{rewritten}
use Rattle.crew.proofs.Groups.{all_groups, dealt_all, dealt_each}
use Rattle.crew.proofs.joined.stretch_dealt.Goals as goal

-- the cores that were dealt may work
pub stretch_groups-requires-clause-begun : goal.stretch_groups-requires-clause-begun
stretch_groups-requires-clause-begun g c κs within =
    let dealt = subst (λ groups. AreDealt 0 c.args.searchers.now.items (lists_of groups)) (sym c.as_mut_slice.ensures.value) c.in_ok-groups.ensures.dealt in
    all_groups MayWork c.as_mut_slice.result.now (dealt_all MayWork 0 c.args.searchers.now.items (lists_of c.as_mut_slice.result.now) dealt c.requires.begun)

-- those that are gathered have worked, each at its place
pub returns : goal.returns
returns g c =
    let all = c.args.searchers.now.items in
    let dealt = subst (λ groups. AreDealt 0 all (lists_of groups)) (sym c.as_mut_slice.ensures.value) c.in_ok-groups.ensures.dealt in
    let found = dealt_each HasWorked 0 all (lists_of c.as_mut_slice.result.now) (lists_of c.stretch_groups.new.groups) dealt c.stretch_groups.ensures in
    let changed = c.stretch_groups.new.groups in
    let written : c.as_mut_slice-2.result.now ≡ changed = c.as_mut_slice-2.ensures.value ∙ rewritten changed (drop (length changed) c.in_ok-groups.groups.items) c.in_ok-groups.groups.len
    (omega (arith, c.in_ok-groups.groups.ok.0, c.stretch_groups.auto.groups, c.as_mut_slice.ensures.len)) in
    on_ok_weaker c.gather.result (λ gathered.
    subst (AreEach HasWorked all) (sym (gathered found.0
    (omega (arith, found.2.same_length, c.len-cores.ensures, c.args.searchers.now.ok.0))
    (subst (λ groups. AreDealt 0 found.0 (lists_of groups)) (sym written) found.1)))
    found.2) c.gather.ensures
