use Rattle.std.proofs.Common.{◌≡◌, ◌∙◌, ◌++◌, ◌+◌, ◌%◌, Vec, length, get_or, ap, sym, subst, arith}
use Rattle.std.specs.Option.{option_to_list, MatchOption}
use Rattle.std.specs.Vec.{vec_len}
use Rattle.std.proofs.lemmas.List.{length-set, append-nil}
use Rattle.crossbeam_utils.specs.Padded.{padded_with_value}
use Rattle.crew.proofs.Groups.{gather_step}
use Rattle.crew.proofs.dealing.gather.Goals as goal
use Rattle.crew.proofs.dealing.gather.Goals.{in-Some+in_ok-push, in_default}

-- one item more is gathered
pub loop-place-preserved : goal.loop-place-preserved
loop-place-preserved g c =
    let l = c.loop-place in
    let d = c.index-groups-place.result in
    let count = length c.args.groups.now in
    let i = l.place % count in
    let group = padded_with_value (get_or l.groups i d) c.pop.new.self in
    let before = c.deref_mut.result.now in
    let left = c.pop.new.self in
    let after : c.match-pop.items.items ≡ l.items.items ++ option_to_list c.pop.result =
    elim c.match-pop.branch [
      | in-Some+in_ok-push w ↦ ap (λ (items : Vec _ _). items.items) w.items-is ∙ w.in_ok-push.ensures.items ∙ ap (λ taken. l.items.items ++ option_to_list taken) (sym w.in-Some.is)
      | in_default w ↦ ap (λ (items : Vec _ _). items.items) w.items-is ∙ sym (append-nil l.items.items) ∙ ap (λ taken. l.items.items ++ option_to_list taken) (sym w.in_default.is)
    ] in
    record {
      same_length = length-set l.groups i group ∙ l.invariant.same_length;
      dealt = λ dealt long were. gather_step l.items.items c.match-pop.items.items dealt l.groups l.place count c.args.total d group c.pop.result
          c.requires.some (sym l.invariant.same_length) c.loop-place-test.true long
          (sym (ap (λ (held : Vec _ _). held.items) c.deref_mut.ensures.value) ∙ c.pop.ensures.items)
          (λ none. ap (λ (held : Vec _ _). length held.items) (sym c.deref_mut.ensures.value)
          ∙ omega (arith, before.ok.0, (subst (λ taken. MatchOption taken ((vec_len before ≡ 0) × (vec_len left ≡ 0)) (λ item. vec_len left + 1 ≡ vec_len before)) none c.pop.ensures.cases).0))
          after (l.invariant.dealt dealt long were);
    }
