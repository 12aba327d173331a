use Rattle.crossbeam_utils.specs.declared.cache_padded.CachePadded.{CachePadded}
use Rattle.std.proofs.Common.{◌∷◌, [], ◌++◌, map, ap, sym, ◌∙◌, subst, All, Vec, Global}
use Rattle.std.proofs.lemmas.List.{map-append}
use Rattle.std.proofs.lemmas.List.Elements.{All-append, All-cons, All-nil}
use Rattle.crew.specs.Run.{last_era}
use Rattle.crew.specs.Groups.{list_of, lists_of}
use Rattle.crew.specs.declared.party.Party.{Party}
use Rattle.crew.specs.Parties.{PartyDone}
use Rattle.crew.specs.Working.{numbers_of, numbers_at}
use Rattle.crew.proofs.places.finish_all.Goals as goal

-- one more group is given back
pub loop-place-preserved : goal.loop-place-preserved
loop-place-preserved g c =
    let group = c.in_ok-finish.field-0 in
    let groups = c.loop-place.groups.items in
    let Done = λ (group : CachePadded (Vec Party Global)). All (PartyDone c.args.board.now c.args.formula.now c.args.settings.now (last_era c.args.formula.now c.args.settings.now)) (list_of group) in
    record {
      groups_done = subst (All Done) (sym c.in_ok-push.ensures.items) (All-append Done groups (group ∷ []) c.loop-place.invariant.groups_done (All-cons Done group [] c.in_ok-finish.ensures.done (All-nil Done)));
      numbers_kept = ap (λ all. map numbers_of (lists_of all)) c.in_ok-push.ensures.items ∙ ap (map numbers_of) (map-append list_of groups (group ∷ [])) ∙ map-append numbers_of (lists_of groups) (list_of group ∷ [])
          ∙ ap (λ all. all ++ numbers_of (list_of group) ∷ []) c.loop-place.invariant.numbers_kept ∙ ap (λ here. map numbers_at c.loop-place.yielded ++ here ∷ []) c.in_ok-finish.ensures.numbers
          ∙ sym (map-append numbers_at c.loop-place.yielded (c.in-Some.place ∷ []));
    }
