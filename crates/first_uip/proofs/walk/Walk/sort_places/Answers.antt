use Rattle.std.proofs.Common.{◌≡◌, ◌<◌, length, All, subst, sym, ap, arith}
use Rattle.std.proofs.lemmas.List.Elements.{All-weaker}
use Rattle.std.proofs.lemmas.List.Sorted.{IsNonDecreasingBy-from_sort}
use Rattle.first_uip.specs.Marks.{is_flagged, flagged}
use Rattle.first_uip.specs.Places.{before, AreAt}
use Rattle.first_uip.proofs.Placed.{before-distinct, length-before, before_long}
use Rattle.first_uip.proofs.Standing.{before_at}
use Rattle.first_uip.proofs.Noted.{places_of, places_below, places_few, places_hold, sorted_places}
use Rattle.first_uip.proofs.walk.Walk.sort_places.Goals as goal

-- the places, once they are sorted, are those of the flagged entries
pub returns-clause-sorted : goal.returns-clause-sorted
returns-clause-sorted c = λ trail place distinct found.
    let rest = before place trail in
    let walk = c.args.self.now in
    let has = is_flagged walk.marks.flags.items in
    let places = c.sort_unstable.new.self.items in
    let sorted : places ≡ places_of has rest =
    sorted_places has walk.marks.marked.items rest walk.places.items places (before-distinct trail place distinct) found.listed.once found.places c.sort_unstable.ensures.permutation
    (IsNonDecreasingBy-from_sort (λ x. x) places c.sort_unstable.ensures.sorted) in
    record {
      within = subst (All (λ at. at < length trail)) (sym sorted)
          (All-weaker (λ at. at < length rest) (λ at. at < length trail) (λ at low. let few = length-before trail place in omega arith) (places_of has rest) (places_below has rest));
      few = omega (arith, ap length sorted, places_few has rest, before_long trail place);
      at = subst (λ ps. AreAt trail ps (flagged walk.marks.flags.items rest)) (sym sorted) (places_hold has trail rest (before_at place trail));
    }
