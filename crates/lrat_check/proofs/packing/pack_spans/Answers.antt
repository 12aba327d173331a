use Rattle.std.proofs.Common.{◌≡◌, ◌<◌, ◌≤◌, ◌∙◌, sym, ap, subst, refl, length, length-set, arith, Some}
use Rattle.std.specs.Prelude.{option_map}
use Rattle.std.proofs.lemmas.Option.{slice_get_read}
use Rattle.lrat_check.specs.Table.{long, part_of, part_at}
use Rattle.lrat_check.specs.Packing.{IsMoved}
use Rattle.lrat_check.proofs.Moves.{done_more, left_more, all_moved}
use Rattle.lrat_check.proofs.packing.pack_spans.Goals as goal

-- one part more
pub loop-place-preserved : goal.loop-place-preserved
loop-place-preserved c =
    let spans = c.loop-place.spans.items in
    let place = c.loop-place.place in
    let new = c.in_ok-spans.field-0 in
    let within : place < length spans = omega (arith, c.loop-place-test.true, c.len-place-end.ensures, c.loop-place.invariant.size, c.args.spans.now.ok) in
    let read : part_of (Some (long c.index.result.now)) ≡ part_at spans place = ap (λ o. part_of (option_map long o)) (sym (slice_get_read spans (length spans) place c.index.result.now refl within c.index.ensures)) in
    record {
      done = done_more c.args.literals.now c.loop-place.packed.items c.move_short.new.packed.items c.args.spans.now.items spans place new within c.in_ok-spans.ensures.grown
          c.loop-place.invariant.done (c.loop-place.invariant.left place (omega arith))
          (subst (λ o. IsMoved c.args.literals.now c.move_short.new.packed.items o (part_of (Some (long new)))) read c.in_ok-spans.ensures.moved);
      left = left_more c.args.spans.now.items spans place new within c.loop-place.invariant.left;
      size = length-set spans place new ∙ c.loop-place.invariant.size;
    }

-- behind the last place all are moved
pub returns : goal.returns
returns c n =
    let all : length c.args.spans.now.items ≤ c.loop-place.place = omega (arith, c.loop-place-test.false, c.len-place-end.ensures, c.args.spans.now.ok) in
    all_moved c.args.literals.now c.loop-place.packed.items c.args.spans.now.items c.loop-place.spans.items c.loop-place.place n c.loop-place.invariant.size all c.loop-place.invariant.done
