use Rattle.std.proofs.Common.{◌≡◌, ◌<◌, ◌^◌, length, get_or, set, arith}
use Rattle.std.proofs.lemmas.List.{length-set}
use Rattle.clause_pool.proofs.Following.{blank}
use Rattle.clause_pool.proofs.Linking.{relinked_at, linked_next}
use Rattle.clause_pool.proofs.chains.link_all.Goals as goal

-- one slot more is linked
pub loop-place-preserved : goal.loop-place-preserved
loop-place-preserved c =
    let slots = c.loop-place.slots in
    let place = c.loop-place.place in
    let inside : place < length slots = omega arith in
    record {
      slots = relinked_at c.args.slots.now slots place c.begin_chain.result _ inside c.loop-place.invariant.slots;
      linked = λ few.
          let s = record (get_or slots place blank) { link = c.begin_chain.result } in
          let same : length (set slots place s) ≡ length slots = length-set slots place s in
          let fits : length slots < 2 ^ 32 = omega (arith, few, same) in
          linked_next c.loop-place.heads c.begin_chain.new.heads slots place c.begin_chain.result _ inside (omega (arith, inside, fits)) (c.loop-place.invariant.linked fits)
          c.begin_chain.ensures.within c.begin_chain.ensures.link c.begin_chain.ensures.heads;
    }
