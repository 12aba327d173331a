use Rattle.std.proofs.Common.{ℕ, nat_cmp}
use Rattle.std.specs.BTreeMap.{get, btree_map_len}
use Rattle.lrat_check.specs.Packing.{Grows}
use Rattle.lrat_check.proofs.Moves.{IsOnItsWay}
use Rattle.lrat_check.proofs.packing.pack_leaps.Given as goal

-- each part is in the map still, or was moved to the other
abbrev pub invariant-loop-id : goal.invariant-loop-id
invariant-loop-id l = record {
  way : (n : ℕ) → IsOnItsWay l.literals l.packed.items (get nat_cmp l.fn.leaps n) (get nat_cmp l.leaps n) (get nat_cmp l.moved n);
  grown : Grows l.fn.packed.items l.packed.items;
}

abbrev pub decreases-loop-id : goal.decreases-loop-id
decreases-loop-id l = btree_map_len l.leaps
