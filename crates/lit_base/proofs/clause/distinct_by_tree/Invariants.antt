use Rattle.std.proofs.Common.{◌≡◌, ℕ, ◌==◌, take}
use Rattle.std.specs.List.{list_any}
use Rattle.std.specs.Ordering.{nat_cmp}
use Rattle.std.specs.BTreeSet.{contains}
use Rattle.lit_base.specs.Distinct.{distinct}
use Rattle.lit_base.specs.LitSet.{index_of}
use Rattle.lit_base.proofs.clause.distinct_by_tree.Given as goal

-- those kept are the distinct ones of the literals so far, and the set holds their places
abbrev pub invariant-loop-lit : goal.invariant-loop-lit
invariant-loop-lit l = record {
  kept : l.kept.items ≡ distinct (take l.lit-index l.lits);
  places : (k : ℕ) → contains nat_cmp l.met k ≡ list_any (λ m. index_of m == k) l.kept.items;
}
