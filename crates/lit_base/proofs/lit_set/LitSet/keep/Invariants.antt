use Rattle.std.proofs.Common.{◌≡◌, take}
use Rattle.lit_base.specs.Distinct.{distinct}
use Rattle.lit_base.proofs.lit_set.LitSet.keep.Given as goal

-- the set has the distinct ones of the literals so far
abbrev pub invariant-loop-lit : goal.invariant-loop-lit
invariant-loop-lit l = record {
  kept : l.self.lits ≡ distinct (take l.lit-index l.lits);
  same : l.self.variables ≡ l.fn.self.variables;
}
