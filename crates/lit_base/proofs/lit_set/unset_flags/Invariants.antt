use Rattle.std.proofs.Common.{◌≡◌, ℕ, ◌==◌, drop, get_or, vec_len, true, false}
use Rattle.std.specs.List.{list_any}
use Rattle.lit_base.specs.LitSet.{index_of}
use Rattle.lit_base.proofs.lit_set.unset_flags.Given as goal

-- a flag that is set still is that of a literal to come
abbrev pub invariant-loop-lit : goal.invariant-loop-lit
invariant-loop-lit l = record {
  size : vec_len l.flags ≡ vec_len l.initial.flags;
  left : (k : ℕ) → get_or l.flags.items k false ≡ true → list_any (λ m. index_of m == k) (drop l.lit-index l.lits) ≡ true;
}
