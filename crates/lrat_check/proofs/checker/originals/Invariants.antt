use Rattle.std.proofs.Common.{◌≡◌, ℕ, take}
use Rattle.lit_base.specs.Judgement.{numbered_from, live_lits}
use Rattle.lrat_check.specs.Clauses.{lits_at, AreWithin}
use Rattle.lrat_check.proofs.checker.originals.Given as goal

-- the clauses so far are those of the formula's front
abbrev pub invariant-loop-index : goal.invariant-loop-index
invariant-loop-index l = record {
  found : (n : ℕ) → lits_at l.clauses n ≡ live_lits (numbered_from 1 (take l.index l.formula)) n;
  within : AreWithin l.clauses;
}
