use Rattle.std.proofs.Common.{◌≡◌, ◌+◌, ◌*◌, All}
use Rattle.lit_base.specs.Literal.{IsWithin}
use Rattle.formula_kinds.specs.Hole.{some_hole}
use Rattle.formula_kinds.proofs.hole.push_pigeon.Given as goal

-- the literals of the holes so far
abbrev pub invariant-loop-hole : goal.invariant-loop-hole
invariant-loop-hole l = record {
  value : l.lits.items ≡ some_hole l.n l.pigeon l.hole;
  within : All (IsWithin ((l.n + 1) * l.n)) l.lits.items;
}
