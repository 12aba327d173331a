use Rattle.std.proofs.Common.{◌≡◌, ◌||◌, take}
use Rattle.std.specs.List.{list_all}
use Rattle.lit_base.specs.Literal.{same}
use Rattle.lit_base.specs.Trail.{is_false}
use Rattle.round_prop.proofs.clause.other_link.Given as goal

-- the literals that are left decide whether all but the other one are false
abbrev pub invariant-loop-index : goal.invariant-loop-index
invariant-loop-index l = list_all (λ m. is_false l.trail.entries m || same m l.other) l.lits ≡ list_all (λ m. is_false l.trail.entries m || same m l.other) (take l.index l.lits)
