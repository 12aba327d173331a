use Rattle.std.proofs.Common.{◌≡◌, ◌||◌, true, false, take}
use Rattle.std.specs.Prelude.{nat_le}
use Rattle.std.specs.List.{list_all}
use Rattle.lit_base.specs.Literal.{same}
use Rattle.lit_base.specs.Quiet.{IsOneOf}
use Rattle.round_prop.specs.Linked.{place_in}
use Rattle.round_prop.proofs.clause.latest.Given as goal

-- it is the latest of the literals so far, and its place is the greatest
abbrev pub invariant-loop-lit : goal.invariant-loop-lit
invariant-loop-lit l = record {
  held : IsOneOf l.lits l.last;
  apart : same l.last l.other ≡ false;
  greatest : l.greatest ≡ place_in l.trail.entries l.last;
  latest : list_all (λ m. same m l.other || nat_le (place_in l.trail.entries m) (place_in l.trail.entries l.last)) (take l.lit-index l.lits) ≡ true;
}
