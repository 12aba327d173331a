use Rattle.std.proofs.Common.{arith}
use Rattle.log_merge.proofs.Placed.{IsPlaced-of}
use Rattle.log_merge.proofs.numbers.Numbers.number.Goals as goal

-- the place is among the counts
pub before-requires : goal.before-requires
before-requires c = (IsPlaced-of c.self.view_is c.self.invariant c.requires c.if-name-eq0.false c.place_in_sums-place.ensures).within

-- the number is within all numbers
pub overflow_add-result : goal.overflow_add-result
overflow_add-result c =
    let placed = IsPlaced-of c.self.view_is c.self.invariant c.requires c.if-name-eq0.false c.place_in_sums-place.ensures in
    omega (arith, c.before-2.ensures.fits, c.from-within.ensures, placed.index)

-- it is what stands before the place, and the index and 1
pub returns : goal.returns
returns c =
    let placed = IsPlaced-of c.self.view_is c.self.invariant c.requires c.if-name-eq0.false c.place_in_sums-place.ensures in
    omega (arith, c.before-2.ensures.sum, c.from-within.ensures, placed.number)
