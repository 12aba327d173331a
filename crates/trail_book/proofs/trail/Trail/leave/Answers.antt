use Rattle.std.proofs.Common.{Bool, arith, length-set}
use Rattle.std.specs.Prelude.{Option}
use Rattle.trail_book.proofs.Steps.{arrays_popped}
use Rattle.trail_book.proofs.trail.Trail.leave.Goals as goal

-- the arrays after the last entry was taken
pub invariant_of-self-2 : goal.invariant_of-self-2
invariant_of-self-2 c =
    arrays_popped c.self.inside.entries.items c.pop.new.self.items c.in_ok-entry.entry c.self.inside.saved.items _ _ _ c.self.inside.standings.items _ c.self.inside.levels.items _
    c.self.invariant c.in_ok-entry.ensures.items (omega (arith, length-set {A = Option Bool})) c.pop.ensures.capacity (omega arith) c.write_standings.ensures.written c.var-var.ensures.value
