use Rattle.std.proofs.Common.{arith, refl}
use Rattle.trail_book.proofs.Steps.{room_to_push, arrays_pushed}
use Rattle.trail_book.proofs.trail.Trail.push.Goals as goal

-- a variable is free, so there is room
pub push_reserved-requires : goal.push_reserved-requires
push_reserved-requires c =
    let few = room_to_push c.self.inside.entries.items c.args.entry c.self.inside.saved.items c.args.self.now _ c.self.inside.standings.items c.self.inside.levels.items
    c.self.invariant c.self.view_is c.requires.free (omega arith) (omega arith) c.requires.within c.requires.level in
    omega (arith, few)

-- the arrays after an entry was added at the end
pub invariant_of-self : goal.invariant_of-self
invariant_of-self c =
    arrays_pushed c.self.inside.entries.items c.push_reserved.new.self.items c.args.entry c.self.inside.saved.items c.args.self.now _ _ c.self.inside.standings.items _ c.self.inside.levels.items _ _ c.len-place.result _
    c.self.invariant c.self.view_is c.requires.free (omega arith) (omega arith) c.requires.within c.requires.level
    c.push_reserved.ensures.items c.push_reserved.ensures.capacity (omega arith) c.write_standings.ensures.written c.var.ensures.value refl c.len-place.ensures.value refl
