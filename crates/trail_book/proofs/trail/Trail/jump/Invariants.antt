use Rattle.std.proofs.Common.{◌≡◌, ◌+◌, ◌≤◌, length}
use Rattle.trail_book.specs.TrailState.{jumped}
use Rattle.trail_book.proofs.trail.Trail.jump.Given as goal

-- the jump of what is left ends where the whole jump ends, and each round lets an entry leave
abbrev pub invariant-loop : goal.invariant-loop
invariant-loop l = record {
  rest : jumped l.level l.self ≡ jumped l.level l.fn.self;
  left : length l.self.entries + l.counter ≤ l.end;
}
