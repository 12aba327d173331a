use Rattle.std.proofs.Common.{◌≡◌, ◌-◌, ◌++◌, map}
use Rattle.crew.specs.Run.{members_from, members_at}
use Rattle.crew.specs.Turns.{begun}
use Rattle.crew.proofs.turns.make_all.Given as goal

-- the cores so far, and those to come
abbrev pub invariant-loop-number : goal.invariant-loop-number
invariant-loop-number l =
    l.searchers.items ++ map begun (members_from l.formula l.settings l.number (l.settings.cores - l.number)) ≡ map begun (members_at l.formula l.settings 0)
