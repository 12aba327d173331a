use Rattle.std.proofs.Common.{◌≡◌, map}
use Rattle.crew.specs.Passes.{pass_of}
use Rattle.crew.proofs.passes.give_back.Given as goal

-- the passes of the parties so far are there
abbrev pub invariant-loop-party : goal.invariant-loop-party
invariant-loop-party l = l.passes.items ≡ map pass_of l.yielded
