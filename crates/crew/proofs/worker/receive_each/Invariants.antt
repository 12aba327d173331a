use Rattle.std.proofs.Common.{◌≡◌}
use Rattle.crew.specs.Parties.{PartySent}
use Rattle.crew.specs.Working.{numbers_of}
use Rattle.crew.proofs.Working.{From, HaveReceived}
use Rattle.crew.proofs.worker.receive_each.Given as goal

-- the cores before this one have received the posts of the era, and the others have sent theirs
abbrev pub invariant-loop-i : goal.invariant-loop-i
invariant-loop-i g l = record {
  received : HaveReceived l.board l.formula l.settings l.past l.i l.parties l.came;
  left : From (PartySent l.board l.formula l.settings l.past) l.i l.parties;
  numbers : numbers_of l.parties ≡ numbers_of l.initial.parties;
}
