use Rattle.std.proofs.Common.{◌≡◌}
use Rattle.crew.specs.Parties.{PartyAt, PartySent}
use Rattle.crew.specs.Working.{numbers_of}
use Rattle.crew.proofs.Working.{Before, From}
use Rattle.crew.proofs.worker.send_each.Given as goal

-- the cores before this one have sent their posts of the era, and the others are at its start
abbrev pub invariant-loop-i : goal.invariant-loop-i
invariant-loop-i g l = record {
  sent : Before (PartySent l.board l.formula l.settings l.past) l.i l.parties;
  left : From (PartyAt l.board l.formula l.settings l.past) l.i l.parties;
  numbers : numbers_of l.parties ≡ numbers_of l.initial.parties;
}
