use Rattle.std.proofs.Common.{◌≡◌, All}
use Rattle.crew.specs.Run.{HasEra}
use Rattle.crew.specs.Groups.{list_of}
use Rattle.crew.specs.Parties.{PartyAt}
use Rattle.crew.specs.Working.{numbers_of}
use Rattle.crew.proofs.worker.serve.Given as goal

-- no era so far has ended the run, and the cores are at the start of this one
abbrev pub invariant-loop-past : goal.invariant-loop-past
invariant-loop-past g l = record {
  has : HasEra l.formula l.settings l.past;
  parties : All (PartyAt l.board l.formula l.settings l.past) (list_of l.group);
  numbers : numbers_of (list_of l.group) ≡ numbers_of (list_of l.fn.group);
}
