use Rattle.std.proofs.Common.{◌≡◌, map, All}
use Rattle.crew.specs.Parties.{PartyAt}
use Rattle.crew.specs.Passes.{pass_of}
use Rattle.crew.proofs.passes.parties_of.Given as goal

-- the cores of the passes so far are at the start of the run
abbrev pub invariant-loop-pass : goal.invariant-loop-pass
invariant-loop-pass l = record {
  begun : All (PartyAt l.board l.formula l.settings 0) l.parties.items;
  passes_kept : map pass_of l.parties.items ≡ l.yielded;
}
