use Rattle.std.proofs.Common.{◌≡◌, map}
use Rattle.crew.specs.Run.{members_at, HasEra}
use Rattle.crew.specs.Turns.{begun, logged_before, text_before, WritesLog}
use Rattle.crew.proofs.Writings.{fine}
use Rattle.crew.proofs.turns.run_eras.Given as goal

-- the cores are at the start of the era, and the log of the eras past is written
abbrev pub invariant-loop-past : goal.invariant-loop-past
invariant-loop-past g l = record {
  has : HasEra l.formula l.settings l.past;
  searchers : l.searchers.items ≡ map begun (members_at l.formula l.settings l.past);
  logged : l.logged ≡ logged_before l.formula l.settings l.log l.past;
  writes : WritesLog l.log (text_before l.formula l.settings l.past) (g.O.Outputs.told l.initial.outputs) (g.O.Outputs.told l.outputs) fine;
}
