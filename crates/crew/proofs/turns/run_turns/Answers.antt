use Rattle.std.proofs.Common.{All, sym, subst, of_calls}
use Rattle.std.proofs.lemmas.Result.{on_ok_weaker}
use Rattle.crew.specs.Turns.{MayWork}
use Rattle.crew.proofs.InTurn.{all_may_work, have_worked}
use Rattle.crew.proofs.turns.run_turns.Goals as goal

-- the cores of an era may work, and afterwards they have
pub run_eras-requires-clause-stretches : goal.run_eras-requires-clause-stretches
run_eras-requires-clause-stretches g c = record {
  may = λ cores past era are. let all = subst (All MayWork) (sym are) (all_may_work c.args.formula.now c.args.settings.now past era) in all;
  worked = λ before past result after era are post. on_ok_weaker result (have_worked c.args.formula.now c.args.settings.now past before.now.items after.now.items are) (search of_calls);
}
