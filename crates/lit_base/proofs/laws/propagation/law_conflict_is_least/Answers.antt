use Rattle.lit_base.proofs.RoundOrder.{round_least, propagate_least, round_none, none_falsified}
use Rattle.lit_base.proofs.laws.propagation.law_conflict_is_least.Goals as goal

pub returns : goal.returns
returns c = record {
  round = λ clauses trail conflict rising some. round_least clauses trail conflict rising some;
  propagation = λ variables clauses trail conflict rising some. propagate_least variables clauses trail conflict rising some;
  none = λ clauses trail none. none_falsified trail clauses (round_none clauses trail none);
}
