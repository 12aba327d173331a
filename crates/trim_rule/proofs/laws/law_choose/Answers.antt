use Rattle.trim_rule.proofs.Dropped.{only_candidates_go, reasons_stay, half_goes, earlier_go_too, held_lemmas_go, are_determined}
use Rattle.trim_rule.proofs.laws.law_choose.Goals as goal

pub returns : goal.returns
returns c = record {
  candidates = only_candidates_go;
  reasons = reasons_stay;
  half = half_goes;
  earlier = earlier_go_too;
  held = held_lemmas_go;
  determined = are_determined;
}
