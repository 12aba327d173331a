use Rattle.lit_base.proofs.laws.proof.law_found_more_follows.Goals as goal
use Rattle.lit_base.proofs.WalkMore.{judgement_more, judgement_same_names}

pub returns : goal.returns
returns g c = record { renamed = judgement_more; same_names = judgement_same_names }
