use Rattle.crew.proofs.RunLog.{ends_agree}
use Rattle.crew.proofs.laws.law_ends_agree.Goals as goal

pub returns : goal.returns
returns c = ends_agree
