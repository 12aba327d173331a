use Rattle.round_prop.proofs.Follow.{clauses_of-with_clause, clauses_of-without_names}
use Rattle.round_prop.proofs.laws.law_attached_follow_held.Goals as goal

pub returns : goal.returns
returns c = record { held = clauses_of-with_clause; dropped = clauses_of-without_names }
