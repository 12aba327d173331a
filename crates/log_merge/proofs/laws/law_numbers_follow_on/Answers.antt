use Rattle.log_merge.proofs.FollowOn.{numbers_originals, numbered_in_core, first_core, next_core, next_period, log_numbered}
use Rattle.log_merge.proofs.laws.law_numbers_follow_on.Goals as goal

pub returns : goal.returns
returns c = record {
  originals = numbers_originals;
  in_core = numbered_in_core;
  first_core = first_core;
  next_core = next_core;
  next_period = next_period;
  whole = log_numbered;
}
