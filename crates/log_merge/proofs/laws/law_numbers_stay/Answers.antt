use Rattle.log_merge.proofs.Staying.{kept_number, still_has_number, named_have_numbers}
use Rattle.log_merge.proofs.laws.law_numbers_stay.Goals as goal

pub returns : goal.returns
returns c = record { same = kept_number; still = still_has_number; standing = named_have_numbers }
