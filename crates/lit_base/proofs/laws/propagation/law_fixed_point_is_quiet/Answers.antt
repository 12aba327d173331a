use Rattle.lit_base.proofs.FixIsQuiet.{fix_quiet}
use Rattle.lit_base.proofs.laws.propagation.law_fixed_point_is_quiet.Goals as goal

pub returns : goal.returns
returns c = fix_quiet
