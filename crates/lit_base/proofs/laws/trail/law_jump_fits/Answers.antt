use Rattle.lit_base.proofs.Cuts.{cut_fitting, level_now-cut}
use Rattle.lit_base.proofs.laws.trail.law_jump_fits.Goals as goal

pub returns : goal.returns
returns c = record {
  fits = cut_fitting;
  level = λ look level trail fitting low. level_now-cut level trail fitting.leveled low;
}
