use Rattle.lit_base.proofs.RoundOrder.{round_adds, round_stops}
use Rattle.lit_base.proofs.laws.propagation.law_units_by_name.Goals as goal

pub returns : goal.returns
returns c = record { units = round_adds; conflict = round_stops }
