use Rattle.solo_core.proofs.NextPeriod.{import_sound, import_holds}
use Rattle.solo_core.proofs.laws.periods.law_import_keeps_soundness.Goals as goal

pub returns : goal.returns
returns c = record { sound = import_sound; formula = import_holds }
