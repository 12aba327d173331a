use Rattle.std.proofs.Common.{refl}
use Rattle.solo_core.proofs.Sheets.{mail_counts, sheet_counts}
use Rattle.solo_core.proofs.laws.periods.law_mail_counts_the_period.Goals as goal

pub returns : goal.returns
returns c = record { first = λ cnf settings core. (refl, refl); next = λ state. (refl, refl); conflicts = mail_counts; lemmas = sheet_counts }
