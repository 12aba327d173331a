-- The trace of a run: what each core did in each era. The rows of an era can be read from its mails.
use Rattle.std.specs.Prelude.{ℕ, zero, suc, if◌then◌else◌, List, [], ◌++◌, map, length}
use Rattle.lit_base.specs.Cnf.{Cnf}
use Rattle.period_rule.specs.Period.{next_period}
use Rattle.solo_core.specs.declared.sheet.Mail.{Mail}
use Rattle.solo_core.specs.declared.sheet.Settings.{Settings}
use Rattle.crew.specs.declared.trace.TraceRow.{TraceRow}
use Rattle.crew.specs.Era.{is_over, largest_volume}
use Rattle.crew.specs.Run.{mails_at}

-- how many conflicts the core of this mail may have in the era after the one with these mails; none where that is the last
abbrev pub next_of : ℕ → List Mail → Mail → ℕ
next_of base mails mail = if is_over mails then 0 else next_period base mail.volume (largest_volume mails)

-- what the core of this mail did in the era with these mails
abbrev pub row_of : ℕ → List Mail → Mail → TraceRow
row_of base mails mail = record {
  period = mail.period;
  core = mail.core;
  conflicts = mail.conflicts;
  volume = mail.volume;
  posted = length mail.posted;
  next = next_of base mails mail;
}

-- the rows of the era with these mails, in their order
abbrev pub rows_of : ℕ → List Mail → List TraceRow
rows_of base mails = map (row_of base mails) mails

-- the rows of the eras past, of which there are so many
abbrev pub trace_before : Cnf → Settings → ℕ → List TraceRow
trace_before cnf settings zero = []
trace_before cnf settings (suc past) = trace_before cnf settings past ++ rows_of settings.period (mails_at cnf settings past)

-- the trace of a run whose last era is the one before which so many are past
abbrev pub trace_at : Cnf → Settings → ℕ → List TraceRow
trace_at cnf settings past = trace_before cnf settings past ++ rows_of settings.period (mails_at cnf settings past)
