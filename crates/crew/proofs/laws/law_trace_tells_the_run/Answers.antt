use Rattle.crew.proofs.TraceRows.{rows_counted, rows_tell, next_told, last_told}
use Rattle.crew.proofs.laws.law_trace_tells_the_run.Goals as goal

pub returns : goal.returns
returns c = record { rows = rows_counted; stretch = rows_tell; next = next_told; last = last_told }
