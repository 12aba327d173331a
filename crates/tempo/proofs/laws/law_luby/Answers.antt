use Rattle.tempo.proofs.Halves.{luby-peaks, luby-repeats}
use Rattle.tempo.proofs.laws.law_luby.Goals as goal

pub returns-clause-peaks : goal.returns-clause-peaks
returns-clause-peaks c = luby-peaks

pub returns-clause-rest : goal.returns-clause-rest
returns-clause-rest c = luby-repeats
