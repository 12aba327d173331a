use Rattle.std.proofs.Common.{arith}
use Rattle.std.specs.Prelude.{◌^◌}
use Rattle.std.proofs.lemmas.Nat.{mul-le, mul-lt}
use Rattle.tempo.proofs.Halves.{luby_le, luby_some}
use Rattle.tempo.proofs.tempo.limit_at.Goals as goal

pub overflow_mul-result : goal.overflow_mul-result
overflow_mul-result c =
    omega (arith, luby_le c.args.t, mul-lt c.luby.result c.from.result (2 ^ 32) (2 ^ 32) (omega (arith, luby_le c.args.t)) (omega arith))

pub returns-clause-some : goal.returns-clause-some
returns-clause-some c =
    omega (arith, mul-le 1 1 c.luby.result c.from.result (omega (arith, luby_some c.args.t c.requires.some)) (omega arith))
