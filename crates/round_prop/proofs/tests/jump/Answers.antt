use Rattle.std.proofs.Common.{◌≡◌, ◌⊎◌, [], inl, inr, arith}
use Rattle.std.proofs.lemmas.List.{nil_from_length}
use Rattle.lit_base.specs.Quiet.{AreQuiet}
use Rattle.lit_base.specs.Held.{clauses_of}
use Rattle.round_prop.proofs.Playing.{may-cut, all_quiet}
use Rattle.round_prop.proofs.tests.jump.Goals.{then-len-gt0, else-len-gt0}
use Rattle.round_prop.proofs.tests.jump.Goals as goal

-- no clause was seen to be unit or falsified, or no entry is left
pub returns : goal.returns
returns g c =
    let left = c.jump.new.self in
    let pool = c.args.pool.now in
    let settled : (left.entries ≡ []) ⊎ AreQuiet left.entries (clauses_of pool.held) =
    elim c.if-len-gt0.branch [
      | then-len-gt0 w ↦ inr (all_quiet c.args.rounds.now pool c.args.trail.now left.entries c.args.names.now c.requires.may c.requires.names w.see_all_quiet.ensures)
      | else-len-gt0 w ↦ inl (nil_from_length left.entries (omega (arith, c.len.ensures.value, w.if-len-gt0.false)))
    ] in
    may-cut pool c.args.trail.now left c.args.level c.args.rounds.now c.jumped.new.self c.jump.ensures c.jumped.ensures.cut c.jumped.ensures.above c.jumped.ensures.placed c.jumped.ensures.variables settled c.requires.may
