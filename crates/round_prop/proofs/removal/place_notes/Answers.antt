use Rattle.std.proofs.Common.{set, length, refl, ap, ◌∙◌, arith}
use Rattle.std.proofs.lemmas.Option.{slice_get_read}
use Rattle.round_prop.specs.Removal.{placed}
use Rattle.round_prop.proofs.Keeping.{map_step}
use Rattle.round_prop.proofs.removal.place_notes.Goals as goal

pub loop-at-preserved : goal.loop-at-preserved
loop-at-preserved c =
    let now = slice_get_read c.loop-at.notes (length c.loop-at.notes) c.loop-at.at c.index-notes-at.result refl (omega (arith, c.loop-at-test.true, c.loop-at.auto.notes)) c.index-notes-at.is in
    ap (λ n. set c.loop-at.notes c.loop-at.at n) c.place.ensures
    ∙ map_step (placed c.args.rows.now c.args.count) c.args.notes.now c.loop-at.notes c.loop-at.at c.index-notes-at.result c.loop-at.invariant now
