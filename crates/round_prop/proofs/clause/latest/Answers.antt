use Rattle.std.proofs.Common.{◌≡◌, ◌+◌, Bool, true, false, not, refl, inl, inr, ap, sym, ◌∙◌}
use Rattle.lit_base.specs.Literal.{same}
use Rattle.lit_base.proofs.DistinctLits.{same-places}
use Rattle.round_prop.proofs.Placed.{below_holds, above_holds}
use Rattle.round_prop.proofs.LatestSteps.{IsLatestAt, stays_at, moves_to}
use Rattle.round_prop.proofs.clause.latest.Goals as goal
use Rattle.round_prop.proofs.clause.latest.Goals.{then-found-greatest+then-ne, else-found-greatest, else-found-greatest-via-then-found-greatest+else-ne, else-found-greatest-via-else-found-greatest}

of_not : (b : Bool) → not b ≡ true → b ≡ false
of_not false is = refl
of_not true is = cc

of_no_not : (b : Bool) → not b ≡ false → b ≡ true
of_no_not true is = refl
of_no_not false is = cc

pub loop-lit-preserved : goal.loop-lit-preserved
loop-lit-preserved c =
    let trail = c.args.trail.now.entries in
    let lits = c.args.lits.now in
    let before : IsLatestAt trail lits c.args.other c.loop-lit.last c.loop-lit.greatest c.loop-lit.lit-index = record {
      latest = record { held = c.loop-lit.invariant.held; apart = c.loop-lit.invariant.apart; latest = c.loop-lit.invariant.latest };
      place = c.loop-lit.invariant.greatest;
    } in
    let stays = stays_at trail lits c.args.other c.loop-lit.last c.lit-item.result c.loop-lit.greatest c.place-found.result c.loop-lit.lit-index before c.loop-lit-test.true c.lit-item.is c.place-found.ensures c.if-found-greatest.last c.if-found-greatest.greatest in
    let moves = moves_to trail lits c.args.other c.loop-lit.last c.lit-item.result c.loop-lit.greatest c.place-found.result c.loop-lit.lit-index before c.loop-lit-test.true c.lit-item.is c.place-found.ensures c.if-found-greatest.last c.if-found-greatest.greatest in
    let step : IsLatestAt trail lits c.args.other c.if-found-greatest.last c.if-found-greatest.greatest (c.loop-lit.lit-index + 1) = elim c.if-found-greatest.branch [
      | then-found-greatest+then-ne w ↦ moves (of_not (same c.lit-item.result c.args.other) (ap not (same-places c.lit-item.result c.args.other) ∙ (sym w.ne.ensures ∙ w.if-ne.true))) (below_holds c.loop-lit.greatest c.place-found.result w.if-found-greatest.true) w.last-is w.greatest-is
      | else-found-greatest w ↦ elim w.else-found-greatest.branch [
        | else-found-greatest-via-then-found-greatest+else-ne w' ↦ stays (inl (of_no_not (same c.lit-item.result c.args.other) (ap not (same-places c.lit-item.result c.args.other) ∙ (sym w'.ne.ensures ∙ w'.if-ne.false)))) w.last-is w.greatest-is
        | else-found-greatest-via-else-found-greatest w' ↦ stays (inr (above_holds c.loop-lit.greatest c.place-found.result w'.if-found-greatest.false)) w.last-is w.greatest-is
      ]
    ] in
    record { held = step.latest.held; apart = step.latest.apart; greatest = step.place; latest = step.latest.latest }
