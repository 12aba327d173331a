use Rattle.std.proofs.Common.{◌≡◌, ◌/◌, ◌<◌, ◌∙◌, ℕ, length, get_or, arith, length-set, ap, sym}
use Rattle.std.proofs.lemmas.Option.{get_or_from_slice_get}
use Rattle.std.proofs.lemmas.List.Edits.{map_over_more}
use Rattle.var_order.proofs.order.halve_all.Goals as goal

-- one activity more is halved
pub loop-place-preserved : goal.loop-place-preserved
loop-place-preserved c =
    let before = c.args.activities.now in
    let is : c.get.result.now ≡ get_or c.loop-place.activities c.loop-place.place c.get.result.now = sym (get_or_from_slice_get c.loop-place.activities c.loop-place.place c.get.result.now c.get.result.now c.get.ensures) in
    let within : c.loop-place.place < length before = omega (arith, c.len-place-end.ensures) in
    record {
      halved = c.set.ensures ∙ map_over_more (λ (a : ℕ). a / 2) before c.loop-place.activities c.loop-place.place c.get.result.now within c.loop-place.invariant.halved is;
      all = ap length c.set.ensures ∙ length-set {A = ℕ} c.loop-place.activities c.loop-place.place _ ∙ c.loop-place.invariant.all;
    }
