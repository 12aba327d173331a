use Rattle.std.proofs.Common.{◌≡◌, ◌∙◌, ◌+◌, ◌^◌, ◌≤◌, ◌++◌, ◌∷◌, [], List, ℕ, ap, sym, subst, length, length-append, arith}
use Rattle.std.proofs.Math.Nat.{pow-le-pow_right}
use Rattle.core_rows.specs.Noise.{start_of}
use Rattle.solo_core.specs.First.{starts_from}
use Rattle.solo_core.specs.Searching.{AreActivitiesUpTo}
use Rattle.solo_core.proofs.Starts.{starts-more, one_up_to, none_up_to}
use Rattle.solo_core.proofs.first.start_activities.Goals as goal

-- there is none yet
pub loop-index-init : goal.loop-index-init
loop-index-init c = record {
  starts = c.new-starts.ensures;
  below = subst (AreActivitiesUpTo (2 ^ 16)) (sym c.new-starts.ensures) (none_up_to (2 ^ 16));
  each = ap (λ (xs : List ℕ). length xs) c.new-starts.ensures;
}

-- one more
pub loop-index-preserved : goal.loop-index-preserved
loop-index-preserved c =
    let noise = c.args.row.now.noise in
    let i = c.loop-index.index in
    let one = c.start_activity.result in
    let value : one ≡ start_of noise c.args.seed c.args.core (i + 1) =
    c.start_activity.ensures.value
    ∙ (ap (λ k. start_of noise c.args.seed k (c.from-var.result + 1)) c.from.ensures ∙ ap (λ j. start_of noise c.args.seed c.args.core (j + 1)) c.from-var.ensures) in
    let low : one ≤ 2 ^ 16 =
    let most : 2 ^ noise ≤ 2 ^ 16 = pow-le-pow_right (omega arith) c.requires in omega (arith, most, c.start_activity.ensures.below) in
    record {
      starts = c.in_ok-push.ensures.ok
          ∙ (ap (λ (xs : List ℕ). xs ++ one ∷ []) c.loop-index.invariant.starts
          ∙ (ap (λ a. starts_from noise c.args.seed c.args.core i 1 ++ a ∷ []) value ∙ sym (starts-more noise c.args.seed c.args.core i)));
      below = subst (AreActivitiesUpTo (2 ^ 16)) (sym c.in_ok-push.ensures.ok) (one_up_to (2 ^ 16) one c.loop-index.starts c.loop-index.invariant.below low);
      each = let size = ap (λ (xs : List ℕ). length xs) c.in_ok-push.ensures.ok in omega (arith, size, c.loop-index.invariant.each, length-append c.loop-index.starts (one ∷ []));
    }
