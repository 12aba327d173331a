use Rattle.std.proofs.Common.{◌∙◌, ◌+◌, ◌^◌, ◌<◌, ◌≤◌, ℕ, List, length, ap, sym, subst, get_or, take, take_all, arith}
use Rattle.std.proofs.lemmas.List.Elements.{All-get_or}
use Rattle.var_order.specs.Order.{OrderState, activity_at, bumped}
use Rattle.solo_core.specs.Turn.{raised}
use Rattle.solo_core.proofs.RaisedActivities.{length-raised, raised-next, raise_fits}
use Rattle.solo_core.proofs.weights.raise.Goals as goal

-- the next variable has an activity, which may rise
pub bump-requires : goal.bump-requires
bump-requires c =
    let touched = c.args.touched.now in
    let start = c.args.order.now.activities in
    let i = c.loop-var.var-index in
    let v = get_or touched i 0 in
    let is = ap (λ (o : OrderState). o.activities) c.loop-var.invariant in
    let one = All-get_or (λ w. (1 ≤ w) × (w ≤ length start)) touched i 0 c.loop-var-test.true c.requires.within in
    record {
      some = one.0;
      within = subst (λ (a : List ℕ). v ≤ length a) (sym is) (omega (arith, one.1, length-raised c.args.weight (take i touched) start));
      fits = subst (λ (a : List ℕ). activity_at a v + c.args.weight < 2 ^ 64) (sym is)
          (raise_fits c.args.weight touched start i v c.requires.weight c.requires.distinct c.requires.within c.requires.few);
    }

-- the next variable is raised
pub loop-var-preserved : goal.loop-var-preserved
loop-var-preserved c =
    let touched = c.args.touched.now in
    let start = c.args.order.now in
    let i = c.loop-var.var-index in
    c.bump.ensures
    ∙ (ap (λ (o : OrderState). bumped (get_or touched i 0) c.args.weight o) c.loop-var.invariant
    ∙ ap (λ (a : List ℕ). (let o : OrderState = record start { activities = a } in o)) (sym (raised-next c.args.weight touched i 0 start.activities c.loop-var-test.true)))

-- all are raised
pub returns : goal.returns
returns c =
    c.loop-var.invariant
    ∙ ap (λ vs. (let o : OrderState = record c.args.order.now { activities = raised c.args.weight vs c.args.order.now.activities } in o)) (take_all c.loop-var.var-index c.args.touched.now c.loop-var-test.false)
