use Rattle.std.proofs.Common.{◌≡◌, ◌/◌, length, map, take, ap, sym, ◌∙◌, subst}
use Rattle.std.proofs.lemmas.List.{with_items_is}
use Rattle.std.proofs.lemmas.List.Sorted.{length_permutation}
use Rattle.std.proofs.lemmas.Result.{IfOk-weaker}
use Rattle.trim_rule.specs.Reduction.{dropped_names}
use Rattle.trim_rule.specs.Laws.{MayBeDropped, HaveOtherReasons}
use Rattle.trim_rule.proofs.Chosen.{chosen}
use Rattle.trim_rule.proofs.Dropped.{held_lemmas_go, reasons_stay}
use Rattle.trim_rule.proofs.reduction.choose.Goals as goal

-- the first half of the candidates in order
pub returns-clause-names : goal.returns-clause-names
returns-clause-names c =
    let sorted = c.put_in_order.new.tallies in
    let size : length sorted ≡ c.keep_long.new.tallies.len = length_permutation c.deref_mut.result.now sorted c.put_in_order.ensures.permutation ∙ c.deref_mut.ensures.len in
    let read : c.deref-2.result.now ≡ sorted = c.deref-2.ensures.value ∙ with_items_is c.keep_long.new.tallies sorted size in
    IfOk-weaker c.first_half.result
    (λ names. names ≡ map (λ t. t.name) (take (length c.deref-2.result.now / 2) c.deref-2.result.now))
    (λ names. names ≡ dropped_names c.args.pool.now.held c.args.trail.now.entries)
    (λ names is.
    is
    ∙ (ap (λ ts. map (λ t. t.name) (take (length ts / 2) ts)) read
    ∙ chosen c.args.pool.now.held c.args.trail.now.entries c.entries.result.now c.deref.result.now c.in_ok-tallies.tallies.items c.deref_mut.result.now sorted c.entries.ensures.value
    (c.deref.ensures.value ∙ c.in_ok-reasons.ensures) c.in_ok-tallies.ensures.tallies (c.deref_mut.ensures.value ∙ c.keep_long.ensures) c.put_in_order.ensures.permutation
    c.put_in_order.ensures.sorted))
    c.first_half.ensures

-- so what holds of these holds of the answer
pub returns-clause-dropped : goal.returns-clause-dropped
returns-clause-dropped c =
    IfOk-weaker c.first_half.result (λ names. names ≡ dropped_names c.args.pool.now.held c.args.trail.now.entries) (MayBeDropped c.args.pool.now.held)
    (λ names is. subst (MayBeDropped c.args.pool.now.held) (sym is) (held_lemmas_go c.args.pool.now.held c.args.trail.now.entries c.in_ok-tallies.ensures.ordered))
    (returns-clause-names c)

pub returns-clause-reasons : goal.returns-clause-reasons
returns-clause-reasons c =
    IfOk-weaker c.first_half.result (λ names. names ≡ dropped_names c.args.pool.now.held c.args.trail.now.entries) (HaveOtherReasons c.args.trail.now.entries)
    (λ names is. subst (HaveOtherReasons c.args.trail.now.entries) (sym is) (reasons_stay c.args.pool.now.held c.args.trail.now.entries))
    (returns-clause-names c)
