use Rattle.std.proofs.Common.{◌^◌, ◌∙◌, ap, sym, subst, length, arith}
use Rattle.std.specs.Prelude.{None}
use Rattle.std.proofs.lemmas.List.{length-replicate}
use Rattle.lit_base.specs.Rounds.{named_from}
use Rattle.var_order.specs.Order.{OrderState, HasAllFree}
use Rattle.tempo.specs.Tempo.{TempoState}
use Rattle.solo_core.specs.Searching.{AreFewUses, AreActivitiesUpTo}
use Rattle.solo_core.proofs.Orders.{first_present}
use Rattle.solo_core.proofs.Starts.{row_is, row_ranges}
use Rattle.solo_core.proofs.FirstClauses.{few_uses-unused}
use Rattle.solo_core.proofs.first.first_search.Goals as goal

-- there are no uses, no conflicts and no lemmas yet
pub returns-clause-joined : goal.returns-clause-joined
returns-clause-joined c =
    let formula = c.variables-variables.ensures.formula in
    record {
      over = record {
        trail = ap (λ t. length t.saved) c.in_ok-trail.ensures ∙ length-replicate c.variables-variables.result None;
        propagation = c.in_ok-hold_originals.ensures.variables ∙ c.in_ok-rounds.ensures.variables;
        analysis = c.in_ok-analyser.ensures;
        few = let few = formula.few_variables in omega arith;
      };
      attached = c.in_ok-hold_originals.ensures.attached;
      placed = c.in_ok-hold_originals.ensures.placed;
      counts = record {
        uses = subst (AreFewUses 0) (sym c.in_ok-hold_originals.ensures.held) (few_uses-unused (named_from 0 c.clauses.result.now));
        lemmas = let none = ap length c.new-2.ensures in omega arith;
        period_conflicts = omega arith;
        limit = omega arith;
        few_conflicts = c.requires.settings.few_limit;
        row = row_ranges c.args.core c.row-row.result
            (row_is c.shipped.result c.args.core c.row-row.result c.shipped.ensures (omega (arith, c.requires.core, c.requires.settings.few_cores)) c.row-row.ensures.value);
      };
      order = record {
        activities = ap (λ (o : OrderState). length o.activities) c.in_ok-order.ensures ∙ c.in_ok-starts.ensures.each;
        present = subst (λ (o : OrderState). HasAllFree o c.in_ok-trail.trail.entries) (sym c.in_ok-order.ensures) (first_present c.in_ok-starts.starts c.in_ok-trail.trail.entries);
        weights = subst (λ (o : OrderState). AreActivitiesUpTo (2 ^ 16) o.activities) (sym c.in_ok-order.ensures) c.in_ok-starts.ensures.below;
      };
      pace = record { restarts = (let first = ap (λ (t : TempoState). t.t) c.new.ensures in omega arith); reductions = omega arith };
    }

-- the row is one of the table
pub new-requires : goal.new-requires
new-requires c =
    let row = row_ranges c.args.core c.row-row.result
    (row_is c.shipped.result c.args.core c.row-row.result c.shipped.ensures (omega (arith, c.requires.core, c.requires.settings.few_cores)) c.row-row.ensures.value) in
    omega (arith, row.some_unit)
