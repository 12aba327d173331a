use Rattle.std.proofs.Common.{◌≡◌, ap, sym, ◌∙◌, subst, get_or}
use Rattle.lit_base.specs.Rounds.{original}
use Rattle.lit_base.specs.Named.{lits_at}
use Rattle.lit_base.specs.Held.{clauses_of, unused, with_clause}
use Rattle.solo_core.proofs.FirstClauses.{held_original, held_from-more, held_from-free}
use Rattle.solo_core.proofs.first.hold_originals.Goals as goal

-- the name of the next clause is free
pub hold_clause-requires-clause-free : goal.hold_clause-requires-clause-free
hold_clause-requires-clause-free c =
    ap (λ name. lits_at (clauses_of c.loop-index.pool.held) name) c.original-name.ensures ∙
    (ap (λ held. lits_at (clauses_of held) (original c.loop-index.index)) c.loop-index.invariant.held ∙ held_from-free c.args.clauses.now c.loop-index.index c.loop-index-test.true)

-- the next clause is held and attached
pub loop-index-preserved : goal.loop-index-preserved
loop-index-preserved c =
    let clauses = c.args.clauses.now in
    let i = c.loop-index.index in
    let lits = c.lits.result.now in
    let is : lits ≡ get_or clauses i lits = subst (λ l. l ≡ get_or clauses i l) (sym c.lits.ensures.value) c.index-clauses-index.is in
    record {
      held = c.in_ok-hold_clause.ensures.held
          ∙ (ap (λ name. with_clause (unused (record { name = name; lits = lits })) c.loop-index.pool.held) c.original-name.ensures
          ∙ (ap (with_clause (held_original i lits)) c.loop-index.invariant.held ∙ held_from-more clauses i lits c.loop-index-test.true is));
      attached = c.in_ok-hold_clause.ensures.attached;
      placed = c.in_ok-hold_clause.ensures.placed;
      variables = c.in_ok-hold_clause.ensures.variables ∙ c.loop-index.invariant.variables;
    }
