use Rattle.std.proofs.Common.{◌≡◌, ◌^◌, List, subst, sym, ap, ◌∙◌}
use Rattle.std.specs.Prelude.{IsSome}
use Rattle.std.specs.List.{AllByRecursion, IsDistinct}
use Rattle.lit_base.specs.Literal.{Literal, same}
use Rattle.lit_base.specs.Named.{lits_at}
use Rattle.lit_base.specs.Held.{HeldClause, clauses_of, unused, with_clause}
use Rattle.lit_base.specs.declared.name.Name.{Name}
use Rattle.lit_base.proofs.HeldClauses.{finds_more-with}
use Rattle.solo_core.specs.declared.lemma.Lemma.{Lemma}
use Rattle.round_prop.specs.Attached.{IsAttachedTo}
use Rattle.round_prop.specs.Spanned.{IsPlacedIn}
use Rattle.solo_core.specs.State.{lemma_clause}
use Rattle.solo_core.specs.Searching.{AreFewUses}
use Rattle.solo_core.proofs.CountedUses.{few_uses-with}
use Rattle.solo_core.proofs.Derived.{hints_more}
use Rattle.solo_core.proofs.Joined.{uses_attached}
use Rattle.solo_core.proofs.holding.hold_lemma.Goals as goal

-- the clauses with the lemma
with_lits : (lemma : Lemma) (lits : List Literal) (held after : List HeldClause) → after ≡ with_clause (unused (record { name = lemma.name; lits = lits })) held → lits ≡ lemma.lits →
    after ≡ with_clause (unused (lemma_clause lemma)) held
with_lits lemma lits held after is same = is ∙ ap (λ ls. with_clause (unused (record { name = lemma.name; lits = ls })) held) same

-- the literals are distinct
pub hold_clause-requires-clause-distinct : goal.hold_clause-requires-clause-distinct
hold_clause-requires-clause-distinct c = subst (IsDistinct same) (sym c.as_slice.ensures) c.requires.distinct

-- the hints are held still
pub count_uses-requires-clause-held : goal.count_uses-requires-clause-held
count_uses-requires-clause-held c =
    let lemma = c.args.lemma.now in
    let added = with_lits lemma c.as_slice.result.now c.args.pool.now.held c.hold_clause.new.pool.held c.in_ok-hold_clause.ensures.held c.as_slice.ensures in
    subst (λ (held : List HeldClause). AllByRecursion (λ hint. IsSome (lits_at (clauses_of held) hint)) c.as_slice-2.result.now) (sym added)
    (subst (λ (hints : List Name). AllByRecursion (λ hint. IsSome (lits_at (clauses_of (with_clause (unused (lemma_clause lemma)) c.args.pool.now.held)) hint)) hints) (sym c.as_slice-2.ensures)
    (hints_more (lits_at (clauses_of c.args.pool.now.held)) (lits_at (clauses_of (with_clause (unused (lemma_clause lemma)) c.args.pool.now.held))) lemma.hints
    (finds_more-with (unused (lemma_clause lemma)) c.args.pool.now.held c.requires.free) c.requires.held))

-- the lemma has no uses yet
pub count_uses-requires-clause-few : goal.count_uses-requires-clause-few
count_uses-requires-clause-few c =
    let lemma = c.args.lemma.now in
    let added = with_lits lemma c.as_slice.result.now c.args.pool.now.held c.hold_clause.new.pool.held c.in_ok-hold_clause.ensures.held c.as_slice.ensures in
    subst (AreFewUses (2 ^ 32)) (sym added) (few_uses-with (2 ^ 32) (lemma_clause lemma) c.args.pool.now.held c.requires.few)

-- propagation goes over the lemma too
pub returns-clause-attached : goal.returns-clause-attached
returns-clause-attached c =
    subst (λ (held : List HeldClause). IsAttachedTo c.hold_clause.new.rounds (clauses_of held) c.args.trail.now.entries) (sym c.count_uses.ensures.held)
    (uses_attached c.hold_clause.new.rounds c.hold_clause.new.pool.held c.args.trail.now.entries c.as_slice-2.result.now c.in_ok-hold_clause.ensures.attached)

-- and remembers its places
pub returns-clause-placed : goal.returns-clause-placed
returns-clause-placed c = subst (IsPlacedIn c.hold_clause.new.rounds) (sym c.count_uses.ensures.added) c.in_ok-hold_clause.ensures.placed
