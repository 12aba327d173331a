use Rattle.std.proofs.Common.{◌≡◌, ◌++◌, true, false, length, ap, sym, ◌∙◌, subst}
use Rattle.std.specs.Prelude.{is_some}
use Rattle.clause_pool.specs.Pooled.{originals_of, is_front}
use Rattle.clause_pool.specs.Rising.{IsOrdered}
use Rattle.clause_pool.proofs.Order.{ordered-held_of}
use Rattle.clause_pool.proofs.Lookup.{behind_held, front_held}
use Rattle.clause_pool.proofs.pool.Pool.held.Goals as goal

-- a first original is held
pub returns-then-is_front-clause-value : goal.returns-then-is_front-clause-value
returns-then-is_front-clause-value c =
    let front : is_front (length c.self.inside.originals) c.args.name ≡ true = ap (λ count. is_front count c.args.name) (sym c.len.ensures) ∙ (sym c.is_front.ensures ∙ c.if-is_front.true) in
    c.if-is_front.true ∙ front_held c.self.inside.table c.self.inside.originals c.args.self.now.held c.args.name (record { apart = c.self.invariant.apart; is = ap (λ v. v.held) c.self.view_is }) front

-- any other clause is held where its name has a place
pub returns-else-is_front-clause-value : goal.returns-else-is_front-clause-value
returns-else-is_front-clause-value c =
    let behind : is_front (length c.self.inside.originals) c.args.name ≡ false = ap (λ count. is_front count c.args.name) (sym c.len.ensures) ∙ (sym c.is_front.ensures ∙ c.if-is_front.false) in
    c.is_some.ensures
    ∙ (ap is_some c.find.ensures
    ∙ sym (behind_held c.self.inside.table c.self.inside.originals c.args.self.now.held c.args.name (record { apart = c.self.invariant.apart; is = ap (λ v. v.held) c.self.view_is }) behind))

-- the clauses stand in order
pub returns-then-is_front-clause-ordered : goal.returns-then-is_front-clause-ordered
returns-then-is_front-clause-ordered c = subst IsOrdered (ap (λ v. v.held) c.self.view_is) (ordered-held_of (c.self.inside.table ++ originals_of c.self.inside.originals) c.self.invariant.apart)

pub returns-else-is_front-clause-ordered : goal.returns-else-is_front-clause-ordered
returns-else-is_front-clause-ordered c = subst IsOrdered (ap (λ v. v.held) c.self.view_is) (ordered-held_of (c.self.inside.table ++ originals_of c.self.inside.originals) c.self.invariant.apart)
