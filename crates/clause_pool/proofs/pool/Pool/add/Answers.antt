use Rattle.std.proofs.Common.{◌≡◌, ◌++◌, [], length, ap, sym, ◌∙◌, subst}
use Rattle.std.proofs.lemmas.Bool.{eqb-true}
use Rattle.std.proofs.lemmas.List.{nil_from_length}
use Rattle.lit_base.specs.Rounds.{original}
use Rattle.lit_base.specs.Named.{lits_at}
use Rattle.lit_base.specs.Held.{clauses_of}
use Rattle.clause_pool.specs.Pooled.{originals_of, IsPool}
use Rattle.clause_pool.proofs.Fronts.{rows_pushed}
use Rattle.clause_pool.proofs.Pooling.{pool_added}
use Rattle.clause_pool.proofs.Spanning.{new_name}
use Rattle.clause_pool.proofs.pool.Pool.add.Goals as goal

-- an original is pushed behind those before it
pub invariant_of-self-then-fits : goal.invariant_of-self-then-fits
invariant_of-self-then-fits c =
    let none : c.self.inside.table ≡ [] = nil_from_length c.self.inside.table (eqb-true (length c.self.inside.table) 0 (sym c.is_empty.ensures ∙ c.if-is_empty.true)) in
    let named : c.args.name ≡ original (length c.self.inside.originals) = c.is_original_at.ensures.0 c.if-is_original_at.true ∙ ap original c.len.ensures in
    subst IsPool (sym (rows_pushed c.self.inside.table c.self.inside.originals c.push.new.self c.args.name c.args.lits.now none named c.in_ok-push.ensures.ok))
    (pool_added (record { name = c.args.name; lits = c.args.lits.now; uses = 0 }) (c.self.inside.table ++ originals_of c.self.inside.originals) c.self.invariant
    (ap (λ v. lits_at (clauses_of v.held) c.args.name) c.self.view_is ∙ c.requires.free) c.requires.distinct)

-- any other clause is added to the table
pub invariant_of-self-2 : goal.invariant_of-self-2
invariant_of-self-2 c =
    subst (λ table. IsPool (table ++ originals_of c.self.inside.originals)) (sym c.in_ok-add.ensures.ok)
    (pool_added (record { name = c.args.name; lits = c.args.lits.now; uses = 0 }) (c.self.inside.table ++ originals_of c.self.inside.originals) c.self.invariant
    (ap (λ v. lits_at (clauses_of v.held) c.args.name) c.self.view_is ∙ c.requires.free) c.requires.distinct)

-- the name is that of no clause, in whatever order
pub returns-in_err-push-clause-new : goal.returns-in_err-push-clause-new
returns-in_err-push-clause-new c = new_name (c.self.inside.table ++ originals_of c.self.inside.originals) c.args.self.now c.args.name c.self.view_is c.self.invariant.apart c.requires.free

pub returns-then-fits-clause-new : goal.returns-then-fits-clause-new
returns-then-fits-clause-new c = new_name (c.self.inside.table ++ originals_of c.self.inside.originals) c.args.self.now c.args.name c.self.view_is c.self.invariant.apart c.requires.free

pub returns-in_err-add-clause-new : goal.returns-in_err-add-clause-new
returns-in_err-add-clause-new c = new_name (c.self.inside.table ++ originals_of c.self.inside.originals) c.args.self.now c.args.name c.self.view_is c.self.invariant.apart c.requires.free

pub returns-clause-new : goal.returns-clause-new
returns-clause-new c = new_name (c.self.inside.table ++ originals_of c.self.inside.originals) c.args.self.now c.args.name c.self.view_is c.self.invariant.apart c.requires.free
