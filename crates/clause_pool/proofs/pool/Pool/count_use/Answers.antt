use Rattle.std.proofs.Common.{◌++◌, [], ◌∷◌, length, ap, sym, ◌∙◌, subst, eq-eqb}
use Rattle.std.specs.Prelude.{option_map}
use Rattle.std.proofs.lemmas.Bool.{ne_eqb}
use Rattle.lit_base.specs.Held.{clauses_of, with_use, with_uses}
use Rattle.lit_base.proofs.HeldClauses.{clauses_of-with_uses}
use Rattle.clause_pool.specs.Pooled.{held_of, originals_of, IsPool}
use Rattle.clause_pool.proofs.Fronts.{apart_left}
use Rattle.clause_pool.proofs.Lookup.{behind_held, behind_clause, lemma_behind}
use Rattle.clause_pool.proofs.Pooling.{with_uses-original, used_name, used_rows, held_of-map, pool_changed}
use Rattle.clause_pool.proofs.pool.Pool.count_use.Goals as goal

-- a use of an original isn't counted
pub returns-then-name-eq0-clause-held : goal.returns-then-name-eq0-clause-held
returns-then-name-eq0-clause-held c = sym (with_uses-original c.args.name c.args.self.now.held (eq-eqb c.args.name.period 0 c.if-name-eq0.true))

-- a lemma has a place in the table
pub place-place-requires : goal.place-place-requires
place-place-requires c =
    let behind = lemma_behind (length c.self.inside.originals) c.args.name (ne_eqb c.args.name.period 0 c.if-name-eq0.false) in
    sym (behind_held c.self.inside.table c.self.inside.originals c.args.self.now.held c.args.name (record { apart = c.self.invariant.apart; is = ap (λ v. v.held) c.self.view_is }) behind) ∙ c.requires.held

pub count_use-requires-clause-within : goal.count_use-requires-clause-within
count_use-requires-clause-within c =
    let behind = lemma_behind (length c.self.inside.originals) c.args.name (ne_eqb c.args.name.period 0 c.if-name-eq0.false) in
    (behind_clause c.self.inside.table c.self.inside.originals c.args.self.now.held c.args.name c.place-place.result (record { apart = c.self.invariant.apart; is = ap (λ v. v.held) c.self.view_is }) behind
    c.place-place.ensures).1

pub count_use-requires-clause-fits : goal.count_use-requires-clause-fits
count_use-requires-clause-fits c = λ d is.
    let behind = lemma_behind (length c.self.inside.originals) c.args.name (ne_eqb c.args.name.period 0 c.if-name-eq0.false) in
    let here = behind_clause c.self.inside.table c.self.inside.originals c.args.self.now.held c.args.name c.place-place.result (record { apart = c.self.invariant.apart; is = ap (λ v. v.held) c.self.view_is }) behind
    c.place-place.ensures in
    c.requires.fits d.uses (ap (λ o. option_map (λ e. e.uses) o) (here.0 ∙ is))

-- one clause has one use more
pub invariant_of-self : goal.invariant_of-self
invariant_of-self c =
    let rows = c.self.inside.table ++ originals_of c.self.inside.originals in
    let apart = apart_left c.self.inside.table (originals_of c.self.inside.originals) c.self.invariant.apart in
    let table = ap (λ counted. counted ++ originals_of c.self.inside.originals) c.count_use.ensures
    ∙ used_rows c.self.inside.table c.self.inside.originals c.args.name c.place-place.result apart (ne_eqb c.args.name.period 0 c.if-name-eq0.false) c.place-place.ensures in
    subst IsPool (sym table) (pool_changed (with_use (c.args.name ∷ [])) (used_name c.args.name) (clauses_of-with_uses (c.args.name ∷ [])) rows c.self.invariant)

pub returns-clause-held : goal.returns-clause-held
returns-clause-held c =
    let rows = c.self.inside.table ++ originals_of c.self.inside.originals in
    let apart = apart_left c.self.inside.table (originals_of c.self.inside.originals) c.self.invariant.apart in
    let table = ap (λ counted. counted ++ originals_of c.self.inside.originals) c.count_use.ensures
    ∙ used_rows c.self.inside.table c.self.inside.originals c.args.name c.place-place.result apart (ne_eqb c.args.name.period 0 c.if-name-eq0.false) c.place-place.ensures in
    ap held_of table ∙ (held_of-map (with_use (c.args.name ∷ [])) (used_name c.args.name) rows ∙ ap (λ v. with_uses (c.args.name ∷ []) v.held) c.self.view_is)

pub returns-clause-added : goal.returns-clause-added
returns-clause-added c =
    let rows = c.self.inside.table ++ originals_of c.self.inside.originals in
    let apart = apart_left c.self.inside.table (originals_of c.self.inside.originals) c.self.invariant.apart in
    let table = ap (λ counted. counted ++ originals_of c.self.inside.originals) c.count_use.ensures
    ∙ used_rows c.self.inside.table c.self.inside.originals c.args.name c.place-place.result apart (ne_eqb c.args.name.period 0 c.if-name-eq0.false) c.place-place.ensures in
    ap clauses_of table ∙ (clauses_of-with_uses (c.args.name ∷ []) rows ∙ ap (λ v. v.added) c.self.view_is)
