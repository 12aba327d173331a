use Rattle.std.proofs.Common.{◌≡◌, true, ◌∷◌, [], All, sym, subst, rules}
use Rattle.std.specs.Prelude.{is_some, IsTrue}
use Rattle.std.specs.List.{IsDistinct}
use Rattle.lit_base.specs.Named.{lits_at}
use Rattle.lit_base.specs.Held.{clauses_of, is_among}
use Rattle.lit_base.specs.Rounds.{NamedClause}
use Rattle.lit_base.proofs.HeldClauses.{All-without}
use Rattle.round_prop.proofs.Joined.{attached-without, may-without}
use Rattle.round_prop.proofs.tests.release.Goals as goal

-- a clause that is held is attached
pub detach-requires : goal.detach-requires
unfolding IsDistinct
detach-requires g c =
    let before = c.requires.attached in
    let held : is_some (lits_at (clauses_of c.args.pool.now.held) c.args.name) ≡ true = search rules in
    record { attached = record { attached = clauses_of c.args.pool.now.held; fresh = before.fresh; seen = before.seen; is = before.attached; found = (held, tt); distinct = (tt, tt) } }

-- it is one name
pub drop_names-requires-clause-distinct : goal.drop_names-requires-clause-distinct
unfolding IsDistinct
drop_names-requires-clause-distinct g c = (tt, tt)

-- the others are held and attached
pub returns-clause-may : goal.returns-clause-may
returns-clause-may g c =
    let names = c.args.name ∷ [] in
    let attached = attached-without c.args.rounds.now c.detach.new.self names c.args.pool.now.held c.args.trail.now.entries c.detach.ensures.attached c.requires.attached in
    may-without c.args.rounds.now c.detach.new.self names c.args.pool.now c.drop_names.new.self c.args.trail.now c.drop_names.ensures.held attached c.detach.ensures.placed c.detach.ensures.variables c.requires

-- under the names that all have
pub returns-clause-names : goal.returns-clause-names
returns-clause-names g c = λ names before.
    let Named = λ (d : NamedClause). IsTrue (is_among names d.name) in
    subst (λ less. All Named (clauses_of less)) (sym c.drop_names.ensures.held) (All-without Named (c.args.name ∷ []) c.args.pool.now.held before)
