use Rattle.std.proofs.Common.{◌≡◌, true, length, All, ap, sym, ◌∙◌, subst, rules}
use Rattle.std.specs.Prelude.{None, IsTrue}
use Rattle.std.proofs.lemmas.Result.{on_ok_weaker}
use Rattle.lit_base.specs.Literal.{IsWithin}
use Rattle.lit_base.specs.Named.{lits_at}
use Rattle.lit_base.specs.Held.{HeldClause, clause_of, clauses_of, is_among}
use Rattle.lit_base.specs.Rounds.{NamedClause}
use Rattle.lit_base.proofs.HeldClauses.{All-with}
use Rattle.round_prop.specs.Spanned.{IsPlacedIn}
use Rattle.round_prop.proofs.Joined.{new_to, found_new, attached-with, may-with}
use Rattle.round_prop.proofs.Spans.{placed_added}
use Rattle.round_prop.proofs.tests.hold.Goals as goal

-- a name that isn't held isn't attached
pub attach-requires-clause-new : goal.attach-requires-clause-new
attach-requires-clause-new g c = new_to c.args.rounds.now c.args.name c.args.pool.now.held c.args.trail.now.entries c.requires.attached (search rules)

-- the clause is held and attached
pub returns-clause-may : goal.returns-clause-may
returns-clause-may g c =
    let one : HeldClause = record { name = c.args.name; lits = c.lits.result.now; uses = 0 } in
    let pool = c.args.pool.now in
    let held = pool.held in
    let trail = c.args.trail.now in
    let free : lits_at (clauses_of held) c.args.name ≡ None = search rules in
    let told : c.is_within.result ≡ true = search rules in
    let within : All (IsWithin (length trail.saved)) c.lits.result.now =
    subst (λ n. All (IsWithin n) c.lits.result.now) c.variables.ensures.value (subst (λ lits. All (IsWithin c.variables.result) lits) (sym c.lits.ensures.value) (c.is_within.ensures.0 told)) in
    let found = ap (λ clauses. lits_at (clauses_of clauses) c.args.name) c.in_ok-add.ensures.held ∙ found_new one held free in
    let placed = c.attach.ensures.placed c.add.new.self.added
    (subst (IsPlacedIn c.args.rounds.now) (sym c.in_ok-add.ensures.added) (placed_added c.args.rounds.now (clause_of one) pool.added c.add.ensures.new c.requires.placed)) in
    on_ok_weaker c.attach.result
    (λ attaches. may-with c.args.rounds.now c.attach.new.self one pool c.add.new.self trail c.in_ok-add.ensures.held
    (attached-with c.args.rounds.now c.attach.new.self one held trail.entries free (λ attached fresh seen told none. attaches attached fresh seen one.lits told found none) c.requires.attached)
    placed c.attach.ensures.variables within c.requires)
    c.attach.ensures.attached

-- and its name is one of the names that all have
pub returns-clause-names : goal.returns-clause-names
returns-clause-names g c =
    let one : HeldClause = record { name = c.args.name; lits = c.lits.result.now; uses = 0 } in
    let is = sym c.in_ok-add.ensures.held in
    on_ok_weaker c.attach.result
    (λ attaches names among before.
    let Named = λ (d : NamedClause). IsTrue (is_among names d.name) in subst (λ more. All Named (clauses_of more)) is (All-with Named one c.args.pool.now.held among before))
    c.attach.ensures.attached
