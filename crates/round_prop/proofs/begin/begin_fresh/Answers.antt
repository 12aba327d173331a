use Rattle.std.proofs.Common.{◌≡◌, ◌+◌, ◌∷◌, [], ◌++◌, length, ap, ◌∙◌, subst, arith}
use Rattle.std.proofs.lemmas.List.{length-append, nil_from_length}
use Rattle.std.specs.Prelude.{List, vec_len, vec_capacity}
use Rattle.lit_base.specs.Held.{clauses_of}
use Rattle.lit_base.specs.declared.trail.Entry.{Entry}
use Rattle.lit_base.specs.declared.name.Name.{Name}
use Rattle.round_prop.specs.Attached.{AreAttachedIn, AreRoomy}
use Rattle.round_prop.specs.FreshClauses.{fresh_names}
use Rattle.round_prop.specs.declared.fresh.Fresh.{Fresh}
use Rattle.round_prop.proofs.Beginning.{fresh_names-last}
use Rattle.round_prop.proofs.begin.begin_fresh.Goals as goal
use Rattle.round_prop.proofs.begin.begin_fresh.Goals.{After-drop-next}

-- the newest fresh clause is taken out
taken : (rest : List Fresh) (next : Fresh) (fresh : List Fresh) → fresh ≡ rest ++ next ∷ [] → fresh_names fresh ≡ next.name ∷ fresh_names rest
taken rest next fresh are = ap fresh_names are ∙ fresh_names-last rest next

-- what was attached is so, with the names in this order
at_next : (g : _) (c : After-drop-next g) (done : List Entry) → AreAttachedIn (clauses_of c.args.pool.now.held) c.args.trail.now.entries done c.args.table.now c.args.shorts.now.items (fresh_names c.args.fresh.now.items) →
    AreAttachedIn (clauses_of c.args.pool.now.held) c.args.trail.now.entries done c.loop-next.table c.loop-next.shorts.items (c.in-Some.next.name ∷ fresh_names c.pop.new.self.items)
at_next g c done are =
    subst (λ names. AreAttachedIn (clauses_of c.args.pool.now.held) c.args.trail.now.entries done c.loop-next.table c.loop-next.shorts.items names)
    (taken c.pop.new.self.items c.in-Some.next c.loop-next.fresh.items c.in-Some.ensures.items) (c.loop-next.invariant.attached done are)

pub begin-requires-clause-attached : goal.begin-requires-clause-attached
begin-requires-clause-attached g c = (
  c.requires.attached.0,
  fresh_names c.pop.new.self.items,
  subst (λ names. AreAttachedIn (clauses_of c.args.pool.now.held) c.args.trail.now.entries c.requires.attached.0 c.loop-next.table c.loop-next.shorts.items names)
      (taken c.pop.new.self.items c.in-Some.next c.loop-next.fresh.items c.in-Some.ensures.items) (c.loop-next.invariant.attached c.requires.attached.0 c.requires.attached.1),
)

pub loop-next-preserved : goal.loop-next-preserved
loop-next-preserved g c =
    let items : length c.loop-next.fresh.items ≡ length c.pop.new.self.items + 1 = ap length c.in-Some.ensures.items ∙ length-append c.pop.new.self.items (c.in-Some.next ∷ []) in
    let long : vec_len c.loop-next.fresh ≡ vec_len c.pop.new.self + 1 = omega (arith, items) in
    record {
      attached = λ done are. c.begin.ensures.attached done (fresh_names c.pop.new.self.items) (at_next g c done are);
      roomy = c.begin.ensures.roomy (vec_len c.pop.new.self)
          (subst (λ n. AreRoomy (length c.args.trail.now.saved) c.loop-next.table (vec_len c.loop-next.shorts) (vec_capacity c.loop-next.shorts) n) long c.loop-next.invariant.roomy);
      spanned = λ all. c.begin.ensures.spanned (c.loop-next.invariant.spanned all);
      steps = omega (arith, long, c.begin.ensures.steps, c.loop-next.invariant.steps);
    }

pub returns-clause-attached : goal.returns-clause-attached
returns-clause-attached g c =
    let none : vec_len c.loop-next.fresh ≡ 0 = c.in_default.ensures.cases.0 in
    let no_length : length c.loop-next.fresh.items ≡ 0 = omega (arith, none) in
    λ done are.
    subst (λ (names : List Name). AreAttachedIn (clauses_of c.args.pool.now.held) c.args.trail.now.entries done c.loop-next.table c.loop-next.shorts.items names)
    (ap fresh_names (nil_from_length c.loop-next.fresh.items no_length)) (c.loop-next.invariant.attached done are)
