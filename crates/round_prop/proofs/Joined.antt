-- What propagation asks, after a clause is held and attached, or detached and dropped, and after propagation.
use Rattle.std.proofs.Common.{◌≡◌, List, [], ◌∷◌, ◌++◌, length, All, refl, ap, sym, ◌∙◌, subst}
use Rattle.std.specs.Prelude.{Some, None}
use Rattle.std.proofs.lemmas.Bool.{cond-true}
use Rattle.std.proofs.lemmas.List.{append-nil}
use Rattle.std.proofs.lemmas.List.Elements.{All-nil}
use Rattle.lit_base.specs.Literal.{IsWithin}
use Rattle.lit_base.specs.Rounds.{NamedClause}
use Rattle.lit_base.specs.Named.{same_name, lits_at}
use Rattle.lit_base.specs.Held.{HeldClause, clause_of, clauses_of, with_clause, without_names, with_named, names_without, clauses_without}
use Rattle.lit_base.specs.declared.trail.Entry.{Entry}
use Rattle.lit_base.specs.declared.name.Name.{Name}
use Rattle.lit_base.proofs.HeldClauses.{same_name-itself, lits_at-with, All-with, All-without}
use Rattle.clause_pool.specs.Spans.{PoolState}
use Rattle.trail_book.specs.TrailState.{TrailState}
use Rattle.round_prop.specs.Attached.{RoundsState, IsAttached, IsAttachedTo, IsNewTo}
use Rattle.round_prop.specs.Spanned.{IsPlacedIn}
use Rattle.round_prop.specs.Propagation.{MayPropagate, HasPropagated}
use Rattle.round_prop.specs.declared.found.Found.{Found}
use Rattle.round_prop.proofs.Follow.{clauses_of-with_clause, clauses_of-without_names}

-- where exactly the held clauses are attached, a name that isn't held is new
pub new_to : (r : RoundsState) (name : Name) (held : List HeldClause) (trail : List Entry) → IsAttachedTo r (clauses_of held) trail → lits_at (clauses_of held) name ≡ None → IsNewTo r name
new_to r name held trail before free = record { attached = clauses_of held; fresh = before.fresh; seen = before.seen; is = before.attached; new = free }

-- a clause that is held and attached is one of those that are
pub attached-with : (r after : RoundsState) (c : HeldClause) (held : List HeldClause) (trail : List Entry) → lits_at (clauses_of held) c.name ≡ None →
    ((attached : List NamedClause) (fresh : List Name) (seen : List Entry) → IsAttached r attached fresh seen → lits_at attached c.name ≡ None →
    IsAttached after (with_named (clause_of c) attached) (c.name ∷ fresh) seen) → IsAttachedTo r (clauses_of held) trail → IsAttachedTo after (clauses_of (with_clause c held)) trail
attached-with r after c held trail free attaches before = record {
  fresh = c.name ∷ before.fresh;
  seen = before.seen;
  newer = before.newer;
  attached =
      subst (λ clauses. IsAttached after clauses (c.name ∷ before.fresh) before.seen) (sym (clauses_of-with_clause c held))
      (attaches (clauses_of held) before.fresh before.seen before.attached free);
  older = before.older;
}

-- and clauses that are detached and dropped are none of them
pub attached-without : (r after : RoundsState) (names : List Name) (held : List HeldClause) (trail : List Entry) →
    ((attached : List NamedClause) (fresh : List Name) (seen : List Entry) → IsAttached r attached fresh seen →
    IsAttached after (clauses_without names attached) (names_without names fresh) seen) → IsAttachedTo r (clauses_of held) trail →
    IsAttachedTo after (clauses_of (without_names names held)) trail
attached-without r after names held trail detaches before = record {
  fresh = names_without names before.fresh;
  seen = before.seen;
  newer = before.newer;
  attached =
      subst (λ clauses. IsAttached after clauses (names_without names before.fresh) before.seen) (sym (clauses_of-without_names names held))
      (detaches (clauses_of held) before.fresh before.seen before.attached);
  older = before.older;
}

-- the same with all that propagation asks
pub may-with : (r after : RoundsState) (c : HeldClause) (pool more : PoolState) (trail : TrailState) → more.held ≡ with_clause c pool.held → IsAttachedTo after (clauses_of (with_clause c pool.held)) trail.entries →
    IsPlacedIn after more.added → after.variables ≡ r.variables → All (IsWithin (length trail.saved)) c.lits → MayPropagate r pool trail → MayPropagate after more trail
may-with r after c pool more trail is attached placed same within before = record {
  attached = subst (λ held. IsAttachedTo after (clauses_of held) trail.entries) (sym is) attached;
  placed = placed;
  variables = same ∙ before.variables;
  within = subst (λ held. All (λ (d : NamedClause). All (IsWithin (length trail.saved)) d.lits) (clauses_of held)) (sym is) (All-with (λ (d : NamedClause). All (IsWithin (length trail.saved)) d.lits) c pool.held within before.within);
}

pub may-without : (r after : RoundsState) (names : List Name) (pool less : PoolState) (trail : TrailState) → less.held ≡ without_names names pool.held → IsAttachedTo after (clauses_of (without_names names pool.held)) trail.entries →
    IsPlacedIn after less.added → after.variables ≡ r.variables → MayPropagate r pool trail → MayPropagate after less trail
may-without r after names pool less trail is attached placed same before = record {
  attached = subst (λ held. IsAttachedTo after (clauses_of held) trail.entries) (sym is) attached;
  placed = placed;
  variables = same ∙ before.variables;
  within = subst (λ held. All (λ (d : NamedClause). All (IsWithin (length trail.saved)) d.lits) (clauses_of held)) (sym is) (All-without (λ (d : NamedClause). All (IsWithin (length trail.saved)) d.lits) names pool.held before.within);
}

-- a clause that is held under a new name is found
pub found_new : (c : HeldClause) (held : List HeldClause) → lits_at (clauses_of held) c.name ≡ None → lits_at (clauses_of (with_clause c held)) c.name ≡ Some c.lits
found_new c held free = lits_at-with c held c.name free ∙ cond-true (same_name c.name c.name) (Some c.lits) (lits_at (clauses_of held) c.name) (same_name-itself c.name)

-- after propagation it may go on from the trail that it left
pub may-after : (pool : PoolState) (before after : TrailState) (r : RoundsState) (found : Found) → HasPropagated pool before r after found →
    All (λ c. All (IsWithin (length before.saved)) c.lits) (clauses_of pool.held) → MayPropagate r pool after
may-after pool before after r found told within =
    let saved = ap (λ (t : TrailState). length t.saved) told.trail in
    record {
      attached = record { fresh = []; seen = after.entries; newer = []; attached = told.attached; older = refl };
      placed = told.placed;
      variables = told.variables ∙ sym saved;
      within = subst (λ n. All (λ (c : NamedClause). All (IsWithin n) c.lits) (clauses_of pool.held)) (sym saved) within;
    }

-- at first it may go over no clauses, from any trail over the variables
pub may-first : (r : RoundsState) (pool : PoolState) (trail : TrailState) → pool ≡ record { held = []; added = [] } → IsAttached r [] [] [] → IsPlacedIn r pool.added → r.variables ≡ length trail.saved → MayPropagate r pool trail
may-first r pool trail none attached placed variables = record {
  attached = subst (λ (p : PoolState). IsAttachedTo r (clauses_of p.held) trail.entries) (sym none)
      (record { fresh = []; seen = []; newer = trail.entries; attached = attached; older = sym (append-nil trail.entries) });
  placed = placed;
  variables = variables;
  within = subst (λ (p : PoolState). All (λ (c : NamedClause). All (IsWithin (length trail.saved)) c.lits) (clauses_of p.held)) (sym none) (All-nil (λ (c : NamedClause). All (IsWithin (length trail.saved)) c.lits));
}

-- after a jump that was told, where no entry left that was seen
pub may-above : (pool : PoolState) (trail : TrailState) (r after : RoundsState) → ((attached : List NamedClause) (fresh : List Name) (seen more : List Entry) →
    IsAttached r attached fresh seen → trail.entries ≡ more ++ seen → IsAttached after attached fresh seen) → ((added : List NamedClause) → IsPlacedIn r added → IsPlacedIn after added) → after.variables ≡ r.variables →
    MayPropagate r pool trail → MayPropagate after pool trail
may-above pool trail r after told places same before =
    let b = before.attached in
    record {
      attached = record { fresh = b.fresh; seen = b.seen; newer = b.newer; attached = told (clauses_of pool.held) b.fresh b.seen b.newer b.attached b.older; older = b.older };
      placed = places pool.added before.placed;
      variables = same ∙ before.variables;
      within = before.within;
    }
