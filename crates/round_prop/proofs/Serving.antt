-- What is attached as propagation begins, of the whole trail.
use Rattle.std.proofs.Common.{◌≡◌, List, length, ap, sym, ◌∙◌, subst, arith}
use Rattle.std.specs.Prelude.{ℕ, ◌≤◌}
use Rattle.lit_base.specs.Rounds.{NamedClause}
use Rattle.lit_base.specs.Held.{names_of}
use Rattle.lit_base.specs.Fits.{HasDistinctVariables}
use Rattle.lit_base.specs.declared.trail.Entry.{Entry}
use Rattle.lit_base.specs.declared.name.Name.{Name}
use Rattle.round_prop.specs.Attached.{RoundsState, IsAttached, IsAttachedTo, IsAttachedBy, AreAttachedIn}
use Rattle.round_prop.specs.FreshClauses.{clauses_of_fresh, fresh_names}
use Rattle.round_prop.specs.Readied.{oldest}
use Rattle.round_prop.specs.declared.fresh.Fresh.{Fresh}
use Rattle.round_prop.proofs.Beginning.{fresh_names-are, attached_resumes}
use Rattle.round_prop.proofs.OldestSteps.{oldest_whole}
use Rattle.round_prop.proofs.Seen.{not_fewer}

module _ (r state : RoundsState) (clauses : List NamedClause) (trail : List Entry) (same : r ≡ state) (to : IsAttachedTo state clauses trail) where
  -- what was attached, of the fields
  pub attached_fields : IsAttachedBy r clauses to.fresh to.seen
  unfolding IsAttached
  attached_fields = subst (λ (s : RoundsState). IsAttachedBy s clauses to.fresh to.seen) (sym same) to.attached

  -- it serves the whole trail
  pub attached_whole : (fresh : List Fresh) → r.fresh ≡ clauses_of_fresh fresh → HasDistinctVariables trail → AreAttachedIn clauses trail to.seen r.table r.shorts (fresh_names fresh)
  attached_whole fresh is distinct =
      subst (λ (names : List Name). AreAttachedIn clauses trail to.seen r.table r.shorts names) (sym attached_fields.fresh_are ∙ (ap names_of is ∙ fresh_names-are fresh))
      (attached_resumes clauses to.seen trail r.table r.shorts to.fresh distinct (record { newer = to.newer; front = to.older }) attached_fields.are)

  -- so many entries were seen
  pub seen_count : (seen : ℕ) → seen ≡ length r.seen → seen ≡ length to.seen
  seen_count seen count = count ∙ ap length attached_fields.seen_are

  pub seen_inside : (seen : ℕ) → seen ≡ length r.seen → seen ≤ length trail
  seen_inside seen count = omega (arith, seen_count seen count, not_fewer to.newer to.seen trail to.older)

  -- and they are the oldest of the trail
  pub seen_oldest : (seen : ℕ) → seen ≡ length r.seen → oldest seen trail ≡ to.seen
  seen_oldest seen count = ap (λ n. oldest n trail) (seen_count seen count) ∙ oldest_whole to.newer to.seen trail to.older
