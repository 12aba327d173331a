-- What a search keeps where clauses are dropped and uses are counted anew.
use Rattle.std.proofs.Common.{◌≡◌, ℕ, ◌+◌, ◌*◌, ◌<◌, List, [], ◌∷◌, ap, sym, ◌∙◌, subst, arith}
use Rattle.std.proofs.lemmas.Bool.{cond-true, lt-ltb}
use Rattle.lit_base.specs.Rounds.{NamedClause}
use Rattle.lit_base.specs.Held.{HeldClause, clauses_of, without_names, clauses_without, names_without, volume_of}
use Rattle.lit_base.specs.declared.trail.Entry.{Entry}
use Rattle.lit_base.specs.declared.name.Name.{Name}
use Rattle.clause_pool.specs.Uses.{cleared}
use Rattle.round_prop.specs.Attached.{RoundsState, IsAttached, IsAttachedTo}
use Rattle.round_prop.proofs.Follow.{clauses_of-without_names}
use Rattle.trim_rule.specs.Reduction.{dropped_names}
use Rattle.solo_core.specs.State.{CoreState}
use Rattle.solo_core.specs.Turn.{is_reduction_due, after_reduction, reduced}
use Rattle.solo_core.specs.Searching.{AreFewUses}
use Rattle.solo_core.proofs.SoundPaced.{clauses_of-cleared}

-- uses that are counted anew are few
pub few_uses-cleared : (most : ℕ) (held : List HeldClause) → AreFewUses most (cleared held)
few_uses-cleared most [] = tt
few_uses-cleared most (c ∷ later) = (omega arith, few_uses-cleared most later)

-- what the detaching of these names tells
abbrev pub TellsDropped : RoundsState → RoundsState → List Name → Type 0
TellsDropped before after names = (attached : List NamedClause) (fresh : List Name) (seen : List Entry) → IsAttached before attached fresh seen →
    IsAttached after (clauses_without names attached) (names_without names fresh) seen

-- propagation goes over the clauses that are left
pub dropped_attached : (before after : RoundsState) (held left : List HeldClause) (trail : List Entry) (names : List Name) → left ≡ cleared (without_names names held) →
    TellsDropped before after names → IsAttachedTo before (clauses_of held) trail → IsAttachedTo after (clauses_of left) trail
dropped_attached before after held left trail names is told attached =
    let same : clauses_without names (clauses_of held) ≡ clauses_of left =
    sym (clauses_of-without_names names held) ∙ (sym (clauses_of-cleared (without_names names held)) ∙ ap clauses_of (sym is)) in
    record {
      fresh = names_without names attached.fresh;
      seen = attached.seen;
      newer = attached.newer;
      attached = subst (λ clauses. IsAttached after clauses (names_without names attached.fresh) attached.seen) same (told (clauses_of held) attached.fresh attached.seen attached.attached);
      older = attached.older;
    }

-- where a reduction is due, these clauses are left
pub reduced_is : (state : CoreState) (left : List HeldClause) (names : List Name) → 2000 + 500 * state.reductions < volume_of state.clauses → names ≡ dropped_names state.clauses state.trail →
    left ≡ cleared (without_names names state.clauses) → record state { clauses = left; reductions = state.reductions + 1 } ≡ reduced state
reduced_is state left names due names_are is =
    ap (λ (held : List HeldClause). (let k : CoreState = record state { clauses = held; reductions = state.reductions + 1 } in k))
    (is ∙ ap (λ (ns : List Name). cleared (without_names ns state.clauses)) names_are)
    ∙ sym (cond-true (is_reduction_due state) (after_reduction state) state (lt-ltb (2000 + 500 * state.reductions) (volume_of state.clauses) due))
