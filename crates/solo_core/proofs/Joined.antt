-- The parts of a search fit one another, step after step.
use Rattle.std.proofs.Common.{◌≡◌, ℕ, Bool, ◌-◌, ◌≤◌, ◌<◌, List, [], ◌∷◌, ◌++◌, length, length-set, refl, ap, sym, ◌∙◌, subst, arith, ◌⊎◌, inl, inr}
use Rattle.std.specs.Prelude.{Option, Some, None, IsFalse, nat_le, Result, Ok, Err, OnOk}
use Rattle.std.specs.List.{AllByRecursion}
use Rattle.std.proofs.lemmas.Bool.{cond_both, cond-true}
use Rattle.lit_base.specs.Literal.{Literal}
use Rattle.lit_base.specs.Trail.{level_now, with_decision}
use Rattle.lit_base.specs.Backjump.{cut, with_saved, saved_after}
use Rattle.lit_base.specs.Rounds.{NamedClause, propagate}
use Rattle.lit_base.specs.Named.{same_name, lits_at}
use Rattle.lit_base.specs.Held.{HeldClause, clauses_of, unused, with_clause, with_uses, is_among, with_named}
use Rattle.lit_base.specs.Quiet.{IsQuiet, AreQuiet, AreQuietBelow}
use Rattle.lit_base.specs.declared.trail.Entry.{Entry}
use Rattle.lit_base.specs.declared.name.Name.{Name}
use Rattle.lit_base.proofs.Cuts.{cut_itself}
use Rattle.lit_base.proofs.HeldClauses.{same_name-itself, lits_at-with, clauses_of-with_uses}
use Rattle.round_prop.specs.Attached.{RoundsState, IsAttached, IsAttachedTo, IsNewTo, IsSettled}
use Rattle.round_prop.specs.Spanned.{IsPlacedIn}
use Rattle.round_prop.proofs.Follow.{clauses_of-with_clause}
use Rattle.trail_book.specs.TrailState.{TrailState, jumped}
use Rattle.var_order.specs.Order.{OrderState, HasAllFree}
use Rattle.solo_core.specs.State.{CoreFrame, CoreState, SearchState, order_of}
use Rattle.solo_core.specs.Turn.{decided}
use Rattle.solo_core.specs.Searching.{AreFewUses, AreActivitiesUpTo, most_activity, AreOver, IsOrdered, IsJoined, IsSearchAt}
use Rattle.solo_core.proofs.RaisedActivities.{up_to_more}
use Rattle.solo_core.proofs.Orders.{propagated_present}

-- what holds of a state holds of a search that is there
pub at_search : (P : CoreFrame → CoreState → Type 0) (frame : CoreFrame) (state : CoreState) (s : SearchState) → IsSearchAt frame state s → P frame state → P s.frame s.state
at_search P frame state s is holds = subst (λ f. P f s.state) (sym is.0) (subst (λ k. P frame k) (sym is.1) holds)

-- and the other way round
pub of_search : (P : CoreFrame → CoreState → Type 0) (frame : CoreFrame) (state : CoreState) (s : SearchState) → IsSearchAt frame state s → P s.frame s.state → P frame state
of_search P frame state s is holds = subst (λ f. P f state) is.0 (subst (λ k. P s.frame k) is.1 holds)

-- an entry more, which propagation hasn't seen
pub entry_attached : (r : RoundsState) (clauses : List NamedClause) (trail : List Entry) (e : Entry) → IsAttachedTo r clauses trail → IsAttachedTo r clauses (e ∷ trail)
entry_attached r clauses trail e attached = record {
  fresh = attached.fresh;
  seen = attached.seen;
  newer = e ∷ attached.newer;
  attached = attached.attached;
  older = ap (λ t. e ∷ t) attached.older;
}

-- after propagation all entries were seen
pub seen_attached : (r : RoundsState) (clauses : List NamedClause) (trail : List Entry) → IsAttached r clauses [] trail → IsAttachedTo r clauses trail
seen_attached r clauses trail attached = record { fresh = []; seen = trail; newer = []; attached = attached; older = refl }

-- a search with this order of variables
abbrev pub with_order : OrderState → SearchState → SearchState
with_order order s = record s { state = record s.state { activities = order.activities }; present = order.present }

-- another order with the same activities, in which each variable is that is free on the trail by now
pub other_order : (n : ℕ) (before after : OrderState) (trail later : List Entry) (conflicts more : ℕ) → conflicts ≤ more → IsOrdered n before trail conflicts → after.activities ≡ before.activities →
    HasAllFree after later → IsOrdered n after later more
other_order n before after trail later conflicts more above ordered same present = record {
  activities = ap (λ (a : List ℕ). length a) same ∙ ordered.activities;
  present = present;
  weights = subst (AreActivitiesUpTo (most_activity more)) (sym same) (up_to_more (most_activity conflicts) (most_activity more) before.activities (omega arith) ordered.weights);
}

pub ordered_joined : (s : SearchState) (order : OrderState) → IsJoined s → order.activities ≡ s.state.activities → HasAllFree order s.state.trail → IsJoined (with_order order s)
ordered_joined s order joined same present = record {
  over = joined.over;
  attached = joined.attached;
  placed = joined.placed;
  counts = joined.counts;
  order = other_order s.frame.variables (order_of s) order s.state.trail s.state.trail s.state.conflicts s.state.conflicts (omega arith) joined.order same present;
  pace = joined.pace;
}

-- a decision, after which each free variable is in the order
pub decided_joined : (s : SearchState) (l : Literal) (order : OrderState) → IsJoined s → order.activities ≡ s.state.activities → HasAllFree order (with_decision l s.state.trail) →
    IsJoined (with_order order (record s { state = decided l s.state }))
decided_joined s l order joined same present = record {
  over = joined.over;
  attached = entry_attached s.rounds (clauses_of s.state.clauses) s.state.trail _ joined.attached;
  placed = joined.placed;
  counts = joined.counts;
  order = other_order s.frame.variables (order_of s) order s.state.trail (with_decision l s.state.trail) s.state.conflicts s.state.conflicts (omega arith) joined.order same present;
  pace = joined.pace;
}

-- a cut trail is the rest of the trail
cut_rest : (level : ℕ) (trail : List Entry) → (more : List Entry) × (trail ≡ more ++ cut level trail)
cut_rest level [] = ([], refl)
cut_rest level (e ∷ older) =
    cond_both (nat_le e.level level) (e ∷ older) (cut level older) (λ t. (more : List Entry) × (e ∷ older ≡ more ++ t)) (λ stays. ([], refl))
    (λ leaves. let rest = cut_rest level older in (e ∷ rest.0, ap (λ t. e ∷ t) rest.1))

-- of a trail in two parts a cut leaves the older one in part, or the older one and a part of the newer one
abbrev CutParts : List Entry → List Entry → Type 0
CutParts older after = ((more : List Entry) × (older ≡ more ++ after)) ⊎ ((newer : List Entry) × (after ≡ newer ++ older))

cut_parts : (newer : List Entry) (level : ℕ) (older : List Entry) → CutParts older (cut level (newer ++ older))
cut_parts [] level older = inl (cut_rest level older)
cut_parts (e ∷ newer) level older =
    cond_both (nat_le e.level level) (e ∷ (newer ++ older)) (cut level (newer ++ older)) (CutParts older) (λ stays. inr (e ∷ newer, refl)) (λ leaves. cut_parts newer level older)

-- clauses that are all quiet are settled
quiet_settled : (trail : List Entry) (fresh : List Name) (clauses : List NamedClause) → AreQuiet trail clauses → AllByRecursion (λ c. IsFalse (is_among fresh c.name) → IsQuiet trail c.lits) clauses
quiet_settled trail fresh [] quiet = tt
quiet_settled trail fresh (c ∷ others) quiet = (λ new. quiet.0, quiet_settled trail fresh others quiet.1)

-- what propagation knows after it was told of a jump that took entries which it had seen
abbrev pub TellsCut : RoundsState → RoundsState → List Entry → Type 0
TellsCut before after trail = (attached : List NamedClause) (fresh : List Name) (seen more : List Entry) → IsAttached before attached fresh seen → seen ≡ more ++ trail →
    IsSettled trail attached fresh → IsAttached after attached fresh trail

-- and after one that took only entries which it hadn't seen
abbrev pub TellsAbove : RoundsState → RoundsState → List Entry → Type 0
TellsAbove before after trail = (attached : List NamedClause) (fresh : List Name) (seen more : List Entry) → IsAttached before attached fresh seen → trail ≡ more ++ seen →
    IsAttached after attached fresh seen

above_attached : (before after : RoundsState) (clauses : List NamedClause) (trail : List Entry) → TellsAbove before after trail → IsAttachedTo before clauses trail →
    IsAttachedTo after clauses trail
above_attached before after clauses trail told attached = record {
  fresh = attached.fresh;
  seen = attached.seen;
  newer = attached.newer;
  attached = told clauses attached.fresh attached.seen attached.newer attached.attached attached.older;
  older = attached.older;
}

quiet_attached : (before after : RoundsState) (clauses : List NamedClause) (trail : List Entry) (level : ℕ) → TellsCut before after (cut level trail) → TellsAbove before after (cut level trail) →
    IsAttachedTo before clauses trail → AreQuiet (cut level trail) clauses → IsAttachedTo after clauses (cut level trail)
quiet_attached before after clauses trail level told above attached quiet =
    by_parts (subst (λ t. CutParts attached.seen (cut level t)) (sym attached.older) (cut_parts attached.newer level attached.seen))
  where
    by_parts : CutParts attached.seen (cut level trail) → IsAttachedTo after clauses (cut level trail)
    by_parts (inl rest) = record {
      fresh = attached.fresh;
      seen = cut level trail;
      newer = [];
      attached = told clauses attached.fresh attached.seen rest.0 attached.attached rest.1 (inr (quiet_settled (cut level trail) attached.fresh clauses quiet));
      older = refl;
    }
    by_parts (inr rest) = record {
      fresh = attached.fresh;
      seen = attached.seen;
      newer = rest.0;
      attached = above clauses attached.fresh attached.seen rest.0 attached.attached rest.1;
      older = rest.1;
    }

-- propagation goes over the same clauses after a jump
pub jumped_attached : (before after : RoundsState) (clauses : List NamedClause) (trail : List Entry) (level : ℕ) → TellsCut before after (cut level trail) → TellsAbove before after (cut level trail) →
    IsAttachedTo before clauses trail → AreQuietBelow trail clauses → IsAttachedTo after clauses (cut level trail)
jumped_attached before after clauses trail level told above attached quiet = by_level (let split : (level_now trail ≤ level) ⊎ (level < level_now trail) = grind arith in split)
  where
    by_level : (level_now trail ≤ level) ⊎ (level < level_now trail) → IsAttachedTo after clauses (cut level trail)
    by_level (inl high) =
        above_attached before after clauses (cut level trail) above (subst (λ t. IsAttachedTo before clauses t) (sym (cut_itself level trail high)) attached)
    by_level (inr below) = quiet_attached before after clauses trail level told above attached (quiet level below)

-- a new clause is found under its name
pub found_new : (c : HeldClause) (held : List HeldClause) → lits_at (clauses_of held) c.name ≡ None → lits_at (clauses_of (with_clause c held)) c.name ≡ Some c.lits
found_new c held free =
    lits_at-with c held c.name free ∙ cond-true (same_name c.name c.name) (Some c.lits) (lits_at (clauses_of held) c.name) (same_name-itself c.name)

-- a name that isn't held isn't attached
pub new_to : (r : RoundsState) (name : Name) (clauses : List NamedClause) (trail : List Entry) → IsAttachedTo r clauses trail → lits_at clauses name ≡ None → IsNewTo r name
new_to r name clauses trail attached free = record {
  attached = clauses;
  fresh = attached.fresh;
  seen = attached.seen;
  is = attached.attached;
  new = free;
}

-- what the attaching of a clause under this name tells
abbrev pub TellsHeld : RoundsState → RoundsState → Name → List HeldClause → Type 0
TellsHeld before after name held = (attached : List NamedClause) (fresh : List Name) (seen : List Entry) (lits : List Literal) → IsAttached before attached fresh seen →
    lits_at (clauses_of held) name ≡ Some lits → lits_at attached name ≡ None → IsAttached after (with_named (record { name = name; lits = lits }) attached) (name ∷ fresh) seen

-- propagation goes over the held clauses with one more, after it was attached
pub held_attached : (before after : RoundsState) (held more : List HeldClause) (trail : List Entry) (name : Name) (lits : List Literal) →
    more ≡ with_clause (unused (record { name = name; lits = lits })) held → TellsHeld before after name more → lits_at (clauses_of held) name ≡ None →
    IsAttachedTo before (clauses_of held) trail → IsAttachedTo after (clauses_of more) trail
held_attached before after held more trail name lits is told free attached =
    let c = unused (record { name = name; lits = lits }) in
    record {
      fresh = name ∷ attached.fresh;
      seen = attached.seen;
      newer = attached.newer;
      attached = subst (λ clauses. IsAttached after clauses (name ∷ attached.fresh) attached.seen) (sym (ap clauses_of is ∙ clauses_of-with_clause c held))
          (told (clauses_of held) attached.fresh attached.seen lits attached.attached (ap (λ hs. lits_at (clauses_of hs) name) is ∙ found_new c held free) free);
      older = attached.older;
    }

-- what holds anyway holds of an attempt that succeeds
pub on_ok_always : {T E P : Type 0} (r : Result T E) → P → OnOk r P
on_ok_always (Ok x) holds = holds
on_ok_always (Err e) holds = tt

-- the same of an attempt to attach it
pub attached-on_ok : {T E : Type 0} (r : Result T E) (before after : RoundsState) (held more : List HeldClause) (trail : List Entry) (name : Name) (lits : List Literal) →
    more ≡ with_clause (unused (record { name = name; lits = lits })) held → OnOk r (TellsHeld before after name more) → lits_at (clauses_of held) name ≡ None →
    IsAttachedTo before (clauses_of held) trail → OnOk r (IsAttachedTo after (clauses_of more) trail)
attached-on_ok (Ok x) before after held more trail name lits is told free attached = held_attached before after held more trail name lits is told free attached
attached-on_ok (Err e) before after held more trail name lits is told free attached = tt

-- counting uses leaves what propagation goes over
pub uses_attached : (r : RoundsState) (held : List HeldClause) (trail : List Entry) (hints : List Name) → IsAttachedTo r (clauses_of held) trail → IsAttachedTo r (clauses_of (with_uses hints held)) trail
uses_attached r held trail hints attached = subst (λ clauses. IsAttachedTo r clauses trail) (sym (clauses_of-with_uses hints held)) attached

-- a jump keeps the number of saved values
pub length-saved_after : (level : ℕ) (trail : List Entry) (saved : List (Option Bool)) → length (saved_after level trail saved) ≡ length saved
length-saved_after level [] saved = refl
length-saved_after level (e ∷ older) saved =
    cond_both (nat_le e.level level) saved (saved_after level older (with_saved e saved)) (λ after. length after ≡ length saved) (λ stays. refl)
    (λ leaves. length-saved_after level older (with_saved e saved) ∙ length-set saved (e.lit.variable - 1) (Some e.lit.positive))

-- propagation goes over as many variables as before
pub over_rounds : (n : ℕ) (saved : List (Option Bool)) (before after : RoundsState) (room : ℕ) → AreOver n saved before room → after.variables ≡ before.variables → AreOver n saved after room
over_rounds n saved before after room over same = record { trail = over.trail; propagation = same ∙ over.propagation; analysis = over.analysis; few = over.few }

-- so does the trail after a jump
pub over_jumped : (n level : ℕ) (before trail : TrailState) (rounds after : RoundsState) (room : ℕ) → AreOver n before.saved rounds room → trail ≡ jumped level before →
    after.variables ≡ rounds.variables → AreOver n trail.saved after room
over_jumped n level before trail rounds after room over is same = record {
  trail = ap (λ (t : TrailState). length t.saved) is ∙ (length-saved_after level before.entries before.saved ∙ over.trail);
  propagation = same ∙ over.propagation;
  analysis = over.analysis;
  few = over.few;
}

-- the trail of a search
abbrev pub trail_of : SearchState → TrailState
trail_of s = record { entries = s.state.trail; saved = s.state.saved }

-- the search after a jump
abbrev pub after_jump : SearchState → RoundsState → TrailState → OrderState → SearchState
after_jump s rounds trail order = with_order order (record s { state = record s.state { trail = trail.entries; saved = trail.saved }; rounds = rounds })

pub jumped_joined : (s : SearchState) (rounds : RoundsState) (trail : TrailState) (order : OrderState) (level : ℕ) → IsJoined s → trail ≡ jumped level (trail_of s) →
    rounds.variables ≡ s.rounds.variables → IsAttachedTo rounds (clauses_of s.state.clauses) trail.entries → IsPlacedIn rounds s.added → order.activities ≡ s.state.activities → HasAllFree order trail.entries →
    IsJoined (after_jump s rounds trail order)
jumped_joined s rounds trail order level joined is same attached placed kept present = record {
  over = over_jumped s.frame.variables level (trail_of s) trail s.rounds rounds s.analyser joined.over is same;
  attached = attached;
  placed = placed;
  counts = joined.counts;
  order = other_order s.frame.variables (order_of s) order s.state.trail trail.entries s.state.conflicts s.state.conflicts (omega arith) joined.order kept present;
  pace = joined.pace;
}

-- propagation frees no variable
pub propagated_joined : (s : SearchState) (rounds : RoundsState) (trail : List Entry) → IsJoined s → trail ≡ (propagate s.frame.variables (clauses_of s.state.clauses) s.state.trail).trail →
    rounds.variables ≡ s.rounds.variables → IsAttached rounds (clauses_of s.state.clauses) [] trail → IsPlacedIn rounds s.added → IsJoined (record s { state = record s.state { trail = trail }; rounds = rounds })
propagated_joined s rounds trail joined is same attached placed = record {
  over = over_rounds s.frame.variables s.state.saved s.rounds rounds s.analyser joined.over same;
  attached = seen_attached rounds (clauses_of s.state.clauses) trail attached;
  placed = placed;
  counts = joined.counts;
  order = other_order s.frame.variables (order_of s) (order_of s) s.state.trail trail s.state.conflicts s.state.conflicts (omega arith) joined.order refl
      (subst (HasAllFree (order_of s)) (sym is) (propagated_present (order_of s) s.frame.variables (clauses_of s.state.clauses) s.state.trail joined.order.present));
  pace = joined.pace;
}

-- clauses were dropped
pub dropped_joined : (s : SearchState) (rounds : RoundsState) (left : List HeldClause) (added : List NamedClause) (reductions : ℕ) → IsJoined s → AreFewUses s.state.conflicts left → rounds.variables ≡ s.rounds.variables →
    IsAttachedTo rounds (clauses_of left) s.state.trail → IsPlacedIn rounds added → reductions ≤ s.state.tempo.t →
    IsJoined (record s { state = record s.state { clauses = left; reductions = reductions }; added = added; rounds = rounds })
dropped_joined s rounds left added reductions joined few same attached placed low = record {
  over = over_rounds s.frame.variables s.state.saved s.rounds rounds s.analyser joined.over same;
  attached = attached;
  placed = placed;
  counts = record {
    uses = few;
    lemmas = joined.counts.lemmas;
    period_conflicts = joined.counts.period_conflicts;
    limit = joined.counts.limit;
    few_conflicts = joined.counts.few_conflicts;
    row = joined.counts.row;
  };
  order = joined.order;
  pace = record { restarts = joined.pace.restarts; reductions = low };
}
