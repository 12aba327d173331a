-- Clauses that are added to a core or dropped from it.
use Rattle.std.proofs.Common.{◌≡◌, ℕ, ◌+◌, ◌<◌, Bool, true, false, cond, List, [], ◌∷◌, ◌++◌, append_assoc, All, refl, ap, sym, ◌∙◌, subst, arith}
use Rattle.std.specs.Prelude.{Option, Some, None, option_map, find, IsFalse, ◌||◌}
use Rattle.std.specs.List.{AllByRecursion}
use Rattle.std.proofs.lemmas.Bool.{true≢false}
use Rattle.lit_base.specs.Literal.{Literal, IsWithin}
use Rattle.lit_base.specs.Cnf.{Cnf}
use Rattle.lit_base.specs.Trail.{level_now}
use Rattle.lit_base.specs.Backjump.{cut}
use Rattle.lit_base.specs.Rounds.{NamedClause, original, originals, named_from}
use Rattle.lit_base.specs.Named.{same_name, lits_at}
use Rattle.lit_base.specs.Held.{HeldClause, clause_of, clauses_of, unused, with_clause, is_among, is_original, without_names}
use Rattle.lit_base.specs.Walk.{FindsMore}
use Rattle.lit_base.specs.Fits.{FindsAll, HasReason, IsImpliedBy, FitsClauses}
use Rattle.lit_base.specs.Quiet.{IsQuiet, AreQuietBelow}
use Rattle.lit_base.specs.declared.trail.Entry.{Entry}
use Rattle.lit_base.specs.declared.name.Name.{Name}
use Rattle.lit_base.proofs.HeldClauses.{same_name-itself, same_name-true, lits_at-with, lits_at-without, All-with, all-without, All-without, finds_more-with, found-with, found-without, finds_all-more, fitting-more}
use Rattle.solo_core.proofs.Derived.{found_in_front, found_behind, derived_from_more, others_not_found}
use Rattle.solo_core.specs.declared.lemma.Lemma.{Lemma}
use Rattle.solo_core.specs.State.{CoreFrame, CoreState, lemma_name, lemma_clauses}
use Rattle.solo_core.specs.Turn.{look_of}
use Rattle.solo_core.specs.Changes.{with_added, with_dropped, IsOther, AreNoReasons}
use Rattle.solo_core.proofs.SoundSteps.{carried_sound}
use Rattle.solo_core.specs.Soundness.{NoneFrom, IsSound, AreNamed, HoldsFormula}

-- what finds at least the same misses no more
pub missed_before : (look found : Name → Option (List Literal)) (n : Name) → FindsMore look found (λ name. name) → found n ≡ None → look n ≡ None
missed_before look found n more none = by_look (look n) refl
  where
    by_look : (o : Option (List Literal)) → look n ≡ o → look n ≡ None
    by_look None is = is
    by_look (Some lits) is = absurd (let clash : Some lits ≡ None = sym (more n lits is) ∙ none in cc)

-- a clause that stands among others is found under its name, where none before it has this name
found_here : (c : NamedClause) (later : List NamedClause) → lits_at (c ∷ later) c.name ≡ Some c.lits
found_here c later = ap (λ b. option_map (λ d. d.lits) (cond b (Some c) (find (λ d. same_name d.name c.name) later))) (same_name-itself c.name)

-- a name that isn't the first clause's is looked up among the later ones
found_later : (c : NamedClause) (later : List NamedClause) (n : Name) → same_name c.name n ≡ false → lits_at (c ∷ later) n ≡ lits_at later n
found_later c later n other = ap (λ b. option_map (λ d. d.lits) (cond b (Some c) (find (λ d. same_name d.name n) later))) other

-- what is found among clauses is found with another name's clause between them
found_between : (before : List NamedClause) (c : NamedClause) (after : List NamedClause) (n : Name) (lits : List Literal) → same_name c.name n ≡ false →
    lits_at (before ++ after) n ≡ Some lits → lits_at (before ++ c ∷ after) n ≡ Some lits
found_between before c after n lits other is = by_front (lits_at before n) refl
  where
    by_front : (o : Option (List Literal)) → lits_at before n ≡ o → lits_at (before ++ c ∷ after) n ≡ Some lits
    by_front None none = found_behind before (c ∷ after) n none ∙ (found_later c after n other ∙ (sym (found_behind before after n none) ∙ is))
    by_front (Some front) some = found_in_front before (c ∷ after) n front some ∙ (sym (found_in_front before after n front some) ∙ is)

-- with one clause more, what is held is found among what it was found among, with the clause somewhere between
pub carried_with : (c : HeldClause) (held : List HeldClause) (before after : List NamedClause) → FindsMore (lits_at (clauses_of held)) (lits_at (before ++ after)) (λ name. name) →
    lits_at (clauses_of held) c.name ≡ None → lits_at before c.name ≡ None →
    FindsMore (lits_at (clauses_of (with_clause c held))) (lits_at (before ++ clause_of c ∷ after)) (λ name. name)
carried_with c held before after carried free new n lits is =
    by_name (same_name c.name n) refl (sym (lits_at-with c held n free) ∙ is)
  where
    by_name : (b : Bool) → same_name c.name n ≡ b → cond b (Some c.lits) (lits_at (clauses_of held) n) ≡ Some lits → lits_at (before ++ clause_of c ∷ after) n ≡ Some lits
    by_name true here found =
        ap (λ m. lits_at (before ++ clause_of c ∷ after) m) (sym (same_name-true c.name n here))
        ∙ (found_behind before (clause_of c ∷ after) c.name new ∙ (found_here (clause_of c) after ∙ found))
    by_name false other found = found_between before (clause_of c) after n lits other (carried n lits found)

-- a name that is none of the lemmas', and isn't found in the base, isn't found among both
pub not_found_in_both : (base : List NamedClause) (period core : ℕ) (lemmas : List Lemma) (n : Name) → lits_at base n ≡ None →
    ((place : ℕ) → n ≡ lemma_name period core place → ⊥) → AreNamed period core 0 lemmas → lits_at (base ++ lemma_clauses lemmas) n ≡ None
not_found_in_both base period core lemmas n new other named =
    found_behind base (lemma_clauses lemmas) n new ∙ others_not_found period core lemmas n other named

-- a name that is another's finds nothing in a clause more
pub fresh_with : (base : List NamedClause) (c : NamedClause) (n : Name) → (c.name ≡ n → ⊥) → lits_at base n ≡ None → lits_at (base ++ c ∷ []) n ≡ None
fresh_with base c n other none = found_behind base (c ∷ []) n none ∙ by_name (same_name c.name n) refl
  where
    by_name : (b : Bool) → same_name c.name n ≡ b → lits_at (c ∷ []) n ≡ None
    by_name true here = absurd (other (same_name-true c.name n here))
    by_name false not_here = found_later c [] n not_here

-- no lemma of the period is found among clauses that have none of its names
lemmas_not_found : (known : List NamedClause) (period core place : ℕ) (lemmas : List Lemma) → NoneFrom known period → AreNamed period core place lemmas →
    AllByRecursion (λ lemma. lits_at known lemma.name ≡ None) lemmas
lemmas_not_found known period core place [] fresh named = tt
lemmas_not_found known period core place (lemma ∷ later) fresh named = (
  ap (λ n. lits_at known n) named.0 ∙ fresh (lemma_name period core place) (omega arith),
  lemmas_not_found known period core (place + 1) later fresh named.1,
)

-- a clause of an earlier period leaves no name of this period or a later one
none_from-with : (known : List NamedClause) (period : ℕ) (c : NamedClause) → c.name.period < period → NoneFrom known period → NoneFrom (known ++ c ∷ []) period
none_from-with known period c before fresh name late =
    fresh_with known c name (λ same. let e : c.name.period ≡ name.period = ap (λ n. n.period) same in omega (arith, before, late)) (fresh name late)

-- a name of an earlier period is no name of this one
earlier_name : (name : Name) (period core place : ℕ) → name.period < period → name ≡ lemma_name period core place → ⊥
earlier_name name period core place before same = let e : name.period ≡ period = ap (λ n. n.period) same in omega (arith, before)

-- at level 0 nothing has to be quiet
quiet_at_root : (trail : List Entry) (clauses : List NamedClause) → level_now trail ≡ 0 → AreQuietBelow trail clauses
quiet_at_root trail clauses root level low = absurd (omega (arith, root))

-- a clause of an earlier period that isn't known isn't held
pub added_free : (base : List NamedClause) (frame : CoreFrame) (state : CoreState) (c : NamedClause) → IsSound base frame state → lits_at base c.name ≡ None → c.name.period < state.period →
    lits_at (clauses_of state.clauses) c.name ≡ None
added_free base frame state c sound new before =
    missed_before (look_of state) (lits_at (base ++ lemma_clauses state.lemmas)) c.name sound.derives.carried
    (not_found_in_both base state.period frame.core state.lemmas c.name new (λ place. earlier_name c.name state.period frame.core place before) sound.derives.named)

-- any clause of an earlier period and a new name may be added at level 0
pub added_sound : (base : List NamedClause) (frame : CoreFrame) (state : CoreState) (c : NamedClause) → IsSound base frame state → level_now state.trail ≡ 0 → All (IsWithin frame.variables) c.lits →
    lits_at base c.name ≡ None → c.name.period < state.period → IsSound (base ++ c ∷ []) frame (with_added c state)
added_sound base frame state c sound root within new before =
    let free = added_free base frame state c sound new before in
    let fresh = none_from-with base state.period c before sound.derives.fresh in
    record {
      holds = record {
        found = found-with (unused c) state.clauses free sound.holds.found;
        within = All-with (λ d. All (IsWithin frame.variables) d.lits) (unused c) state.clauses within sound.holds.within;
        fitting = fitting-more (look_of state) (look_of (with_added c state)) state.trail (finds_more-with (unused c) state.clauses free) sound.holds.fitting;
        trail_within = sound.holds.trail_within;
        quiet = quiet_at_root state.trail (clauses_of (with_clause (unused c) state.clauses)) root;
      };
      derives = record {
        carried = subst (λ known. FindsMore (look_of (with_added c state)) (lits_at known) (λ name. name)) (sym (append_assoc base (c ∷ []) (lemma_clauses state.lemmas)))
            (carried_with (unused c) state.clauses base (lemma_clauses state.lemmas) sound.derives.carried free new);
        fresh = fresh;
        named = sound.derives.named;
        derived = derived_from_more base (base ++ c ∷ []) state.lemmas (λ n lits is. found_in_front base (c ∷ []) n lits is)
            (lemmas_not_found (base ++ c ∷ []) state.period frame.core 0 state.lemmas fresh sound.derives.named) sound.derives.derived;
        none_empty = sound.derives.none_empty;
        lemmas_distinct = sound.derives.lemmas_distinct;
        lemmas_within = sound.derives.lemmas_within;
      };
    }

pub added_holds : (cnf : Cnf) (base : List NamedClause) (frame : CoreFrame) (state : CoreState) (c : NamedClause) → IsSound base frame state → lits_at base c.name ≡ None →
    c.name.period < state.period → HoldsFormula cnf state → HoldsFormula cnf (with_added c state)
added_holds cnf base frame state c sound new before holds =
    let free = added_free base frame state c sound new before in
    finds_all-more (look_of state) (look_of (with_added c state)) (originals cnf) (finds_more-with (unused c) state.clauses free) holds

-- a reason that isn't dropped still implies its literal
reason_stays : (names : List Name) (held : List HeldClause) (older : List Entry) (l : Literal) (reason : Option Name) → IsOther names reason → HasReason (lits_at (clauses_of held)) older l reason →
    HasReason (lits_at (clauses_of (without_names names held))) older l reason
reason_stays names held older l None other has = tt
reason_stays names held older l (Some name) other has =
    subst (λ o. IsImpliedBy older l o) (sym (lits_at-without names held name ∙ ap (λ b. cond b None (lits_at (clauses_of held) name)) other)) has

reasons_stay : (names : List Name) (held : List HeldClause) (trail : List Entry) → AreNoReasons names trail → FitsClauses (lits_at (clauses_of held)) trail →
    FitsClauses (lits_at (clauses_of (without_names names held))) trail
reasons_stay names held [] others fits = tt
reasons_stay names held (e ∷ older) others fits =
    (reason_stays names held older e.lit e.reason others.0 fits.0, reasons_stay names held older others.1 fits.1)

-- what is found after some clauses were dropped was found before
finds_less : (names : List Name) (held : List HeldClause) → FindsMore (lits_at (clauses_of (without_names names held))) (lits_at (clauses_of held)) (λ name. name)
finds_less names held n lits is = by_name (is_among names n) (sym (lits_at-without names held n) ∙ is)
  where
    by_name : (b : Bool) → cond b None (lits_at (clauses_of held) n) ≡ Some lits → lits_at (clauses_of held) n ≡ Some lits
    by_name true found = cc
    by_name false found = found

-- any clauses that are no reasons may be dropped
pub dropped_sound : (base : List NamedClause) (frame : CoreFrame) (state : CoreState) (names : List Name) → IsSound base frame state → AreNoReasons names state.trail → IsSound base frame (with_dropped names state)
dropped_sound base frame state names sound others = record {
  holds = record {
    found = found-without names state.clauses sound.holds.found;
    within = All-without (λ d. All (IsWithin frame.variables) d.lits) names state.clauses sound.holds.within;
    fitting = record { distinct = sound.holds.fitting.distinct; fits = reasons_stay names state.clauses state.trail others sound.holds.fitting.fits; leveled = sound.holds.fitting.leveled };
    trail_within = sound.holds.trail_within;
    quiet = λ level low. all-without (λ c. IsQuiet (cut level state.trail) c.lits) names state.clauses (sound.holds.quiet level low);
  };
  derives = carried_sound base frame state.period state.clauses (without_names names state.clauses) state.lemmas sound.derives
      (λ n lits is. sound.derives.carried n lits (finds_less names state.clauses n lits is));
}

-- no original is among names that are none
not_among : (names : List Name) (n : Name) → is_original n ≡ true → AllByRecursion (λ name. IsFalse (is_original name)) names → is_among names n ≡ false
not_among [] n own others = refl
not_among (name ∷ names) n own others = by_name (same_name name n) refl (not_among names n own others.1)
  where
    by_name : (b : Bool) → same_name name n ≡ b → is_among names n ≡ false → (b || is_among names n) ≡ false
    by_name true here rest = absurd (true≢false (sym own ∙ (ap is_original (sym (same_name-true name n here)) ∙ others.0)))
    by_name false other rest = rest

-- originals stay where no original is dropped
originals_stay : (names : List Name) (held : List HeldClause) (index : ℕ) (clauses : List (List Literal)) → AllByRecursion (λ name. IsFalse (is_original name)) names →
    FindsAll (lits_at (clauses_of held)) (named_from index clauses) → FindsAll (lits_at (clauses_of (without_names names held))) (named_from index clauses)
originals_stay names held index [] others found = tt
originals_stay names held index (lits ∷ later) others found = (
  lits_at-without names held (original index) ∙ (ap (λ b. cond b None (lits_at (clauses_of held) (original index))) (not_among names (original index) refl others) ∙ found.0),
  originals_stay names held (index + 1) later others found.1,
)

pub dropped_holds : (cnf : Cnf) (state : CoreState) (names : List Name) → HoldsFormula cnf state → AllByRecursion (λ name. IsFalse (is_original name)) names → HoldsFormula cnf (with_dropped names state)
dropped_holds cnf state names holds others = originals_stay names state.clauses 0 cnf.clauses others holds
