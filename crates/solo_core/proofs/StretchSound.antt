-- What a stretch leaves, in the words of its laws.
use Rattle.std.proofs.Common.{◌≡◌, ℕ, ◌+◌, Bool, true, List, [], ◌∷◌, refl, subst}
use Rattle.std.specs.Prelude.{IsTrue}
use Rattle.std.specs.List.{list_all, AllByRecursion}
use Rattle.std.proofs.lemmas.Bool.{and_from}
use Rattle.lit_base.specs.Literal.{Literal}
use Rattle.lit_base.specs.Cnf.{Cnf}
use Rattle.lit_base.specs.Truth.{is_clause_true, Satisfies}
use Rattle.lit_base.specs.Trail.{model_of}
use Rattle.lit_base.specs.Rounds.{NamedClause, original, named_from}
use Rattle.lit_base.specs.Named.{lits_at}
use Rattle.lit_base.specs.Held.{clauses_of}
use Rattle.lit_base.specs.Fits.{FindsAll}
use Rattle.solo_core.proofs.EndRules.{conflicts_counted}
use Rattle.solo_core.proofs.SoundLearnt.{found_of_all}
use Rattle.solo_core.proofs.SoundStretch.{IsEndSound, stretch_kept}
use Rattle.solo_core.specs.State.{CoreFrame, CoreState}
use Rattle.solo_core.specs.Stretch.{stretch}
use Rattle.solo_core.specs.Soundness.{AreDerived, AreNamed, AreLemmasDistinct, AreLemmasWithin, IsSound, EndsEmpty, IsModelFound, HoldsFormula}
use Rattle.solo_core.specs.declared.sheet.End.{End}
use Rattle.solo_core.specs.declared.sheet.End.TheVariants.{Quota, Sat, Unsat, Spent}

derived_at : (base : List NamedClause) (frame : CoreFrame) (state : CoreState) (e : End) → IsEndSound base frame state e → AreDerived base state.lemmas
derived_at base frame state Quota is = is.derives.derived
derived_at base frame state Spent is = is.derives.derived
derived_at base frame state Sat is = is.0.derives.derived
derived_at base frame state Unsat is = is.derived

named_at : (base : List NamedClause) (frame : CoreFrame) (state : CoreState) (e : End) → IsEndSound base frame state e → AreNamed state.period frame.core 0 state.lemmas
named_at base frame state Quota is = is.derives.named
named_at base frame state Spent is = is.derives.named
named_at base frame state Sat is = is.0.derives.named
named_at base frame state Unsat is = is.named

within_at : (base : List NamedClause) (frame : CoreFrame) (state : CoreState) (e : End) → IsEndSound base frame state e → AreLemmasWithin frame.variables state.lemmas
within_at base frame state Quota is = is.derives.lemmas_within
within_at base frame state Spent is = is.derives.lemmas_within
within_at base frame state Sat is = is.0.derives.lemmas_within
within_at base frame state Unsat is = is.lemmas_within

distinct_at : (base : List NamedClause) (frame : CoreFrame) (state : CoreState) (e : End) → IsEndSound base frame state e → AreLemmasDistinct state.lemmas
distinct_at base frame state Quota is = is.derives.lemmas_distinct
distinct_at base frame state Spent is = is.derives.lemmas_distinct
distinct_at base frame state Sat is = is.0.derives.lemmas_distinct
distinct_at base frame state Unsat is = is.lemmas_distinct

empty_at : (base : List NamedClause) (frame : CoreFrame) (state : CoreState) (e : End) → IsEndSound base frame state e → e ≡ Unsat → EndsEmpty state.lemmas
empty_at base frame state Quota is same = cc
empty_at base frame state Spent is same = cc
empty_at base frame state Sat is same = cc
empty_at base frame state Unsat is same = is.ends

sound_at : (base : List NamedClause) (frame : CoreFrame) (state : CoreState) (e : End) → IsEndSound base frame state e → (e ≡ Unsat → ⊥) → IsSound base frame state
sound_at base frame state Quota is other = is
sound_at base frame state Spent is other = is
sound_at base frame state Sat is other = is.0
sound_at base frame state Unsat is other = absurd (other refl)

model_at_end : (base : List NamedClause) (frame : CoreFrame) (state : CoreState) (e : End) → IsEndSound base frame state e → e ≡ Sat → IsModelFound frame state
model_at_end base frame state Quota is same = cc
model_at_end base frame state Spent is same = cc
model_at_end base frame state Sat is same = is.1
model_at_end base frame state Unsat is same = cc

-- the lemmas of a stretch are derived
pub stretch_derived : (base : List NamedClause) (frame : CoreFrame) (quota : ℕ) (state : CoreState) → IsSound base frame state → AreDerived base (stretch frame quota state).state.lemmas
stretch_derived base frame quota state sound =
    let s = stretch frame quota state in derived_at base frame s.state s.ended (stretch_kept base frame quota state sound).sound

-- they have the names of the period
pub stretch_named : (base : List NamedClause) (frame : CoreFrame) (quota : ℕ) (state : CoreState) → IsSound base frame state → AreNamed state.period frame.core 0 (stretch frame quota state).state.lemmas
stretch_named base frame quota state sound =
    let s = stretch frame quota state in
    subst (λ period. AreNamed period frame.core 0 s.state.lemmas) (conflicts_counted frame quota state).period (named_at base frame s.state s.ended (stretch_kept base frame quota state sound).sound)

-- the literals of each are distinct
pub stretch_distinct : (base : List NamedClause) (frame : CoreFrame) (quota : ℕ) (state : CoreState) → IsSound base frame state → AreLemmasDistinct (stretch frame quota state).state.lemmas
stretch_distinct base frame quota state sound =
    let s = stretch frame quota state in distinct_at base frame s.state s.ended (stretch_kept base frame quota state sound).sound

-- and within the variables
pub stretch_within : (base : List NamedClause) (frame : CoreFrame) (quota : ℕ) (state : CoreState) → IsSound base frame state → AreLemmasWithin frame.variables (stretch frame quota state).state.lemmas
stretch_within base frame quota state sound =
    let s = stretch frame quota state in within_at base frame s.state s.ended (stretch_kept base frame quota state sound).sound

-- at Unsat the last lemma, and no earlier one, is empty
pub stretch_empty : (base : List NamedClause) (frame : CoreFrame) (quota : ℕ) (state : CoreState) → IsSound base frame state → (stretch frame quota state).ended ≡ Unsat → EndsEmpty (stretch frame quota state).state.lemmas
stretch_empty base frame quota state sound is =
    let s = stretch frame quota state in empty_at base frame s.state s.ended (stretch_kept base frame quota state sound).sound is

-- at each other end what is sound is kept
pub stretch_sound : (base : List NamedClause) (frame : CoreFrame) (quota : ℕ) (state : CoreState) → IsSound base frame state → ((stretch frame quota state).ended ≡ Unsat → ⊥) → IsSound base frame (stretch frame quota state).state
stretch_sound base frame quota state sound other =
    let s = stretch frame quota state in sound_at base frame s.state s.ended (stretch_kept base frame quota state sound).sound other

-- at Sat the trail is a model of the held clauses
pub stretch_model : (base : List NamedClause) (frame : CoreFrame) (quota : ℕ) (state : CoreState) → IsSound base frame state → (stretch frame quota state).ended ≡ Sat → IsModelFound frame (stretch frame quota state).state
stretch_model base frame quota state sound is =
    let s = stretch frame quota state in model_at_end base frame s.state s.ended (stretch_kept base frame quota state sound).sound is

-- a formula that is held stays held
pub stretch_holds : (cnf : Cnf) (base : List NamedClause) (frame : CoreFrame) (quota : ℕ) (state : CoreState) → IsSound base frame state → HoldsFormula cnf state → HoldsFormula cnf (stretch frame quota state).state
stretch_holds cnf base frame quota state sound holds = (stretch_kept base frame quota state sound).formulas cnf holds

-- clauses that are found among true ones are true
found_true : (model : List Bool) (held : List NamedClause) (index : ℕ) (clauses : List (List Literal)) → AllByRecursion (λ c. IsTrue (is_clause_true model c.lits)) held →
    FindsAll (lits_at held) (named_from index clauses) → list_all (is_clause_true model) clauses ≡ true
found_true model held index [] all found = refl
found_true model held index (lits ∷ others) all found =
    and_from (is_clause_true model lits) (list_all (is_clause_true model) others)
    (found_of_all (λ ls. IsTrue (is_clause_true model ls)) held (original index) lits all found.0)
    (found_true model held (index + 1) others all found.1)

-- the model satisfies a formula that is held
pub stretch_satisfies : (cnf : Cnf) (base : List NamedClause) (frame : CoreFrame) (quota : ℕ) (state : CoreState) → IsSound base frame state → HoldsFormula cnf state → (stretch frame quota state).ended ≡ Sat →
    Satisfies (model_of frame.variables (stretch frame quota state).state.trail) cnf
stretch_satisfies cnf base frame quota state sound holds is =
    let s = stretch frame quota state in
    found_true (model_of frame.variables s.state.trail) (clauses_of s.state.clauses) 0 cnf.clauses (stretch_model base frame quota state sound is).satisfied (stretch_holds cnf base frame quota state sound holds)
