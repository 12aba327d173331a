-- A model of the known clauses makes each derived lemma true.
use Rattle.std.proofs.Common.{◌≡◌, ℕ, ◌+◌, Bool, true, false, List, [], ◌∷◌, ◌++◌, refl, ap, sym, ◌∙◌, subst}
use Rattle.std.specs.Prelude.{Option, Some, None, map, IsTrue}
use Rattle.std.specs.List.{list_all, AllByRecursion}
use Rattle.std.proofs.lemmas.Bool.{and_parts}
use Rattle.lit_base.specs.Literal.{Literal}
use Rattle.lit_base.specs.Cnf.{Cnf}
use Rattle.lit_base.specs.Truth.{is_clause_true}
use Rattle.lit_base.specs.Rounds.{NamedClause, named_from, originals}
use Rattle.lit_base.specs.Named.{lits_at}
use Rattle.lit_base.specs.Judgement.{HasNoModel}
use Rattle.lit_base.specs.declared.name.Name.{Name}
use Rattle.lit_base.proofs.ProofSound.{IsTrueHint, judgement_sound}
use Rattle.solo_core.proofs.SoundLearnt.{found_of_all}
use Rattle.solo_core.proofs.StretchSound.{stretch_derived, stretch_empty}
use Rattle.solo_core.specs.declared.lemma.Lemma.{Lemma}
use Rattle.solo_core.specs.declared.sheet.End.TheVariants.{Unsat}
use Rattle.solo_core.specs.State.{CoreFrame, CoreState, lemma_clause}
use Rattle.solo_core.specs.Stretch.{stretch}
use Rattle.solo_core.specs.Soundness.{AreDerived, AreTrueIn, IsSound}

hint_true : (model : List Bool) (clauses : List NamedClause) (hint : Name) → AreTrueIn model clauses → (o : Option (List Literal)) → lits_at clauses hint ≡ o → IsTrueHint model o
hint_true model clauses hint all None is = tt
hint_true model clauses hint all (Some lits) is = found_of_all (λ ls. IsTrue (is_clause_true model ls)) clauses hint lits all is

hints_true : (model : List Bool) (clauses : List NamedClause) (hints : List Name) → AreTrueIn model clauses → AllByRecursion (IsTrueHint model) (map (lits_at clauses) hints)
hints_true model clauses [] all = tt
hints_true model clauses (hint ∷ hints) all = (hint_true model clauses hint all (lits_at clauses hint) refl, hints_true model clauses hints all)

-- one true clause more
true_with : (model : List Bool) (known : List NamedClause) (c : NamedClause) → AreTrueIn model known → IsTrue (is_clause_true model c.lits) → AreTrueIn model (known ++ c ∷ [])
true_with model [] c all one = (one, tt)
true_with model (first ∷ known) c all one = (all.0, true_with model known c all.1 one)

-- each lemma that is derived from true clauses is true
pub derived_true : (model : List Bool) (known : List NamedClause) (lemmas : List Lemma) → AreTrueIn model known → AreDerived known lemmas →
    AllByRecursion (λ lemma. IsTrue (is_clause_true model lemma.lits)) lemmas
derived_true model known [] all derived = tt
derived_true model known (lemma ∷ later) all derived =
    let one : is_clause_true model lemma.lits ≡ true = judgement_sound model lemma.lits (map (lits_at known) lemma.hints) (hints_true model known lemma.hints all) derived.0.follows in
    (one, derived_true model (known ++ lemma_clause lemma ∷ []) later (true_with model known (lemma_clause lemma) all one) derived.1)

-- a model of a formula makes its clauses true under their names
pub named_true : (model : List Bool) (index : ℕ) (clauses : List (List Literal)) → list_all (is_clause_true model) clauses ≡ true → AreTrueIn model (named_from index clauses)
named_true model index [] all = tt
named_true model index (lits ∷ others) all =
    let parts = and_parts (is_clause_true model lits) (list_all (is_clause_true model) others) all in (parts.0, named_true model (index + 1) others parts.1)

-- no empty lemma is true
pub last_untrue : (model : List Bool) (lemmas earlier : List Lemma) (last : Lemma) → lemmas ≡ earlier ++ last ∷ [] → last.lits ≡ [] →
    AllByRecursion (λ lemma. IsTrue (is_clause_true model lemma.lits)) lemmas → ⊥
last_untrue model lemmas earlier last split empty all =
    at_end earlier (subst (λ ls. AllByRecursion (λ lemma. IsTrue (is_clause_true model lemma.lits)) ls) split all)
  where
    at_end : (es : List Lemma) → AllByRecursion (λ lemma. IsTrue (is_clause_true model lemma.lits)) (es ++ last ∷ []) → ⊥
    at_end [] here = let clash : false ≡ true = ap (λ ls. is_clause_true model ls) (sym empty) ∙ here.0 in cc
    at_end (e ∷ es) here = at_end es here.1

-- a stretch over the clauses of a formula that ends with Unsat says that the formula has no model
pub unsat_refutes : (cnf : Cnf) (frame : CoreFrame) (quota : ℕ) (state : CoreState) → IsSound (originals cnf) frame state → (stretch frame quota state).ended ≡ Unsat → HasNoModel cnf
unsat_refutes cnf frame quota state sound is model satisfied =
    let ends = stretch_empty (originals cnf) frame quota state sound is in
    last_untrue model (stretch frame quota state).state.lemmas ends.earlier ends.last ends.split ends.empty
    (derived_true model (originals cnf) (stretch frame quota state).state.lemmas (named_true model 0 cnf.clauses satisfied) (stretch_derived (originals cnf) frame quota state sound))
