-- The formula of pigeons and holes says that each pigeon sits in a hole, and no two in one.
use Rattle.std.proofs.Common.{◌≡◌, ℕ, ◌+◌, ◌-◌, ◌<◌, ◌↔◌, Bool, true, List, [], ◌∷◌, refl, sym, subst, ◌∙◌, arith}
use Rattle.std.specs.List.{list_all}
use Rattle.std.proofs.lemmas.Bool.{and_from, and_parts}
use Rattle.std.proofs.lemmas.List.Folds.{list_all-append}
use Rattle.lit_base.specs.Distinct.{distinct}
use Rattle.lit_base.specs.Truth.{Satisfies, is_true_in, is_clause_true}
use Rattle.formula_kinds.specs.Below.{below}
use Rattle.formula_kinds.specs.Hole.{pigeon_literal, some_hole, not_both, pair_clauses, pigeon_clauses, hole_clauses, hole_formula}
use Rattle.formula_kinds.specs.Laws.{Sits, PigeonsSit}
use Rattle.formula_kinds.proofs.BelowLists.{list_all-below, list_all-below_at, list_any-below, list_any-below_at}
use Rattle.formula_kinds.proofs.Truths.{list_any-distinct, not_both_true, not_both_from, one_true, one_from}

-- the clause of a pigeon is true where it sits in one of the holes
somewhere : (n p : ℕ) (model : List Bool) → is_clause_true model (distinct (some_hole n p n)) ≡ true → (h : ℕ) × (h < n) × Sits n model p h
somewhere n p model is =
    let at = list_any-below_at (is_true_in model) (λ h. pigeon_literal n p h true ∷ []) n (sym (list_any-distinct (is_true_in model) (some_hole n p n)) ∙ is) in
    (at.0, at.1, one_true _ at.2)

sits_clause : (n p h : ℕ) (model : List Bool) → h < n → Sits n model p h → is_clause_true model (distinct (some_hole n p n)) ≡ true
sits_clause n p h model hole sits =
    list_any-distinct (is_true_in model) (some_hole n p n) ∙ list_any-below (is_true_in model) (λ h. pigeon_literal n p h true ∷ []) n h hole (one_from _ sits)

-- the clause of two pigeons is true where they don't both sit in the hole
alone : (n h p q : ℕ) (model : List Bool) → list_all (is_clause_true model) (distinct (not_both n h p q) ∷ []) ≡ true → Sits n model p h → Sits n model q h → ⊥
alone n h p q model is =
    let own = (and_parts (is_clause_true model (distinct (not_both n h p q))) true is).0 in
    not_both_true _ _ (sym (list_any-distinct (is_true_in model) (not_both n h p q)) ∙ own)

alone_clause : (n h p q : ℕ) (model : List Bool) → (Sits n model p h → Sits n model q h → ⊥) → list_all (is_clause_true model) (distinct (not_both n h p q) ∷ []) ≡ true
alone_clause n h p q model never =
    and_from _ _ (list_any-distinct (is_true_in model) (not_both n h p q) ∙ not_both_from _ _ never) refl

pigeons_sit : (n : ℕ) (model : List Bool) → Satisfies model (hole_formula n) → PigeonsSit n model
pigeons_sit n model all =
    let t = is_clause_true model in
    let holes = below (λ (h : ℕ). hole_clauses n h (n + 1)) n in
    let parts = and_parts (list_all t (pigeon_clauses n (n + 1))) (list_all t holes) (sym (list_all-append t (pigeon_clauses n (n + 1)) holes) ∙ all) in
    record {
      somewhere = λ p within.
          let own = list_all-below_at t (λ p. distinct (some_hole n p n) ∷ []) (n + 1) p parts.0 (omega arith) in
          somewhere n p model (and_parts (t (distinct (some_hole n p n))) true own).0;
      alone = λ p q h before within hole.
          let of_hole = list_all-below_at t (λ h. hole_clauses n h (n + 1)) n h parts.1 hole in
          let of_pigeon = list_all-below_at t (λ p. pair_clauses n h p (n - p)) (n + 1) p of_hole (omega arith) in
          let of_pair = list_all-below_at t (λ i. distinct (not_both n h p (p + 1 + i)) ∷ []) (n - p) (q - (p + 1)) of_pigeon (omega arith) in
          let other : p + 1 + (q - (p + 1)) ≡ q = omega arith in
          subst (λ (r : ℕ). Sits n model p h → Sits n model r h → ⊥) other (alone n h p (p + 1 + (q - (p + 1))) model of_pair);
    }

satisfied : (n : ℕ) (model : List Bool) → PigeonsSit n model → Satisfies model (hole_formula n)
satisfied n model sit =
    let t = is_clause_true model in
    let holes = below (λ (h : ℕ). hole_clauses n h (n + 1)) n in
    list_all-append t (pigeon_clauses n (n + 1)) holes
    ∙ and_from _ _
    (list_all-below t (λ p. distinct (some_hole n p n) ∷ []) (n + 1)
    (λ p within. let at = sit.somewhere p (omega arith) in and_from _ _ (sits_clause n p at.0 model at.1 at.2) refl))
    (list_all-below t (λ h. hole_clauses n h (n + 1)) n
    (λ h hole. list_all-below t (λ p. pair_clauses n h p (n - p)) (n + 1)
    (λ p within. list_all-below t (λ i. distinct (not_both n h p (p + 1 + i)) ∷ []) (n - p)
    (λ i after. alone_clause n h p (p + 1 + i) model (sit.alone p (p + 1 + i) h (omega arith) (omega arith) hole)))))

pub pigeons : (n : ℕ) (model : List Bool) → Satisfies model (hole_formula n) ↔ PigeonsSit n model
pigeons n model = (pigeons_sit n model, satisfied n model)
