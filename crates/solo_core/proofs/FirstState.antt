-- The first state of a core is sound.
use Rattle.std.proofs.Common.{◌≡◌, ℕ, ◌+◌, List, [], ◌∷◌, append-nil, refl, ap, sym, ◌∙◌, subst, arith, All}
use Rattle.std.specs.Prelude.{Some, None, map}
use Rattle.std.proofs.lemmas.Bool.{cond-false, false_from_ne_true}
use Rattle.lit_base.specs.Literal.{Literal, IsWithin}
use Rattle.lit_base.specs.Cnf.{Cnf, IsFormula}
use Rattle.lit_base.specs.Rounds.{NamedClause, original, named_from, originals}
use Rattle.lit_base.specs.Named.{same_name, lits_at}
use Rattle.lit_base.specs.Held.{clauses_of, unused}
use Rattle.lit_base.specs.Fits.{FindsAll}
use Rattle.lit_base.specs.declared.name.Name.{Name}
use Rattle.lit_base.proofs.FixedPoint.{named_within}
use Rattle.lit_base.proofs.OriginalsFound.{originals_found}
use Rattle.solo_core.specs.First.{frame_of, first_state}
use Rattle.solo_core.specs.declared.sheet.Settings.{Settings}
use Rattle.solo_core.specs.Soundness.{IsSound, HoldsFormula}
use Rattle.lit_base.proofs.HeldClauses.{same_name-true, lits_at-cons}

-- clauses without uses are the clauses that they were
clauses_of-unused : (clauses : List NamedClause) → clauses_of (map unused clauses) ≡ clauses
clauses_of-unused [] = refl
clauses_of-unused (c ∷ others) = ap (λ later. c ∷ later) (clauses_of-unused others)

-- no original has a name of another period than 0
no_original : (index : ℕ) (clauses : List (List Literal)) (n : Name) → (0 ≡ n.period → ⊥) → lits_at (named_from index clauses) n ≡ None
no_original index [] n later = refl
no_original index (lits ∷ others) n later =
    lits_at-cons (record { name = original index; lits = lits }) (named_from (index + 1) others) n
    ∙ (cond-false (same_name (original index) n) (Some lits) (lits_at (named_from (index + 1) others) n)
    (false_from_ne_true (same_name (original index) n) (λ same. later (ap (λ m. m.period) (same_name-true (original index) n same))))
    ∙ no_original (index + 1) others n later)

-- at first a core is sound
pub first_sound : (cnf : Cnf) (settings : Settings) (core : ℕ) → IsFormula cnf → IsSound (originals cnf) (frame_of cnf settings core) (first_state cnf settings core)
first_sound cnf settings core formula =
    let same : originals cnf ≡ clauses_of (map unused (originals cnf)) = sym (clauses_of-unused (originals cnf)) in
    record {
      holds = record {
        found = subst (λ clauses. FindsAll (lits_at clauses) clauses) same (originals_found cnf);
        within = subst (λ clauses. All (λ c. All (IsWithin cnf.variables) c.lits) clauses) same (named_within cnf.variables 0 cnf.clauses formula.within);
        fitting = record { distinct = tt; fits = tt; leveled = tt };
        trail_within = tt;
        quiet = λ level below. absurd (omega arith);
      };
      derives = record {
        carried = λ name lits is. ap (λ clauses. lits_at clauses name) (append-nil (originals cnf) ∙ same) ∙ is;
        fresh = λ name late. no_original 0 cnf.clauses name (λ same. omega (arith, late, same));
        named = tt;
        derived = tt;
        none_empty = tt;
        lemmas_distinct = tt;
        lemmas_within = tt;
      };
    }

-- each clause of the formula is held at first
pub first_holds : (cnf : Cnf) (settings : Settings) (core : ℕ) → HoldsFormula cnf (first_state cnf settings core)
first_holds cnf settings core = subst (λ clauses. FindsAll (lits_at clauses) (originals cnf)) (sym (clauses_of-unused (originals cnf))) (originals_found cnf)
