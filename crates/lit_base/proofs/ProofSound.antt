-- A proof that checks leaves its formula no model.
use Rattle.std.proofs.Common.{◌≡◌, ℕ, suc, ◌==◌, ◌+◌, Bool, true, false, cond, not, ◌&&◌, ◌||◌, List, [], ◌∷◌, length, refl, ap, sym, ◌∙◌, subst, inl, inr, arith}
use Rattle.std.specs.Prelude.{map, filter, fold, find, nat_le, Option, Some, None, option_map, is_some, Result, Ok, Err, is_ok, ⊤}
use Rattle.std.specs.Bool.{beq}
use Rattle.std.specs.List.{list_any, list_all, AllByRecursion}
use Rattle.std.proofs.lemmas.Bool.{and_parts, and_from, or_cases, or_parts, cond_both, eqb-true, true_from_ne_false, true≢false}
use Rattle.std.proofs.lemmas.Option.{same_Some}
use Rattle.lit_base.specs.Literal.{Literal, negation, same}
use Rattle.lit_base.specs.Cnf.{Cnf}
use Rattle.lit_base.specs.Truth.{value_in, is_true_in, is_clause_true}
use Rattle.lit_base.specs.Walk.{holds, fails, status_of, walk, walk_at, is_tautology, judgement_of}
use Rattle.lit_base.specs.Judgement.{LiveClause, Live, numbered_from, first_live, live_lits, without_id, added, deleted, judged_step, judged_line, judge, adds_empty, up_to_empty, add_empty, Checks, HasNoModel}
use Rattle.lit_base.specs.declared.proof.ClauseStatus.{ClauseStatus}
use Rattle.lit_base.specs.declared.proof.ClauseStatus.TheVariants.{Satisfied, Falsified, Implies, Unresolved}
use Rattle.lit_base.specs.declared.proof.Judged.{Judged}
use Rattle.lit_base.specs.declared.proof.Judged.TheVariants as judged
use Rattle.lit_base.specs.declared.proof.Line.{Line}
use Rattle.lit_base.specs.declared.proof.LineStep.{LineStep}
use Rattle.lit_base.specs.declared.proof.LineStep.TheVariants.{Add, Delete}
use Rattle.lit_base.specs.declared.proof.ProofFault.{ProofFault}
use Rattle.lit_base.specs.declared.proof.ProofFault.TheVariants as fault
use Rattle.lit_base.proofs.DistinctLits.{same-true}
use Rattle.lit_base.proofs.Known.{all_any, any_at, Tells, status_tells}

-- each literal that is held true is true in the model
abbrev pub AreTrue : List Bool → List Literal → Type 0
AreTrue model known = (l : Literal) → holds known l ≡ true → is_true_in model l ≡ true

both_signs : (value sign : Bool) → beq value sign ≡ true → beq value (not sign) ≡ true → ⊥
both_signs true true h k = cc
both_signs true false h k = cc
both_signs false true h k = cc
both_signs false false h k = cc

either_sign : (value sign : Bool) → beq value sign ≡ false → beq value (not sign) ≡ true
either_sign true true h = cc
either_sign true false h = refl
either_sign false true h = refl
either_sign false false h = cc

fails_in : (model : List Bool) (known : List Literal) (l : Literal) → AreTrue model known → fails known l ≡ true → is_true_in model l ≡ true → ⊥
fails_in model known l are false_one true_one = both_signs (value_in model l.variable) l.positive true_one (are (negation l) false_one)

-- a clause that is true has a literal that doesn't fail
falsified_in : (model : List Bool) (known lits : List Literal) → AreTrue model known → is_clause_true model lits ≡ true → list_all (fails known) lits ≡ true → ⊥
falsified_in model known lits are is all =
    let found = all_any (fails known) (is_true_in model) lits all is in fails_in model known found.0 are found.1 found.2

-- the one literal of a true clause that doesn't fail is true
implied_in : (model : List Bool) (known lits : List Literal) (l : Literal) → AreTrue model known → is_clause_true model lits ≡ true →
    list_all (λ m. fails known m || same m l) lits ≡ true → is_true_in model l ≡ true
implied_in model known lits l are is all =
    let found = all_any (λ m. fails known m || same m l) (is_true_in model) lits all is in
    elim (or_cases (fails known found.0) (same found.0 l) found.1) [
      | inl failing ↦ absurd (fails_in model known found.0 are failing found.2)
      | inr here ↦ subst (λ m. is_true_in model m ≡ true) (same-true found.0 l here) found.2
    ]

with_one_true : (model : List Bool) (known : List Literal) (l : Literal) → AreTrue model known → is_true_in model l ≡ true → AreTrue model (l ∷ known)
with_one_true model known l are is m held = elim (or_cases (same l m) (holds known m) held) [
  | inl here ↦ subst (λ k. is_true_in model k ≡ true) (same-true l m here) is
  | inr earlier ↦ are m earlier
]

-- the clause of a hint that was found is true
abbrev pub IsTrueHint : List Bool → Option (List Literal) → Type 0
IsTrueHint model None = ⊤
IsTrueHint model (Some lits) = is_clause_true model lits ≡ true

walk_at_sound : (model : List Bool) (place : ℕ) (known lits : List Literal) (later : List Literal → Judged) (status : ClauseStatus) → Tells known lits status →
    ((after : List Literal) → AreTrue model after → later after ≡ judged.Follows → ⊥) →
    AreTrue model known → is_clause_true model lits ≡ true → walk_at place known status later ≡ judged.Follows → ⊥
walk_at_sound model place known lits later Satisfied tells rest are is follows = rest known are follows
walk_at_sound model place known lits later Falsified tells rest are is follows = falsified_in model known lits are is tells
walk_at_sound model place known lits later (Implies l) tells rest are is follows =
    rest (l ∷ known) (with_one_true model known l are (implied_in model known lits l are is tells.1)) follows
walk_at_sound model place known lits later Unresolved tells rest are is follows = cc

-- a walk that follows begins with literals that no model of the hints makes all true
pub walk_sound : (model : List Bool) (hints : List (Option (List Literal))) (place : ℕ) (known : List Literal) → AllByRecursion (IsTrueHint model) hints →
    AreTrue model known → walk place known hints ≡ judged.Follows → ⊥
walk_sound model [] place known hold are follows = cc
walk_sound model (None ∷ hints) place known hold are follows = cc
walk_sound model (Some lits ∷ hints) place known hold are follows =
    walk_at_sound model place known lits (λ after. walk (place + 1) after hints) (status_of known lits) (status_tells known lits)
    (λ after. walk_sound model hints (place + 1) after hold.1) are hold.0 follows

negations_true : (model : List Bool) (lemma : List Literal) → is_clause_true model lemma ≡ false → AreTrue model (map negation lemma)
negations_true model [] is m held = cc
negations_true model (l ∷ ls) is m held =
    let parts = or_parts_of (is_true_in model l) (is_clause_true model ls) is in
    elim (or_cases (same (negation l) m) (holds (map negation ls) m) held) [
      | inl here ↦ subst (λ k. is_true_in model k ≡ true) (same-true (negation l) m here) (either_sign (value_in model l.variable) l.positive parts.0)
      | inr later ↦ negations_true model ls parts.1 m later
    ]
  where
    or_parts_of : (a b : Bool) → (a || b) ≡ false → (a ≡ false) × (b ≡ false)
    or_parts_of true b h = cc
    or_parts_of false b h = (refl, h)

model_of_signs : (model : List Bool) (l m : Literal) → same m (negation l) ≡ true → is_true_in model l ≡ false → is_true_in model m ≡ true
model_of_signs model l m is untrue =
    subst (λ k. is_true_in model k ≡ true) (sym (same-true m (negation l) is)) (either_sign (value_in model l.variable) l.positive untrue)

any_false_at : (p : Literal → Bool) (lits : List Literal) (l : Literal) → list_any p lits ≡ false → list_any (λ m. same m l) lits ≡ true → p l ≡ false
any_false_at p [] l none there = cc
any_false_at p (x ∷ xs) l none there =
    let parts = or_parts (p x) (list_any p xs) none in
    elim (or_cases (same x l) (list_any (λ m. same m l) xs) there) [
      | inl here ↦ subst (λ m. p m ≡ false) (same-true x l here) parts.0
      | inr later ↦ any_false_at p xs l parts.1 later
    ]

-- a clause with a literal and its negation is true
tautology_true : (model : List Bool) (lemma : List Literal) → is_tautology lemma ≡ true → is_clause_true model lemma ≡ false → ⊥
tautology_true model lemma is untrue =
    let clash = any_at (fails lemma) lemma is in
    let first : is_true_in model clash.0 ≡ false = any_false_at (is_true_in model) lemma clash.0 untrue clash.2 in
    let second : is_true_in model (negation clash.0) ≡ false = any_false_at (is_true_in model) lemma (negation clash.0) untrue clash.1 in
    true≢false (sym (either_sign (value_in model clash.0.variable) clash.0.positive first) ∙ second)

-- a lemma that follows from true clauses is true
pub judgement_sound : (model : List Bool) (lemma : List Literal) (hints : List (Option (List Literal))) → AllByRecursion (IsTrueHint model) hints →
    judgement_of lemma hints ≡ judged.Follows → is_clause_true model lemma ≡ true
judgement_sound model lemma hints hold follows = true_from_ne_false (is_clause_true model lemma) (λ untrue.
    refuted_by model lemma hints hold untrue (is_tautology lemma) refl follows)
  where
    refuted_by : (model : List Bool) (lemma : List Literal) (hints : List (Option (List Literal))) → AllByRecursion (IsTrueHint model) hints →
        is_clause_true model lemma ≡ false → (b : Bool) → is_tautology lemma ≡ b → cond b judged.Follows (walk 1 (map negation lemma) hints) ≡ judged.Follows → ⊥
    refuted_by model lemma hints hold untrue true is follows = tautology_true model lemma is untrue
    refuted_by model lemma hints hold untrue false is follows = walk_sound model hints 1 (map negation lemma) hold (negations_true model lemma untrue) follows

-- whether each live clause is true in the model
abbrev are_all_true : List Bool → List LiveClause → Bool
are_all_true model clauses = list_all (λ c. is_clause_true model c.lits) clauses

originals_true : (model : List Bool) (id : ℕ) (clauses : List (List Literal)) → are_all_true model (numbered_from id clauses) ≡ list_all (is_clause_true model) clauses
originals_true model id [] = refl
originals_true model id (lits ∷ others) = ap (λ b. is_clause_true model lits && b) (originals_true model (id + 1) others)

found_passes : {X : Type 0} (p q : X → Bool) (xs : List X) (x : X) → list_all p xs ≡ true → find q xs ≡ Some x → p x ≡ true
found_passes p q [] x all some = cc
found_passes p q (y ∷ ys) x all some =
    let parts = and_parts (p y) (list_all p ys) all in
    by_first p q y ys x (q y) parts.0 some (λ later. found_passes p q ys x parts.1 later)
  where
    by_first : {X : Type 0} (p q : X → Bool) (y : X) (ys : List X) (x : X) (b : Bool) → p y ≡ true → cond b (Some y) (find q ys) ≡ Some x → (find q ys ≡ Some x → p x ≡ true) → p x ≡ true
    by_first p q y ys x true first some rest = subst (λ z. p z ≡ true) (same_Some y x some) first
    by_first p q y ys x false first some rest = rest some

all_filtered : {X : Type 0} (p q : X → Bool) (xs : List X) → list_all p xs ≡ true → list_all p (filter q xs) ≡ true
all_filtered p q [] all = refl
all_filtered p q (x ∷ xs) all =
    let parts = and_parts (p x) (list_all p xs) all in
    let later = all_filtered p q xs parts.1 in
    cond_both (q x) (x ∷ filter q xs) (filter q xs) (λ ys. list_all p ys ≡ true) (λ kept. and_from (p x) (list_all p (filter q xs)) parts.0 later) (λ dropped. later)

true_hint_by : (model : List Bool) (clauses : List LiveClause) (o : Option LiveClause) → are_all_true model clauses ≡ true →
    ((c : LiveClause) → o ≡ Some c → is_clause_true model c.lits ≡ true) → IsTrueHint model (option_map (λ c. c.lits) o)
true_hint_by model clauses None all found = tt
true_hint_by model clauses (Some c) all found = found c refl

-- the live clauses that hints name are true, where all live clauses are
true_hints : (model : List Bool) (clauses : List LiveClause) (hints : List ℕ) → are_all_true model clauses ≡ true → AllByRecursion (IsTrueHint model) (map (live_lits clauses) hints)
true_hints model clauses [] all = tt
true_hints model clauses (id ∷ ids) all =
    (true_hint_by model clauses (find (λ c. c.id == id) clauses) all (λ c some. found_passes (λ c. is_clause_true model c.lits) (λ c. c.id == id) clauses c all some), true_hints model clauses ids all)

-- the live clauses are true, where no fault was met
abbrev AreLiveTrue : List Bool → Result Live ProofFault → Type 0
AreLiveTrue model (Ok live) = are_all_true model live.clauses ≡ true
AreLiveTrue model (Err found) = ⊤

added_true : (model : List Bool) (line id : ℕ) (lits : List Literal) (live : Live) (answer : Judged) → are_all_true model live.clauses ≡ true →
    (answer ≡ judged.Follows → is_clause_true model lits ≡ true) → AreLiveTrue model (added line id lits live answer)
added_true model line id lits live judged.Follows all lemma = and_from (is_clause_true model lits) (are_all_true model live.clauses) (lemma refl) all
added_true model line id lits live (judged.UnknownHint place) all lemma = tt
added_true model line id lits live (judged.NotUnit place) all lemma = tt
added_true model line id lits live judged.NotFalsified all lemma = tt

deleted_true : (model : List Bool) (ids : List ℕ) (line place : ℕ) (live : Live) → are_all_true model live.clauses ≡ true → AreLiveTrue model (deleted line place ids live)
deleted_true model [] line place live all = all
deleted_true model (id ∷ ids) line place live all =
    cond_both (is_some (live_lits live.clauses id)) (deleted line (place + 1) ids (without_id id live)) (Err (fault.UnknownDelete line place)) (AreLiveTrue model)
    (λ live_one. deleted_true model ids line (place + 1) (without_id id live) (all_filtered (λ c. is_clause_true model c.lits) (λ c. not (c.id == id)) live.clauses all))
    (λ unknown. tt)

step_true : (model : List Bool) (line : ℕ) (step : LineStep) (live : Live) → are_all_true model live.clauses ≡ true → AreLiveTrue model (judged_step line step live)
step_true model line (Add id lits hints) live all =
    cond_both (nat_le id live.last) (Err (fault.IdNotRising line)) (added line id lits live (judgement_of lits (map (live_lits live.clauses) hints))) (AreLiveTrue model)
    (λ low. tt)
    (λ rises. added_true model line id lits live (judgement_of lits (map (live_lits live.clauses) hints)) all
    (λ follows. judgement_sound model lits (map (live_lits live.clauses) hints) (true_hints model live.clauses hints all) follows))
step_true model line (Delete id ids) live all = deleted_true model ids line 1 live all

line_true : (model : List Bool) (before : Result Live ProofFault) (line : Line) → AreLiveTrue model before → AreLiveTrue model (judged_line before line)
line_true model (Ok live) line all = step_true model line.line line.step live all
line_true model (Err found) line all = tt

-- no model makes the empty lemma true
empty_added : (model : List Bool) (line id : ℕ) (lits : List Literal) (live : Live) (answer : Judged) → (length lits == 0) ≡ true →
    AreLiveTrue model (added line id lits live answer) → is_ok (added line id lits live answer) ≡ true → ⊥
empty_added model line id [] live judged.Follows empty all sound = cc
empty_added model line id (l ∷ ls) live judged.Follows empty all sound = let none : suc (length ls) ≡ 0 = eqb-true (length (l ∷ ls)) 0 empty in omega arith
empty_added model line id lits live (judged.UnknownHint place) empty all sound = cc
empty_added model line id lits live (judged.NotUnit place) empty all sound = cc
empty_added model line id lits live judged.NotFalsified empty all sound = cc

empty_step : (model : List Bool) (line : ℕ) (step : LineStep) (live : Live) → adds_empty step ≡ true →
    AreLiveTrue model (judged_step line step live) → is_ok (judged_step line step live) ≡ true → ⊥
empty_step model line (Delete id ids) live empty all sound = cc
empty_step model line (Add id lits hints) live empty all sound =
    by_id (nat_le id live.last) all sound
  where
    by_id : (b : Bool) → AreLiveTrue model (cond b (Err (fault.IdNotRising line)) (added line id lits live (judgement_of lits (map (live_lits live.clauses) hints)))) →
        is_ok (cond b (Err (fault.IdNotRising line)) (added line id lits live (judgement_of lits (map (live_lits live.clauses) hints)))) ≡ true → ⊥
    by_id true all sound = cc
    by_id false all sound = empty_added model line id lits live (judgement_of lits (map (live_lits live.clauses) hints)) empty all sound

empty_line : (model : List Bool) (before : Result Live ProofFault) (line : Line) → adds_empty line.step ≡ true →
    AreLiveTrue model (judged_line before line) → is_ok (judged_line before line) ≡ true → ⊥
empty_line model (Ok live) line empty all sound = empty_step model line.line line.step live empty all sound
empty_line model (Err found) line empty all sound = cc

lines_refute : (model : List Bool) (lines : List Line) (before : Result Live ProofFault) → AreLiveTrue model before → add_empty lines ≡ true →
    is_ok (fold judged_line before (up_to_empty lines)) ≡ true → ⊥
lines_refute model [] before all some sound = cc
lines_refute model (line ∷ later) before all some sound =
    by_line model line later before all (adds_empty line.step) refl some sound (λ rest. lines_refute model later (judged_line before line) (line_true model before line all) rest)
  where
    by_line : (model : List Bool) (line : Line) (later : List Line) (before : Result Live ProofFault) → AreLiveTrue model before → (b : Bool) → adds_empty line.step ≡ b →
        (b || add_empty later) ≡ true →
        is_ok (fold judged_line (judged_line before line) (cond b [] (up_to_empty later))) ≡ true →
        (add_empty later ≡ true → is_ok (fold judged_line (judged_line before line) (up_to_empty later)) ≡ true → ⊥) → ⊥
    by_line model line later before all true is some sound rest = empty_line model before line is (line_true model before line all) sound
    by_line model line later before all false is some sound rest = rest some sound

-- a formula with a proof that checks has no model
pub checked_refutes : (cnf : Cnf) (lines : List Line) → Checks cnf lines → HasNoModel cnf
checked_refutes cnf lines checked model satisfied =
    let parts = and_parts (add_empty lines) (is_ok (judge cnf (up_to_empty lines))) checked in
    lines_refute model lines (Ok (first_live cnf)) (originals_true model 1 cnf.clauses ∙ satisfied) parts.0 parts.1
