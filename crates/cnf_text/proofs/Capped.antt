-- A value above a hundred million is judged as a hundred million.
use Rattle.std.proofs.Common.{◌≡◌, ℕ, ◌≤◌, ◌<◌, ◌==◌, Bool, true, false, leb, min, refl, sym, ap, arith, length, List, [], ◌∷◌}
use Rattle.std.proofs.lemmas.Bool.{lt-ltb, ne_eqb, leb-true, leb-false}
use Rattle.cnf_text.specs.declared.class.Class.{Class}
use Rattle.cnf_text.specs.declared.class.Class.TheVariants.{Magic, Format, Number, Other}
use Rattle.cnf_text.specs.declared.stage.Stage.{Stage}
use Rattle.cnf_text.specs.declared.stage.Stage.TheVariants.{Start, AfterMagic, AfterFormat, AfterVariables, AfterClauses, Body}
use Rattle.cnf_text.specs.Progress.{ProgressState}
use Rattle.cnf_text.specs.Class.{capped, class_of}
use Rattle.cnf_text.specs.Judge.{judge_at, judge_token, judge_number}

-- two values above every limit are judged alike
high_number : (positive : Bool) (p : ProgressState) (line v w : ℕ) → p.formula.variables ≤ 1000000 → 100000000 ≤ v → 100000000 ≤ w
    → judge_number p positive v line ≡ judge_number p positive w line
high_number true p line v w few high higher =
    rw (ne_eqb v 0 (λ e. omega arith), lt-ltb p.formula.variables v (omega arith), ne_eqb w 0 (λ e. omega arith), lt-ltb p.formula.variables w (omega arith)) refl
high_number false p line v w few high higher =
    rw (ne_eqb v 0 (λ e. omega arith), lt-ltb p.formula.variables v (omega arith), ne_eqb w 0 (λ e. omega arith), lt-ltb p.formula.variables w (omega arith)) refl

high_judged : (stage : Stage) (positive : Bool) (p : ProgressState) (line v w : ℕ) → p.formula.variables ≤ 1000000 → 100000000 ≤ v → 100000000 ≤ w
    → judge_at stage p (Number positive v) line ≡ judge_at stage p (Number positive w) line
high_judged Start positive p line v w few high higher = refl
high_judged AfterMagic positive p line v w few high higher = refl
high_judged AfterFormat true p line v w few high higher = rw (lt-ltb 1000000 v (omega arith), lt-ltb 1000000 w (omega arith)) refl
high_judged AfterFormat false p line v w few high higher = refl
high_judged AfterVariables true p line v w few high higher = rw (lt-ltb 4000000 v (omega arith), lt-ltb 4000000 w (omega arith)) refl
high_judged AfterVariables false p line v w few high higher = refl
high_judged AfterClauses positive p line v w few high higher = refl
high_judged Body positive p line v w few high higher = high_number positive p line v w few high higher

number_judged : (stage : Stage) (positive : Bool) (p : ProgressState) (line v : ℕ) → p.formula.variables ≤ 1000000
    → judge_at stage p (Number positive (min v 100000000)) line ≡ judge_at stage p (Number positive v) line
number_judged stage positive p line v few = by (leb v 100000000) refl
  where
    by : (t : Bool) → leb v 100000000 ≡ t → judge_at stage p (Number positive (min v 100000000)) line ≡ judge_at stage p (Number positive v) line
    by true low =
        let small : v ≤ 100000000 = leb-true v 100000000 low in
        let same : min v 100000000 ≡ v = omega arith in
        ap (λ x. judge_at stage p (Number positive x) line) same
    by false high =
        let large : 100000000 < v = leb-false v 100000000 high in
        high_judged stage positive p line (min v 100000000) v few (omega arith) (omega arith)

pub capped_judged : (stage : Stage) (class : Class) (p : ProgressState) (line : ℕ) → p.formula.variables ≤ 1000000
    → judge_at stage p (capped class) line ≡ judge_at stage p class line
capped_judged stage Magic p line few = refl
capped_judged stage Format p line few = refl
capped_judged stage (Number positive value) p line few = number_judged stage positive p line value few
capped_judged stage Other p line few = refl

-- a token that isn't empty is judged by its class
pub token_judged : (p : ProgressState) (token : List ℕ) (line : ℕ) → p.formula.variables ≤ 1000000 → (length token == 0) ≡ false
    → judge_token p token line ≡ judge_at p.stage p (capped (class_of token)) line
token_judged p [] line few some = cc
token_judged p (b ∷ bs) line few some = sym (capped_judged p.stage (class_of (b ∷ bs)) p line few)
