-- The class of a token, one byte after the other.
use Rattle.std.proofs.Common.{◌≡◌, ℕ, ◌+◌, ◌-◌, ◌*◌, ◌≤◌, ◌<◌, ◌==◌, Bool, true, false, ◌&&◌, cond, leb, min, List, [], ◌∷◌, ◌++◌, codes, refl, sym, ap, ◌∙◌, subst, arith}
use Rattle.std.specs.Prelude.{nat_eq}
use Rattle.std.specs.List.{list_all}
use Rattle.std.specs.Char.{is_ascii_digit}
use Rattle.std.specs.Cmp.Lexicographic.{pointwise}
use Rattle.std.proofs.lemmas.Bool.{lt-ltb, le-leb, ne_eqb, eqb-true, leb-true, leb-false}
use Rattle.std.proofs.lemmas.List.Folds.{list_all-append}
use Rattle.lit_base.specs.Numeral.{value_from}
use Rattle.lit_base.proofs.Numerals.{value_from-append}
use Rattle.lrat_text.specs.declared.token.Token.{Token}
use Rattle.lrat_text.specs.declared.token.Token.TheVariants.{Empty, Deletion, Minus, Number, Other}
use Rattle.lrat_text.specs.declared.stage.Stage.{Stage}
use Rattle.lrat_text.specs.declared.stage.Stage.TheVariants.{Start, AfterId, Literals, Hints, Ids, Added, Deleted}
use Rattle.lrat_text.specs.declared.progress.Progress.{Progress}
use Rattle.lrat_text.specs.Class.{class_of, digits_class, minus_class, capped, with_digit, with_byte_pushed}
use Rattle.lrat_text.specs.Judge.{judge_number, judge_class, judge_token}

-- a number by whether its bytes are digits
abbrev number_by : Bool → Bool → ℕ → Token
number_by t positive value = cond t (Number positive value) Other

-- digits and one byte more
digits_pushed : (positive : Bool) (ds : List ℕ) (b : ℕ) → capped (digits_class positive (ds ++ b ∷ [])) ≡ with_byte_pushed (capped (digits_class positive ds)) b
digits_pushed positive ds b =
    ap (λ t. capped (number_by t positive (value_from 0 (ds ++ b ∷ [])))) (list_all-append is_ascii_digit ds (b ∷ []))
    ∙ ap (λ v. capped (number_by (list_all is_ascii_digit ds && (is_ascii_digit b && true)) positive v)) (value_from-append 0 ds (b ∷ []))
    ∙ by (list_all is_ascii_digit ds) (is_ascii_digit b) ∙ sym (pushed (list_all is_ascii_digit ds))
  where
    -- the same by whether the bytes and one more are digits
    both : Bool → Bool → Token
    both true u = cond u (Number positive (min (min (value_from 0 ds) 9223372036854775808 * 10 + (b - 48)) 9223372036854775808)) Other
    both false u = Other

    pushed : (t : Bool) → with_byte_pushed (capped (number_by t positive (value_from 0 ds))) b ≡ both t (is_ascii_digit b)
    pushed true = refl
    pushed false = refl

    by : (t u : Bool) → capped (number_by (t && (u && true)) positive (value_from 0 ds * 10 + (b - 48))) ≡ both t u
    by true true =
        ap (λ v. Number positive v)
        (let e : min (value_from 0 ds * 10 + (b - 48)) 9223372036854775808 ≡ min (min (value_from 0 ds) 9223372036854775808 * 10 + (b - 48)) 9223372036854775808 = omega arith in e)
    by true false = refl
    by false u = refl

-- a token by whether its first byte is a `-`
abbrev signed_by : Bool → Token → Token → Token
signed_by t behind all = cond t behind all

-- no longer token is `d`
two_bytes : (c : ℕ) (rest : List ℕ) (b : ℕ) → pointwise nat_eq (c ∷ (rest ++ b ∷ [])) (codes "d") ≡ false
two_bytes c [] b = by (c == 100)
  where
    by : (t : Bool) → (t && false) ≡ false
    by true = refl
    by false = refl
two_bytes c (e ∷ es) b = by (c == 100)
  where
    by : (t : Bool) → (t && false) ≡ false
    by true = refl
    by false = refl

-- the class of two bytes or more
long_class : (c : ℕ) (rest : List ℕ) (b : ℕ) → class_of (c ∷ (rest ++ b ∷ [])) ≡ cond (c == 45) (minus_class (rest ++ b ∷ [])) (digits_class true (c ∷ (rest ++ b ∷ [])))
long_class c rest b =
    ap (λ t. cond t Deletion (cond (c == 45) (minus_class (rest ++ b ∷ [])) (digits_class true (c ∷ (rest ++ b ∷ []))))) (two_bytes c rest b)

-- what stands behind a `-`, and one byte more
minus_pushed : (ds : List ℕ) (b : ℕ) → capped (minus_class (ds ++ b ∷ [])) ≡ with_byte_pushed (capped (minus_class ds)) b
minus_pushed [] b = digits_pushed false [] b
minus_pushed (d ∷ ds) b = digits_pushed false (d ∷ ds) b

-- one byte more
pub class_pushed : (text : List ℕ) (b : ℕ) → capped (class_of (text ++ b ∷ [])) ≡ with_byte_pushed (capped (class_of text)) b
class_pushed [] b = by (b == 100) (b == 45)
  where
    by : (t u : Bool) → capped (cond (t && true) Deletion (cond u Minus (digits_class true (b ∷ [])))) ≡ cond t Deletion (cond u Minus (with_digit true 0 b))
    by true u = refl
    by false true = refl
    by false false = digits_pushed true [] b
class_pushed (c ∷ []) b = ap capped (long_class c [] b) ∙ by (c == 100) refl (c == 45) refl
  where
    by : (t : Bool) → (c == 100) ≡ t → (u : Bool) → (c == 45) ≡ u
        → capped (cond u (minus_class (b ∷ [])) (digits_class true (c ∷ b ∷ []))) ≡ with_byte_pushed (capped (cond (t && true) Deletion (cond u Minus (digits_class true (c ∷ []))))) b
    by true d true minus = absurd (omega (arith, eqb-true c 100 d, eqb-true c 45 minus))
    by true d false minus = subst (λ x. capped (digits_class true (x ∷ b ∷ [])) ≡ Other) (sym (eqb-true c 100 d)) refl
    by false d true minus = minus_pushed [] b
    by false d false minus = digits_pushed true (c ∷ []) b
class_pushed (c ∷ e ∷ es) b =
    ap capped (long_class c (e ∷ es) b) ∙ by (c == 100) (c == 45)
  where
    by : (t u : Bool) → capped (cond u (minus_class ((e ∷ es) ++ b ∷ [])) (digits_class true (c ∷ ((e ∷ es) ++ b ∷ []))))
        ≡ with_byte_pushed (capped (cond (t && false) Deletion (cond u (minus_class (e ∷ es)) (digits_class true (c ∷ e ∷ es))))) b
    by true true = minus_pushed (e ∷ es) b
    by true false = digits_pushed true (c ∷ e ∷ es) b
    by false true = minus_pushed (e ∷ es) b
    by false false = digits_pushed true (c ∷ e ∷ es) b

-- two values above every limit are judged alike
high_judged : (stage : Stage) (positive : Bool) (p : Progress) (line v w : ℕ) → 9223372036854775808 ≤ v → 9223372036854775808 ≤ w
    → judge_number stage p positive v line ≡ judge_number stage p positive w line
high_judged Start true p line v w high higher = rw (ne_eqb v 0 (λ e. omega arith), le-leb 9223372036854775808 v high, ne_eqb w 0 (λ e. omega arith), le-leb 9223372036854775808 w higher) refl
high_judged Start false p line v w high higher = refl
high_judged AfterId positive p line v w high higher = rw (ne_eqb v 0 (λ e. omega arith), lt-ltb 1000000 v (omega arith), ne_eqb w 0 (λ e. omega arith), lt-ltb 1000000 w (omega arith)) refl
high_judged Literals positive p line v w high higher = rw (ne_eqb v 0 (λ e. omega arith), lt-ltb 1000000 v (omega arith), ne_eqb w 0 (λ e. omega arith), lt-ltb 1000000 w (omega arith)) refl
high_judged Hints true p line v w high higher = rw (ne_eqb v 0 (λ e. omega arith), le-leb 9223372036854775808 v high, ne_eqb w 0 (λ e. omega arith), le-leb 9223372036854775808 w higher) refl
high_judged Hints false p line v w high higher = rw (ne_eqb v 0 (λ e. omega arith), ne_eqb w 0 (λ e. omega arith)) refl
high_judged Ids true p line v w high higher = rw (ne_eqb v 0 (λ e. omega arith), le-leb 9223372036854775808 v high, ne_eqb w 0 (λ e. omega arith), le-leb 9223372036854775808 w higher) refl
high_judged Ids false p line v w high higher = refl
high_judged Added positive p line v w high higher = refl
high_judged Deleted positive p line v w high higher = refl

number_judged : (stage : Stage) (positive : Bool) (p : Progress) (line v : ℕ)
    → judge_number stage p positive (min v 9223372036854775808) line ≡ judge_number stage p positive v line
number_judged stage positive p line v = by (leb v 9223372036854775808) refl
  where
    by : (t : Bool) → leb v 9223372036854775808 ≡ t → judge_number stage p positive (min v 9223372036854775808) line ≡ judge_number stage p positive v line
    by true low =
        let small : v ≤ 9223372036854775808 = leb-true v 9223372036854775808 low in
        let same : min v 9223372036854775808 ≡ v = omega arith in
        ap (λ x. judge_number stage p positive x line) same
    by false high =
        let large : 9223372036854775808 < v = leb-false v 9223372036854775808 high in
        high_judged stage positive p line (min v 9223372036854775808) v (omega arith) (omega arith)

-- a value above every limit is judged as the least such
pub capped_judged : (token : Token) (p : Progress) (line : ℕ) → judge_class (capped token) p line ≡ judge_class token p line
capped_judged Empty p line = refl
capped_judged Deletion p line = refl
capped_judged Minus p line = refl
capped_judged (Number positive value) p line = number_judged p.stage positive p line value
capped_judged Other p line = refl

-- a token is judged by what its bytes so far are
pub token_judged : (p : Progress) (token : Token) (text : List ℕ) (line : ℕ) → token ≡ capped (class_of text) → judge_token p text line ≡ judge_class token p line
token_judged p token text line is = sym (capped_judged (class_of text) p line) ∙ ap (λ c. judge_class c p line) (sym is)
