-- The words of the `v` lines of a model, one by one and sixteen to a line.
use Rattle.std.proofs.Common.{◌≡◌, ℕ, zero, suc, ◌+◌, ◌-◌, ◌*◌, ◌<◌, ◌≤◌, Bool, cond, List, [], ◌∷◌, ◌++◌, length, get_or, take, drop, refl, ap, ◌∙◌, sym, arith, add-one, add-zero, append_assoc, ◌⊎◌, inl, inr, min}
use Rattle.std.specs.Prelude.{codes, flat_map, nat_lt}
use Rattle.std.specs.Simd.{first_chunks}
use Rattle.std.proofs.lemmas.Bool.{cases_lt, lt-ltb, le-ltb}
use Rattle.std.proofs.lemmas.Grind.{flat_map-append}
use Rattle.std.proofs.lemmas.List.{length-drop, take_all, take-append-drop, drop-drop}
use Rattle.lit_base.specs.Literal.{Literal, literal_text}
use Rattle.lit_base.specs.Text.{value_words, spaced, value_line}

-- the literal of a variable with this sign
abbrev pub with_sign : ℕ → Bool → Literal
with_sign variable positive = record { variable = variable; positive = positive }

-- the words from a value on begin with its literal
word_at : (i first : ℕ) (values : List Bool) (d : Bool) → i < length values →
    drop i (value_words first values) ≡ literal_text (with_sign (first + i) (get_or values i d)) ∷ drop (suc i) (value_words first values)
word_at i first [] d below = absurd (omega arith)
word_at zero first (value ∷ others) d below =
    ap (λ v. literal_text (with_sign v value) ∷ value_words (first + 1) others) (sym (add-zero first))
word_at (suc i) first (value ∷ others) d below =
    word_at i (first + 1) others d (omega arith)
    ∙ ap (λ v. literal_text (with_sign v (get_or others i d)) ∷ drop (suc i) (value_words (first + 1) others)) (let e : (first + 1) + i ≡ first + suc i = omega arith in e)

-- the words after all values are the 0 that ends them
last_word : (first : ℕ) (values : List Bool) → drop (length values) (value_words first values) ≡ codes "0" ∷ []
last_word first [] = refl
last_word first (value ∷ others) = last_word (first + 1) others

length-value_words : (first : ℕ) (values : List Bool) → length (value_words first values) ≡ length values + 1
length-value_words first [] = refl
length-value_words first (value ∷ others) = let more = length-value_words (first + 1) others in omega arith

-- the text of the words from a value on begins with a blank and its literal
pub spaced_step : (values : List Bool) (i end : ℕ) (d : Bool) → i < end → end ≤ length values →
    spaced (take (end - i) (drop i (value_words 1 values)))
    ≡ (32 ∷ literal_text (with_sign (i + 1) (get_or values i d))) ++ spaced (take (end - (i + 1)) (drop (i + 1) (value_words 1 values)))
spaced_step values i end d below within =
    let left : end - i ≡ suc (end - (i + 1)) = omega arith in
    let next : 1 + i ≡ i + 1 = omega arith in
    ap (λ k. spaced (take k (drop i (value_words 1 values)))) left
    ∙ (ap (λ words. spaced (take (suc (end - (i + 1))) words)) (word_at i 1 values d (omega arith))
    ∙ (ap (λ v. (32 ∷ literal_text (with_sign v (get_or values i d))) ++ spaced (take (end - (i + 1)) (drop (suc i) (value_words 1 values)))) next
    ∙ ap (λ k. (32 ∷ literal_text (with_sign (i + 1) (get_or values i d))) ++ spaced (take (end - (i + 1)) (drop k (value_words 1 values)))) (sym (add-one i))))

-- the loop over the words of a line: one more word
pub words_step : (values : List Bool) (i end : ℕ) (d : Bool) (text after : List ℕ) → i < end → end ≤ length values →
    after ≡ text ++ 32 ∷ literal_text (with_sign (i + 1) (get_or values i d)) →
    after ++ spaced (take (end - (i + 1)) (drop (i + 1) (value_words 1 values))) ≡ text ++ spaced (take (end - i) (drop i (value_words 1 values)))
words_step values i end d text after below within added =
    let rest = spaced (take (end - (i + 1)) (drop (i + 1) (value_words 1 values))) in
    ap (λ t. t ++ rest) added
    ∙ (append_assoc text (32 ∷ literal_text (with_sign (i + 1) (get_or values i d))) rest
    ∙ ap (λ t. text ++ t) (sym (spaced_step values i end d below within)))

-- the words of the last line, with the 0
last_words : (values : List Bool) (start : ℕ) → start ≤ length values → length values < start + 16 →
    take 16 (drop start (value_words 1 values)) ≡ take (length values - start) (drop start (value_words 1 values)) ++ codes "0" ∷ []
last_words values start within few =
    let words = value_words 1 values in
    let rest = drop start words in
    let k = length values - start in
    let whole : start + k ≡ length values = omega arith in
    let short : length rest ≤ 16 = rw (length-drop start words) (rw (length-value_words 1 values) (omega arith)) in
    take_all 16 rest short
    ∙ (sym (take-append-drop k rest)
    ∙ ap (λ t. take k rest ++ t) (drop-drop k start words ∙ (ap (λ j. drop j words) whole ∙ last_word 1 values)))

-- how a line ends: after the last words stands the 0
abbrev pub ending_of : ℕ → ℕ → List ℕ
ending_of end most = cond (nat_lt end most) (codes " 0\n") (codes "\n")

last_line : (values : List Bool) (start : ℕ) → start ≤ length values → length values < start + 16 →
    value_line (take 16 (drop start (value_words 1 values))) ≡ codes "v" ++ (spaced (take (length values - start) (drop start (value_words 1 values))) ++ codes " 0\n")
last_line values start within few =
    let some = take (length values - start) (drop start (value_words 1 values)) in
    ap value_line (last_words values start within few)
    ∙ (ap (λ t. codes "v" ++ (t ++ codes "\n")) (flat_map-append (λ word. 32 ∷ word) some (codes "0" ∷ []))
    ∙ ap (λ t. codes "v" ++ t) (append_assoc (spaced some) (codes " 0") (codes "\n")))

line_by : (values : List Bool) (start end : ℕ) → start ≤ length values → end ≡ min (length values) (start + 16) → (end < start + 16) ⊎ (start + 16 ≤ end) →
    value_line (take 16 (drop start (value_words 1 values)))
    ≡ codes "v" ++ (spaced (take (end - start) (drop start (value_words 1 values))) ++ ending_of end (start + 16))
line_by values start end within is (inl last) =
    let at_end : length values ≡ end = omega arith in
    last_line values start within (omega arith)
    ∙ (ap (λ k. codes "v" ++ (spaced (take (k - start) (drop start (value_words 1 values))) ++ codes " 0\n")) at_end
    ∙ ap (λ b. codes "v" ++ (spaced (take (end - start) (drop start (value_words 1 values))) ++ cond b (codes " 0\n") (codes "\n"))) (sym (lt-ltb end (start + 16) last)))
line_by values start end within is (inr more) =
    let sixteen : 16 ≡ end - start = omega arith in
    ap (λ k. codes "v" ++ (spaced (take k (drop start (value_words 1 values))) ++ codes "\n")) sixteen
    ∙ ap (λ b. codes "v" ++ (spaced (take (end - start) (drop start (value_words 1 values))) ++ cond b (codes " 0\n") (codes "\n"))) (sym (le-ltb end (start + 16) more))

-- a line: `v`, the words of its values, and its ending
pub line_parts : (values : List Bool) (start end : ℕ) → start ≤ length values → end ≡ min (length values) (start + 16) →
    value_line (take 16 (drop start (value_words 1 values)))
    ≡ codes "v" ++ (spaced (take (end - start) (drop start (value_words 1 values))) ++ ending_of end (start + 16))
line_parts values start end within is = line_by values start end within is (cases_lt end (start + 16))

-- the loop over the lines: one more line
pub lines_step : (words : List (List ℕ)) (lines line : ℕ) (text after : List ℕ) → line < lines → after ≡ text ++ value_line (take 16 (drop (16 * line) words)) →
    after ++ flat_map value_line (first_chunks 16 (lines - (line + 1)) (drop (16 * (line + 1)) words))
    ≡ text ++ flat_map value_line (first_chunks 16 (lines - line) (drop (16 * line) words))
lines_step words lines line text after below added =
    let left : lines - line ≡ suc (lines - (line + 1)) = omega arith in
    let further : 16 * line + 16 ≡ 16 * (line + 1) = omega arith in
    let this = value_line (take 16 (drop (16 * line) words)) in
    let rest = λ (ws : List (List ℕ)). flat_map value_line (first_chunks 16 (lines - (line + 1)) ws) in
    ap (λ t. t ++ rest (drop (16 * (line + 1)) words)) added
    ∙ (append_assoc text this (rest (drop (16 * (line + 1)) words))
    ∙ (ap (λ ws. text ++ (this ++ rest ws)) (sym (drop-drop 16 (16 * line) words ∙ ap (λ j. drop j words) further))
    ∙ ap (λ k. text ++ flat_map value_line (first_chunks 16 k (drop (16 * line) words))) (sym left)))

-- the ending that is chosen for the last line and for another
pub ending_last : (end most : ℕ) (text : List ℕ) → end < most → text ≡ codes " 0\n" → text ≡ ending_of end most
ending_last end most text last is = is ∙ ap (λ b. cond b (codes " 0\n") (codes "\n")) (sym (lt-ltb end most last))

pub ending_more : (end most : ℕ) (text : List ℕ) → most ≤ end → text ≡ codes "\n" → text ≡ ending_of end most
ending_more end most text more is = is ∙ ap (λ b. cond b (codes " 0\n") (codes "\n")) (sym (le-ltb end most more))

-- a text to which the parts of a line are added in turn
pub parts_added : (text with_v with_values after line spaced_values ending : List ℕ) → with_v ≡ text ++ codes "v" → with_values ≡ with_v ++ spaced_values →
    after ≡ with_values ++ ending → line ≡ codes "v" ++ (spaced_values ++ ending) → after ≡ text ++ line
parts_added text with_v with_values after line spaced_values ending v values end is =
    end ∙ (ap (λ t. t ++ ending) (values ∙ ap (λ t. t ++ spaced_values) v)
    ∙ (append_assoc (text ++ codes "v") spaced_values ending
    ∙ (append_assoc text (codes "v") (spaced_values ++ ending) ∙ ap (λ t. text ++ t) (sym is))))
