-- The reader's steps over a number at the front of a text.
use Rattle.std.proofs.Common.{◌≡◌, ℕ, ◌+◌, ◌≤◌, ◌<◌, ◌==◌, Bool, true, false, cond, leb, min, List, [], ◌∷◌, ◌++◌, length, take, refl, sym, ap, ◌∙◌, arith, append_assoc, append-nil, length-append, Result, Ok, Err}
use Rattle.std.specs.List.{list_all}
use Rattle.std.specs.Char.{is_ascii_digit}
use Rattle.std.proofs.lemmas.Bool.{lt-leb, and_parts, ne_eqb}
use Rattle.lit_base.specs.Lines.{is_line_feed, is_blank}
use Rattle.lit_base.specs.Results.{on_ok}
use Rattle.lit_base.proofs.Results.{on_ok-either}
use Rattle.lit_base.specs.Numeral.{value_from, sign_bytes}
use Rattle.lit_base.specs.declared.numeral.Numeral.{Numeral}
use Rattle.lit_base.proofs.LineParts.{solid_no_feed, take_behind}
use Rattle.lit_base.proofs.Numerals.{digit_range, digit_is_solid, AreSolid, digits_are_solid}
use Rattle.lrat_text.specs.declared.fault.LineFault.{LineFault}
use Rattle.lrat_text.specs.declared.fault.LineFault.TheVariants.{LineTooLong}
use Rattle.lrat_text.specs.declared.token.Token.{Token}
use Rattle.lrat_text.specs.declared.token.Token.TheVariants.{Empty, Deletion, Minus, Number, Other}
use Rattle.lrat_text.specs.declared.progress.Progress.{Progress}
use Rattle.lrat_text.specs.declared.scan.Place.{Place}
use Rattle.lrat_text.specs.declared.scan.Place.TheVariants.{LineStart, Comment, Tokens, Ready}
use Rattle.lrat_text.specs.declared.scan.Scan.{Scan}
use Rattle.lrat_text.specs.Faults.{OnFault}
use Rattle.lrat_text.specs.Class.{class_of, capped, with_byte_pushed}
use Rattle.lrat_text.specs.Judge.{judge_class, judge_number}
use Rattle.lrat_text.specs.Machine.{end_token, end_line, step_feed, step_in_tokens, step_byte, counted, step, go_on, read, is_empty, is_between, step_blank, step_number, outcome_at, IsAhead}
use Rattle.lrat_text.proofs.Results.{OnFault-weaker}
use Rattle.lrat_text.proofs.Classes.{class_pushed}

-- the reader in a line of tokens, with an open token, behind so many bytes of the line
abbrev in_token : ℕ → Progress → Token → ℕ → Scan
in_token line p token count = record { line = line; read = count; place = Tokens; token = token; progress = p }

push_step : (line : ℕ) (p : Progress) (token : Token) (count b : ℕ) → is_blank b ≡ false → count < 33554432 → step (in_token line p token count) b ≡ Ok (in_token line p (with_byte_pushed token b) (count + 1))
push_step line p token count b solid room =
    ap (λ t. cond t (step_feed Tokens (in_token line p token count)) (cond (leb 33554432 count) (Err (LineTooLong line)) (step_in_tokens (in_token line p token (count + 1)) b))) (solid_no_feed b solid)
    ∙ ap (λ t. cond t (Err (LineTooLong line)) (step_in_tokens (in_token line p token (count + 1)) b)) (lt-leb 33554432 count room)
    ∙ ap (λ t. cond t (end_token (in_token line p token (count + 1))) (Ok (in_token line p (with_byte_pushed token b) (count + 1)))) solid

-- bytes that are no blanks are pushed
pushes : (line : ℕ) (p : Progress) (text : List ℕ) (count : ℕ) (word tail : List ℕ) → AreSolid word → count + length word ≤ 33554432
    → read (in_token line p (capped (class_of text)) count) (word ++ tail) ≡ read (in_token line p (capped (class_of (text ++ word))) (count + length word)) tail
pushes line p text count [] tail solid room =
    ap (λ (t : List ℕ). read (in_token line p (capped (class_of t)) count) tail) (sym (append-nil text))
    ∙ ap (λ n. read (in_token line p (capped (class_of (text ++ []))) n) tail) (let e : count ≡ count + 0 = omega arith in e)
pushes line p text count (b ∷ bs) tail solid room =
    ap (λ r. go_on r (λ s. read s (bs ++ tail))) (push_step line p (capped (class_of text)) count b solid.0 (omega arith))
    ∙ ap (λ c. read (in_token line p c (count + 1)) (bs ++ tail)) (sym (class_pushed text b))
    ∙ pushes line p (text ++ b ∷ []) (count + 1) bs tail solid.1 (omega arith)
    ∙ ap (λ (t : List ℕ). read (in_token line p (capped (class_of t)) (count + 1 + length bs)) tail) (append_assoc text (b ∷ []) bs)
    ∙ ap (λ n. read (in_token line p (capped (class_of (text ++ b ∷ bs))) n) tail) (let e : count + 1 + length bs ≡ count + length (b ∷ bs) = omega arith in e)

empty_is : (token : Token) → is_empty token ≡ true → token ≡ Empty
empty_is Empty is = refl
empty_is Deletion is = cc
empty_is Minus is = cc
empty_is (Number positive value) is = cc
empty_is Other is = cc

-- the first byte of a token
first_step : (place : Place) (s : Scan) (b : ℕ) → s.place ≡ place → is_between place s.token ≡ true → is_blank b ≡ false → (b == 99) ≡ false → s.read < 33554432
    → step s b ≡ Ok (in_token s.line s.progress (capped (class_of (b ∷ []))) (s.read + 1))
first_step place s b at between solid plain room =
    ap (λ t. cond t (step_feed s.place s) (cond (leb 33554432 s.read) (Err (LineTooLong s.line)) (step_byte s.place (counted s) b))) (solid_no_feed b solid)
    ∙ ap (λ t. cond t (Err (LineTooLong s.line)) (step_byte s.place (counted s) b)) (lt-leb 33554432 s.read room)
    ∙ ap (λ q. step_byte q (counted s) b) at ∙ by place at between
    ∙ ap (λ c. let r : Result Scan LineFault = Ok (in_token s.line s.progress c (s.read + 1)) in r) (sym (class_pushed [] b))
  where
    by : (place : Place) → s.place ≡ place → is_between place s.token ≡ true → step_byte place (counted s) b ≡ Ok (in_token s.line s.progress (with_byte_pushed Empty b) (s.read + 1))
    by LineStart here is =
        ap (λ t. let r : Result Scan LineFault = Ok (cond t (counted s) (cond (b == 99) (record (counted s) { place = Comment }) (in_token s.line s.progress (with_byte_pushed Empty b) (s.read + 1)))) in r) solid
        ∙ ap (λ t. let r : Result Scan LineFault = Ok (cond t (record (counted s) { place = Comment }) (in_token s.line s.progress (with_byte_pushed Empty b) (s.read + 1))) in r) plain
    by Comment here is = cc
    by Tokens here is =
        ap (λ t. cond t (end_token (counted s)) (Ok (record (counted s) { token = with_byte_pushed s.token b }))) solid
        ∙ ap (λ c. let r : Result Scan LineFault = Ok (record (counted s) { token = with_byte_pushed c b }) in r) (empty_is s.token is)
        ∙ ap (λ q. let r : Result Scan LineFault = Ok (record (in_token s.line s.progress (with_byte_pushed Empty b) (s.read + 1)) { place = q }) in r) here
    by (Ready line) here is = cc

-- the blank behind a token
blank_step : (line : ℕ) (p : Progress) (token : Token) (count blank : ℕ) → is_blank blank ≡ true → count < 33554432
    → step (in_token line p token count) blank ≡ on_ok (judge_class token p line) (λ q. step_blank (in_token line q Empty count) blank)
blank_step line p token count blank is room =
    ap (λ t. cond (is_line_feed blank) (on_ok (end_token (in_token line p token count)) end_line) (cond t (Err (LineTooLong line)) (step_in_tokens (in_token line p token (count + 1)) blank))) (lt-leb 33554432 count room)
    ∙ ap (λ t. cond (is_line_feed blank) (on_ok (end_token (in_token line p token count)) end_line) (cond t (end_token (in_token line p token (count + 1))) (Ok (in_token line p (with_byte_pushed token blank) (count + 1))))) is
    ∙ on_ok-either (is_line_feed blank) (judge_class token p line) (λ q. Ok (in_token line q Empty count)) end_line (λ q. Ok (in_token line q Empty (count + 1)))

-- the class of a numeral's bytes
pub numeral_class : (positive : Bool) (d : ℕ) (ds : List ℕ) → list_all is_ascii_digit (d ∷ ds) ≡ true → class_of (sign_bytes positive ++ d ∷ ds) ≡ Number positive (value_from 0 (d ∷ ds))
numeral_class true d ds all =
    let range = digit_range d (and_parts (is_ascii_digit d) (list_all is_ascii_digit ds) all).0 in
    rw (ne_eqb d 100 (λ e. omega arith), ne_eqb d 45 (λ e. omega arith)) (ap (λ t. cond t (Number true (value_from 0 (d ∷ ds))) Other) all)
numeral_class false d ds all = ap (λ t. cond t (Number false (value_from 0 (d ∷ ds))) Other) all

-- a numeral is judged as its number
numeral_judged : (positive : Bool) (d : ℕ) (ds : List ℕ) (p : Progress) (line : ℕ) → list_all is_ascii_digit (d ∷ ds) ≡ true → value_from 0 (d ∷ ds) < 9223372036854775808
    → judge_class (capped (class_of (sign_bytes positive ++ d ∷ ds))) p line ≡ judge_number p.stage p positive (value_from 0 (d ∷ ds)) line
numeral_judged positive d ds p line all small =
    ap (λ c. judge_class (capped c) p line) (numeral_class positive d ds all)
    ∙ ap (λ v. judge_number p.stage p positive v line) (let e : min (value_from 0 (d ∷ ds)) 9223372036854775808 ≡ value_from 0 (d ∷ ds) = omega arith in e)

-- reading a word where no token is open
word_read : (s : Scan) (b : ℕ) (word tail : List ℕ) → is_between s.place s.token ≡ true → is_blank b ≡ false → (b == 99) ≡ false → AreSolid word → s.read + length (b ∷ word) ≤ 33554432
    → read s ((b ∷ word) ++ tail) ≡ read (in_token s.line s.progress (capped (class_of (b ∷ word))) (s.read + length (b ∷ word))) tail
word_read s b word tail between solid plain all room =
    ap (λ r. go_on r (λ t. read t (word ++ tail))) (first_step s.place s b refl between solid plain (omega arith))
    ∙ pushes s.line s.progress (b ∷ []) (s.read + 1) word tail all (omega arith)
    ∙ ap (λ n. read (in_token s.line s.progress (capped (class_of (b ∷ word))) n) tail) (let e : s.read + 1 + length word ≡ s.read + length (b ∷ word) = omega arith in e)

-- reading a numeral and its blank
numeral_read : (s : Scan) (positive : Bool) (d : ℕ) (ds : List ℕ) (blank : ℕ) (rest : List ℕ) → is_between s.place s.token ≡ true → list_all is_ascii_digit (d ∷ ds) ≡ true
    → value_from 0 (d ∷ ds) < 9223372036854775808 → s.read + length (sign_bytes positive ++ d ∷ ds) < 33554432 → is_blank blank ≡ true
    → read s ((sign_bytes positive ++ d ∷ ds) ++ blank ∷ rest) ≡ go_on (step_number s positive (value_from 0 (d ∷ ds)) (length (sign_bytes positive ++ d ∷ ds)) blank) (λ t. read t rest)
numeral_read s positive d ds blank rest between all small room is =
    word positive room
    ∙ ap (λ r. go_on r (λ t. read t rest)) (blank_step s.line s.progress (capped (class_of (sign_bytes positive ++ d ∷ ds))) (s.read + length (sign_bytes positive ++ d ∷ ds)) blank is room)
    ∙ ap (λ r. go_on (on_ok r (λ q. step_blank (in_token s.line q Empty (s.read + length (sign_bytes positive ++ d ∷ ds))) blank)) (λ t. read t rest)) (numeral_judged positive d ds s.progress s.line all small)
  where
    digit : is_ascii_digit d ≡ true
    digit = (and_parts (is_ascii_digit d) (list_all is_ascii_digit ds) all).0

    plain : (d == 99) ≡ false
    plain = let range = digit_range d digit in ne_eqb d 99 (λ e. omega arith)

    word : (t : Bool) → s.read + length (sign_bytes t ++ d ∷ ds) < 33554432
        → read s ((sign_bytes t ++ d ∷ ds) ++ blank ∷ rest) ≡ read (in_token s.line s.progress (capped (class_of (sign_bytes t ++ d ∷ ds))) (s.read + length (sign_bytes t ++ d ∷ ds))) (blank ∷ rest)
    word true room = word_read s d ds (blank ∷ rest) between (digit_is_solid d digit) plain (digits_are_solid (d ∷ ds) all).1 (omega arith)
    word false room = word_read s 45 (d ∷ ds) (blank ∷ rest) between refl refl (digits_are_solid (d ∷ ds) all) (omega arith)

-- reading the number at the front, and the blank behind it
ahead_read : (s : Scan) (numeral : Numeral) (bytes : List ℕ) (ahead : IsAhead s numeral bytes) (rest : List ℕ)
    → read s ((sign_bytes numeral.positive ++ ahead.front.digit ∷ ahead.front.digits) ++ numeral.blank ∷ rest)
    ≡ go_on (step_number s numeral.positive numeral.value numeral.len numeral.blank) (λ t. read t rest)
ahead_read s numeral bytes ahead rest =
    let f = ahead.front in
    numeral_read s numeral.positive f.digit f.digits numeral.blank rest ahead.between f.all (omega (arith, f.value, ahead.small)) (omega (arith, f.len, ahead.room)) f.blank
    ∙ ap (λ v. go_on (step_number s numeral.positive v (length (sign_bytes numeral.positive ++ f.digit ∷ f.digits)) numeral.blank) (λ t. read t rest)) (sym f.value)
    ∙ ap (λ n. go_on (step_number s numeral.positive numeral.value n numeral.blank) (λ t. read t rest)) (sym f.len)

-- where the number is taken, so much of the text was read
pub ahead_taken : (s after : Scan) (numeral : Numeral) (bytes : List ℕ) → IsAhead s numeral bytes → step_number s numeral.positive numeral.value numeral.len numeral.blank ≡ Ok after
    → read s (take (numeral.len + 1) bytes) ≡ outcome_at after
ahead_taken s after numeral bytes ahead is =
    let f = ahead.front in
    let word : List ℕ = sign_bytes numeral.positive ++ f.digit ∷ f.digits in
    ap (read s) (ap (λ n. take (n + 1) bytes) f.len ∙ ap (take (length word + 1)) f.whole ∙ take_behind word numeral.blank f.rest)
    ∙ ahead_read s numeral bytes ahead [] ∙ ap (λ r. go_on r (λ t. read t [])) is

-- where it is a fault, that is the text's
pub ahead_fault : (s : Scan) (numeral : Numeral) (bytes : List ℕ) (fault : LineFault) → IsAhead s numeral bytes
    → OnFault fault (step_number s numeral.positive numeral.value numeral.len numeral.blank ≡ Err fault) → OnFault fault (read s bytes ≡ record { lines = []; last = Err fault })
ahead_fault s numeral bytes fault ahead owes =
    OnFault-weaker fault (step_number s numeral.positive numeral.value numeral.len numeral.blank ≡ Err fault) (read s bytes ≡ record { lines = []; last = Err fault })
    (λ is. ap (read s) ahead.front.whole ∙ ahead_read s numeral bytes ahead ahead.front.rest ∙ ap (λ r. go_on r (λ t. read t ahead.front.rest)) is) owes

pub ahead_length : (s : Scan) (numeral : Numeral) (bytes : List ℕ) → IsAhead s numeral bytes → numeral.len + 1 ≤ length bytes
ahead_length s numeral bytes ahead =
    let f = ahead.front in
    omega (arith, f.len, ap length f.whole, length-append (sign_bytes numeral.positive ++ f.digit ∷ f.digits) (numeral.blank ∷ f.rest))

-- where a byte is read, one byte of the text was
pub byte_taken : (s after : Scan) (b : ℕ) → step s b ≡ Ok after → read s (b ∷ []) ≡ outcome_at after
byte_taken s after b is = ap (λ r. go_on r (λ t. read t [])) is

pub byte_fault : (s : Scan) (b : ℕ) (rest : List ℕ) (fault : LineFault) → OnFault fault (step s b ≡ Err fault) → OnFault fault (read s (b ∷ rest) ≡ record { lines = []; last = Err fault })
byte_fault s b rest fault owes =
    OnFault-weaker fault (step s b ≡ Err fault) (read s (b ∷ rest) ≡ record { lines = []; last = Err fault }) (λ is. ap (λ r. go_on r (λ t. read t rest)) is) owes
