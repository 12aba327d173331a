-- A number at the front of a text, and the reader's steps over it.
use Rattle.std.proofs.Common.{◌≡◌, ℕ, ◌+◌, ◌≤◌, ◌<◌, ◌==◌, Bool, true, false, cond, leb, List, [], ◌∷◌, ◌++◌, length, drop, refl, sym, ap, ◌∙◌, arith, append_assoc, append-nil, length-append, Result, Ok, Err}
use Rattle.std.specs.List.{list_all}
use Rattle.std.specs.Char.{is_ascii_digit}
use Rattle.std.proofs.lemmas.List.{nil_from_length}
use Rattle.std.proofs.lemmas.Bool.{lt-leb, and_parts, eqb-true, ne_eqb}
use Rattle.cnf_text.specs.declared.fault.CnfFault.{CnfFault}
use Rattle.cnf_text.specs.declared.fault.CnfFault.TheVariants.{TooLong}
use Rattle.cnf_text.specs.declared.class.Class.TheVariants.{Number, Other}
use Rattle.lit_base.specs.declared.numeral.Numeral.{Numeral}
use Rattle.cnf_text.specs.declared.stage.Stage.{Stage}
use Rattle.cnf_text.specs.declared.stage.Stage.TheVariants.{Start, AfterMagic, AfterFormat, AfterVariables, AfterClauses, Body}
use Rattle.cnf_text.specs.declared.scan.Place.{Place}
use Rattle.cnf_text.specs.declared.scan.Place.TheVariants.{LineStart, Comment, Tokens, Ended}
use Rattle.cnf_text.specs.declared.scan.Scan.{Scan}
use Rattle.lit_base.specs.Results.{on_ok}
use Rattle.lit_base.proofs.Results.{on_ok-either}
use Rattle.cnf_text.specs.Faults.{OnFault}
use Rattle.lit_base.specs.Lines.{is_line_feed, is_blank}
use Rattle.lit_base.specs.Numeral.{value_from, sign_bytes}
use Rattle.cnf_text.specs.Numeral.{IsShortAtFront}
use Rattle.cnf_text.specs.Class.{class_of}
use Rattle.cnf_text.specs.Progress.{ProgressState}
use Rattle.cnf_text.specs.Judge.{judge_at, judge_token, judge_number, is_body}
use Rattle.cnf_text.specs.Machine.{end_token, end_line, step, step_at, push_byte, step_blank, step_number, is_between, steps}
use Rattle.cnf_text.proofs.Results.{OnFault-weaker}
use Rattle.lit_base.proofs.Numerals.{digit_range, digit_is_solid, AreSolid, digits_are_solid}
use Rattle.lit_base.proofs.LineParts.{solid_no_feed, drop_behind}

-- a byte that is no blank, and begins no comment and no end
pub record IsPlain (b : ℕ) : Type 0 where
  solid : is_blank b ≡ false
  no_comment : (b == 99) ≡ false
  no_end : (b == 37) ≡ false

digit_is_plain : (d : ℕ) → is_ascii_digit d ≡ true → IsPlain d
digit_is_plain d is =
    let range = digit_range d is in
    record {
      solid = digit_is_solid d is;
      no_comment = ne_eqb d 99 (λ e. omega arith);
      no_end = ne_eqb d 37 (λ e. omega arith);
    }

-- the reader in a line of tokens, with an open token
abbrev pub in_token : ℕ → ProgressState → List ℕ → Scan
in_token line p token = record { line = line; place = Tokens; token = token; progress = p }

push_step : (line : ℕ) (p : ProgressState) (token : List ℕ) (b : ℕ) → is_blank b ≡ false → length token < 64 → step (in_token line p token) b ≡ Ok (in_token line p (token ++ b ∷ []))
push_step line p token b solid room =
    ap (λ t. cond t (cond (is_line_feed b) (on_ok (end_token (in_token line p token)) end_line) (end_token (in_token line p token))) (cond (leb 64 (length token)) (Err (TooLong line)) (Ok (in_token line p (token ++ b ∷ []))))) solid
    ∙ ap (λ t. cond t (Err (TooLong line)) (Ok (in_token line p (token ++ b ∷ [])))) (lt-leb 64 (length token) room)

-- plain bytes are pushed
pub pushes : (line : ℕ) (p : ProgressState) (token word tail : List ℕ) → AreSolid word → length token + length word ≤ 64 → steps (in_token line p token) (word ++ tail) ≡ steps (in_token line p (token ++ word)) tail
pushes line p token [] tail plain short = ap (λ (t : List ℕ). steps (in_token line p t) tail) (sym (append-nil token))
pushes line p token (b ∷ bs) tail plain short =
    ap (λ r. on_ok r (λ s. steps s (bs ++ tail))) (push_step line p token b plain.0 (omega arith))
    ∙ pushes line p (token ++ b ∷ []) bs tail plain.1 (omega (arith, length-append token (b ∷ [])))
    ∙ ap (λ (t : List ℕ). steps (in_token line p t) tail) (append_assoc token (b ∷ []) bs)

-- the first byte of a token
first_step : (place : Place) (s : Scan) (b : ℕ) → s.place ≡ place → is_between place s.token ≡ true → IsPlain b → step s b ≡ Ok (in_token s.line s.progress (b ∷ []))
first_step LineStart s b at between plain =
    ap (λ p. step_by p) at ∙ ap (λ t. cond t (end_line s) (cond (is_blank b) (Ok s) (cond (b == 99) (Ok (record s { place = Comment })) (cond (b == 37) (Ok (record s { place = Ended })) (Ok (in_token s.line s.progress (b ∷ []))))))) no_feed
    ∙ ap (λ t. cond t (Ok s) (cond (b == 99) (Ok (record s { place = Comment })) (cond (b == 37) (Ok (record s { place = Ended })) (Ok (in_token s.line s.progress (b ∷ [])))))) plain.solid
    ∙ ap (λ t. cond t (Ok (record s { place = Comment })) (cond (b == 37) (Ok (record s { place = Ended })) (Ok (in_token s.line s.progress (b ∷ []))))) plain.no_comment
    ∙ ap (λ t. cond t (Ok (record s { place = Ended })) (Ok (in_token s.line s.progress (b ∷ [])))) plain.no_end
  where
    step_by : Place → Result Scan CnfFault
    step_by p = step_at p s b

    no_feed : is_line_feed b ≡ false
    no_feed = solid_no_feed b plain.solid
first_step Comment s b at between plain = cc
first_step Tokens s b at between plain =
    ap (λ (t : Scan). step t b) same ∙ push_step s.line s.progress [] b plain.solid (omega arith)
  where
    empty : s.token ≡ []
    empty = nil_from_length s.token (eqb-true (length s.token) 0 between)

    same : s ≡ in_token s.line s.progress []
    same =
        ap (λ p. let t : Scan = record { line = s.line; place = p; token = s.token; progress = s.progress } in t) at
        ∙ ap (λ (t : List ℕ). in_token s.line s.progress t) empty
first_step Ended s b at between plain = cc

-- the blank behind a token
pub blank_step : (line : ℕ) (p : ProgressState) (token : List ℕ) (blank : ℕ) → is_blank blank ≡ true
    → step (in_token line p token) blank ≡ on_ok (judge_token p token line) (λ q. step_blank (in_token line q []) blank)
blank_step line p token blank is =
    ap (λ t. cond t (cond (is_line_feed blank) (on_ok (end_token (in_token line p token)) end_line) (end_token (in_token line p token))) (push_byte (in_token line p token) blank)) is
    ∙ on_ok-either (is_line_feed blank) (judge_token p token line) (λ q. Ok (in_token line q [])) end_line (λ q. Ok (in_token line q []))

-- the class of a numeral's bytes
pub numeral_class : (positive : Bool) (d : ℕ) (ds : List ℕ) → list_all is_ascii_digit (d ∷ ds) ≡ true → class_of (sign_bytes positive ++ d ∷ ds) ≡ Number positive (value_from 0 (d ∷ ds))
numeral_class true d ds all =
    let range = digit_range d (and_parts (is_ascii_digit d) (list_all is_ascii_digit ds) all).0 in
    rw (ne_eqb d 112 (λ e. omega arith), ne_eqb d 99 (λ e. omega arith), ne_eqb d 45 (λ e. omega arith)) (ap (λ t. cond t (Number true (value_from 0 (d ∷ ds))) Other) all)
numeral_class false d ds all = ap (λ t. cond t (Number false (value_from 0 (d ∷ ds))) Other) all

-- a numeral is judged as its number, behind the header
numeral_judged : (positive : Bool) (d : ℕ) (ds : List ℕ) (p : ProgressState) (line : ℕ) → list_all is_ascii_digit (d ∷ ds) ≡ true → is_body p.stage ≡ true
    → judge_token p (sign_bytes positive ++ d ∷ ds) line ≡ judge_number p positive (value_from 0 (d ∷ ds)) line
numeral_judged positive d ds p line all body = some positive ∙ ap (λ k. judge_at p.stage p k line) (numeral_class positive d ds all) ∙ by p.stage body
  where
    some : (t : Bool) → judge_token p (sign_bytes t ++ d ∷ ds) line ≡ judge_at p.stage p (class_of (sign_bytes t ++ d ∷ ds)) line
    some true = refl
    some false = refl

    by : (stage : Stage) → is_body stage ≡ true → judge_at stage p (Number positive (value_from 0 (d ∷ ds))) line ≡ judge_number p positive (value_from 0 (d ∷ ds)) line
    by Start is = cc
    by AfterMagic is = cc
    by AfterFormat is = cc
    by AfterVariables is = cc
    by AfterClauses is = cc
    by Body is = refl

-- the steps over a word of plain bytes where no token is open
word_steps : (s : Scan) (b : ℕ) (word tail : List ℕ) → is_between s.place s.token ≡ true → IsPlain b → AreSolid word → length (b ∷ word) ≤ 64
    → steps s ((b ∷ word) ++ tail) ≡ steps (in_token s.line s.progress (b ∷ word)) tail
word_steps s b word tail between plain solid short =
    ap (λ r. on_ok r (λ t. steps t (word ++ tail))) (first_step s.place s b refl between plain)
    ∙ pushes s.line s.progress (b ∷ []) word tail solid (omega arith)

-- the steps over a numeral and its blank
pub numeral_steps : (s : Scan) (positive : Bool) (d : ℕ) (ds : List ℕ) (blank : ℕ) (rest : List ℕ) → is_between s.place s.token ≡ true → is_body s.progress.stage ≡ true
    → list_all is_ascii_digit (d ∷ ds) ≡ true → length (sign_bytes positive ++ d ∷ ds) ≤ 64 → is_blank blank ≡ true
    → steps s ((sign_bytes positive ++ d ∷ ds) ++ blank ∷ rest) ≡ on_ok (step_number s positive (value_from 0 (d ∷ ds)) blank) (λ t. steps t rest)
numeral_steps s positive d ds blank rest between body all short is =
    word positive short
    ∙ ap (λ r. on_ok r (λ t. steps t rest)) (blank_step s.line s.progress (sign_bytes positive ++ d ∷ ds) blank is)
    ∙ ap (λ r. on_ok (on_ok r (λ q. step_blank (in_token s.line q []) blank)) (λ t. steps t rest)) (numeral_judged positive d ds s.progress s.line all body)
  where
    word : (t : Bool) → length (sign_bytes t ++ d ∷ ds) ≤ 64 → steps s ((sign_bytes t ++ d ∷ ds) ++ blank ∷ rest) ≡ steps (in_token s.line s.progress (sign_bytes t ++ d ∷ ds)) (blank ∷ rest)
    word true short = word_steps s d ds (blank ∷ rest) between (digit_is_plain d (and_parts (is_ascii_digit d) (list_all is_ascii_digit ds) all).0) (digits_are_solid (d ∷ ds) all).1 short
    word false short = word_steps s 45 (d ∷ ds) (blank ∷ rest) between (record { solid = refl; no_comment = refl; no_end = refl }) (digits_are_solid (d ∷ ds) all) short

-- the steps over the number at the front of a text
pub front_steps : (s : Scan) (numeral : Numeral) (bytes : List ℕ) → is_between s.place s.token ≡ true → is_body s.progress.stage ≡ true → IsShortAtFront numeral bytes
    → steps s bytes ≡ on_ok (step_number s numeral.positive numeral.value numeral.blank) (λ t. steps t (drop (numeral.len + 1) bytes))
front_steps s numeral bytes between body front =
    let word : List ℕ = sign_bytes numeral.positive ++ front.front.digit ∷ front.front.digits in
    let left : drop (numeral.len + 1) bytes ≡ front.front.rest =
    ap (λ n. drop (n + 1) bytes) front.front.len ∙ ap (λ (xs : List ℕ). drop (length word + 1) xs) front.front.whole ∙ drop_behind word numeral.blank front.front.rest in
    ap (steps s) front.front.whole
    ∙ numeral_steps s numeral.positive front.front.digit front.front.digits numeral.blank front.front.rest between body front.front.all (omega (arith, front.front.len, front.short)) front.front.blank
    ∙ ap (λ v. on_ok (step_number s numeral.positive v numeral.blank) (λ t. steps t front.front.rest)) (sym front.front.value)
    ∙ ap (λ (xs : List ℕ). on_ok (step_number s numeral.positive numeral.value numeral.blank) (λ t. steps t xs)) (sym left)

pub front_length : (numeral : Numeral) (bytes : List ℕ) → IsShortAtFront numeral bytes → numeral.len + 1 ≤ length bytes
front_length numeral bytes front =
    omega (arith, front.front.len, ap length front.front.whole, length-append (sign_bytes numeral.positive ++ front.front.digit ∷ front.front.digits) (numeral.blank ∷ front.front.rest))

-- a fault at the number is a fault of the text
pub front_fault : (s : Scan) (numeral : Numeral) (bytes : List ℕ) (fault : CnfFault) → is_between s.place s.token ≡ true → is_body s.progress.stage ≡ true → IsShortAtFront numeral bytes
    → OnFault fault (step_number s numeral.positive numeral.value numeral.blank ≡ Err fault) → OnFault fault (steps s bytes ≡ Err fault)
front_fault s numeral bytes fault between body front owes =
    OnFault-weaker fault (step_number s numeral.positive numeral.value numeral.blank ≡ Err fault) (steps s bytes ≡ Err fault)
    (λ is. front_steps s numeral bytes between body front ∙ ap (λ r. on_ok r (λ t. steps t (drop (numeral.len + 1) bytes))) is) owes

pub front_read : (s t : Scan) (numeral : Numeral) (bytes : List ℕ) → is_between s.place s.token ≡ true → is_body s.progress.stage ≡ true → IsShortAtFront numeral bytes
    → step_number s numeral.positive numeral.value numeral.blank ≡ Ok t → steps s bytes ≡ steps t (drop (numeral.len + 1) bytes)
front_read s t numeral bytes between body front is =
    front_steps s numeral bytes between body front ∙ ap (λ r. on_ok r (λ u. steps u (drop (numeral.len + 1) bytes))) is
