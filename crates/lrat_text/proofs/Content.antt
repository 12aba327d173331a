-- What the rest of a line is judged as, one byte more in front.
use Rattle.std.proofs.Common.{◌≡◌, ℕ, ◌+◌, ◌-◌, ◌≤◌, ◌<◌, ◌==◌, Bool, true, false, cond, ltb, List, [], ◌∷◌, ◌++◌, length, take, suc, refl, sym, ap, ◌∙◌, arith, append_assoc, append-nil, Option, None, Result, Ok, Err}
use Rattle.std.proofs.lemmas.Bool.{lt-ltb, le-ltb}
use Rattle.lit_base.specs.Parts.{Parts, parts_of}
use Rattle.lit_base.specs.Lines.{is_blank, mark_of, is_comment}
use Rattle.lit_base.specs.Results.{on_ok}
use Rattle.lit_base.specs.declared.proof.Line.{Line}
use Rattle.lit_base.proofs.LineParts.{parts_of_is, mark_blank, mark_other}
use Rattle.lrat_text.specs.declared.fault.LineFault.{LineFault}
use Rattle.lrat_text.specs.declared.fault.LineFault.TheVariants.{LineTooLong}
use Rattle.lrat_text.specs.declared.progress.Progress.{Progress}
use Rattle.lrat_text.specs.declared.scan.Place.{Place}
use Rattle.lrat_text.specs.declared.scan.Place.TheVariants.{LineStart, Comment, Tokens, Ready}
use Rattle.lrat_text.specs.declared.scan.Scan.{Scan}
use Rattle.lrat_text.specs.Judge.{nothing, judge_token, judge_tokens, judge_content, line_end, line_step}
use Rattle.lrat_text.specs.Machine.{line_start}

-- the tokens of the rest of a line in which a token is open
abbrev pub open_tokens : Progress → ℕ → Bool → List ℕ → Parts → Result Progress LineFault
open_tokens p line whole text parts = judge_tokens p line whole (text ++ parts.first) parts.others

-- the content of a line with this mark and these parts
abbrev content_by : Option ℕ → ℕ → Bool → Parts → Result Progress LineFault
content_by mark line whole parts = cond (is_comment mark) (Ok nothing) (judge_tokens nothing line whole parts.first parts.others)

-- a blank at the start of a line means nothing
pub blank_at_start : (line : ℕ) (whole : Bool) (b : ℕ) (bytes : List ℕ) → is_blank b ≡ true → judge_content line whole (b ∷ bytes) ≡ judge_content line whole bytes
blank_at_start line whole b bytes is =
    ap (λ m. content_by m line whole (parts_of is_blank (b ∷ bytes))) (mark_blank b bytes is)
    ∙ ap (λ (q : Parts). content_by (mark_of bytes) line whole q) (parts_of_is is_blank b bytes true is)

-- a `c` at the start of a line makes it a comment
pub comment_at_start : (line : ℕ) (whole : Bool) (b : ℕ) (bytes : List ℕ) → is_blank b ≡ false → (b == 99) ≡ true → judge_content line whole (b ∷ bytes) ≡ Ok nothing
comment_at_start line whole b bytes solid is =
    ap (λ m. content_by m line whole (parts_of is_blank (b ∷ bytes))) (mark_other b bytes solid)
    ∙ ap (λ t. cond t (Ok nothing) (judge_tokens nothing line whole (parts_of is_blank (b ∷ bytes)).first (parts_of is_blank (b ∷ bytes)).others)) is

-- another byte begins a token
pub token_at_start : (line : ℕ) (whole : Bool) (b : ℕ) (bytes : List ℕ) → is_blank b ≡ false → (b == 99) ≡ false
    → judge_content line whole (b ∷ bytes) ≡ open_tokens nothing line whole (b ∷ []) (parts_of is_blank bytes)
token_at_start line whole b bytes solid is =
    ap (λ m. content_by m line whole (parts_of is_blank (b ∷ bytes))) (mark_other b bytes solid)
    ∙ ap (λ t. cond t (Ok nothing) (judge_tokens nothing line whole (parts_of is_blank (b ∷ bytes)).first (parts_of is_blank (b ∷ bytes)).others)) is
    ∙ ap (open_tokens nothing line whole []) (parts_of_is is_blank b bytes false solid)

-- a blank ends the open token
pub blank_in_tokens : (p : Progress) (line : ℕ) (whole : Bool) (text : List ℕ) (b : ℕ) (bytes : List ℕ) → is_blank b ≡ true
    → open_tokens p line whole text (parts_of is_blank (b ∷ bytes)) ≡ on_ok (judge_token p text line) (λ q. open_tokens q line whole [] (parts_of is_blank bytes))
blank_in_tokens p line whole text b bytes is =
    ap (open_tokens p line whole text) (parts_of_is is_blank b bytes true is)
    ∙ ap (λ (t : List ℕ). on_ok (judge_token p t line) (λ q. open_tokens q line whole [] (parts_of is_blank bytes))) (append-nil text)

-- another byte is one more of the open token
pub byte_in_tokens : (p : Progress) (line : ℕ) (whole : Bool) (text : List ℕ) (b : ℕ) (bytes : List ℕ) → is_blank b ≡ false
    → open_tokens p line whole text (parts_of is_blank (b ∷ bytes)) ≡ open_tokens p line whole (text ++ b ∷ []) (parts_of is_blank bytes)
byte_in_tokens p line whole text b bytes is =
    ap (open_tokens p line whole text) (parts_of_is is_blank b bytes false is)
    ∙ ap (λ (t : List ℕ). judge_tokens p line whole t (parts_of is_blank bytes).others) (sym (append_assoc text (b ∷ []) (parts_of is_blank bytes).first))

-- what the rest of a line is judged as, by where the next byte stands and the text of the open token
abbrev pub content_at : Place → Scan → List ℕ → Bool → List ℕ → Result Progress LineFault
content_at LineStart s text whole xs = judge_content s.line whole xs
content_at Comment s text whole xs = Ok nothing
content_at Tokens s text whole xs = open_tokens s.progress s.line whole text (parts_of is_blank xs)
content_at (Ready line) s text whole xs = Ok nothing

-- the same within the limit of the line
abbrev pub within_at : Place → Scan → List ℕ → Bool → List ℕ → Result Progress LineFault
within_at place s text whole xs =
    cond (ltb 33554432 (s.read + length xs)) (on_ok (content_at place s text false (take (33554432 - s.read) xs)) (λ p. Err (LineTooLong s.line))) (content_at place s text whole xs)

-- what the line says, by its rest
abbrev pub line_left : Place → Scan → List ℕ → Bool → List ℕ → Result (Option Line) LineFault
line_left place s text whole xs = on_ok (within_at place s text whole xs) (λ p. line_end whole p s.line)

-- from the start of the line this is what the line says
pub line_left_at_start : (line : ℕ) (whole : Bool) (xs : List ℕ) → line_left LineStart (line_start line) [] whole xs ≡ line_step line whole xs
line_left_at_start line whole xs =
    ap (λ n. on_ok (cond (ltb 33554432 n) (on_ok (judge_content line false (take 33554432 xs)) (λ p. Err (LineTooLong line))) (judge_content line whole xs)) (λ p. line_end whole p line))
    (let e : 0 + length xs ≡ length xs = omega arith in e)

-- what a byte takes off the room of a line
taken : (s t : Scan) (b : ℕ) (xs : List ℕ) → s.read < 33554432 → t.read ≡ s.read + 1 → take (33554432 - s.read) (b ∷ xs) ≡ b ∷ take (33554432 - t.read) xs
taken s t b xs room more = ap (λ n. take n (b ∷ xs)) (let e : 33554432 - s.read ≡ suc (33554432 - t.read) = omega arith in e)

-- where a byte leads to another state of the same line
pub moved : (place next : Place) (s t : Scan) (text after : List ℕ) (whole : Bool) (b : ℕ) (xs : List ℕ) → s.read < 33554432 → t.read ≡ s.read + 1 → t.line ≡ s.line
    → ((w : Bool) (ys : List ℕ) → content_at place s text w (b ∷ ys) ≡ content_at next t after w ys) → line_left place s text whole (b ∷ xs) ≡ line_left next t after whole xs
moved place next s t text after whole b xs room more same each =
    ap (λ n. on_ok (cond (ltb 33554432 n) (long s.line (content_at place s text false (take (33554432 - s.read) (b ∷ xs)))) (content_at place s text whole (b ∷ xs))) (λ p. line_end whole p s.line))
    (let e : s.read + length (b ∷ xs) ≡ t.read + length xs = omega arith in e)
    ∙ ap (λ r. on_ok (cond (ltb 33554432 (t.read + length xs)) (long s.line r) (content_at place s text whole (b ∷ xs))) (λ p. line_end whole p s.line))
    (ap (content_at place s text false) (taken s t b xs room more) ∙ each false (take (33554432 - t.read) xs))
    ∙ ap (λ r. on_ok (cond (ltb 33554432 (t.read + length xs)) (long s.line (content_at next t after false (take (33554432 - t.read) xs))) r) (λ p. line_end whole p s.line)) (each whole xs)
    ∙ ap (λ line. on_ok (cond (ltb 33554432 (t.read + length xs)) (long line (content_at next t after false (take (33554432 - t.read) xs))) (content_at next t after whole xs)) (λ p. line_end whole p line)) (sym same)
  where
    long : ℕ → Result Progress LineFault → Result Progress LineFault
    long line r = on_ok r (λ p. Err (LineTooLong line))

-- where a byte is a fault, or behind it a token is
pub failed : (place : Place) (s : Scan) (text : List ℕ) (whole : Bool) (b : ℕ) (xs : List ℕ) (fault : LineFault) → s.read < 33554432
    → ((w : Bool) (ys : List ℕ) → content_at place s text w (b ∷ ys) ≡ Err fault) → line_left place s text whole (b ∷ xs) ≡ Err fault
failed place s text whole b xs fault room each =
    ap (λ r. on_ok (cond (ltb 33554432 (s.read + length (b ∷ xs))) (long r) (content_at place s text whole (b ∷ xs))) (λ p. line_end whole p s.line))
    (ap (content_at place s text false) (taken s (record s { read = s.read + 1 }) b xs room refl) ∙ each false (take (33554432 - (s.read + 1)) xs))
    ∙ ap (λ r. on_ok (cond (ltb 33554432 (s.read + length (b ∷ xs))) (long (Err fault)) r) (λ p. line_end whole p s.line)) (each whole xs)
    ∙ by (ltb 33554432 (s.read + length (b ∷ xs)))
  where
    long : Result Progress LineFault → Result Progress LineFault
    long r = on_ok r (λ p. Err (LineTooLong s.line))

    by : (t : Bool) → on_ok (cond t (long (Err fault)) (Err fault)) (λ p. line_end whole p s.line) ≡ Err fault
    by true = refl
    by false = refl

-- what is left of a line to judge where nothing is read any more: nothing
pub nothing_left : (place : Place) (s : Scan) (text : List ℕ) → on_ok (content_at place s text false []) (λ p. line_end false p s.line) ≡ Ok None
nothing_left LineStart s text = refl
nothing_left Comment s text = refl
nothing_left Tokens s text = refl
nothing_left (Ready line) s text = refl

-- a byte too many in its line
pub too_long : (place : Place) (s : Scan) (text : List ℕ) (whole : Bool) (b : ℕ) (xs : List ℕ) → s.read ≡ 33554432 → line_left place s text whole (b ∷ xs) ≡ Err (LineTooLong s.line)
too_long place s text whole b xs full =
    ap (λ t. on_ok (cond t (on_ok (content_at place s text false (take (33554432 - s.read) (b ∷ xs))) (λ p. Err (LineTooLong s.line))) (content_at place s text whole (b ∷ xs))) (λ p. line_end whole p s.line))
    (lt-ltb 33554432 (s.read + length (b ∷ xs)) (omega arith))
    ∙ ap (λ n. on_ok (on_ok (content_at place s text false (take n (b ∷ xs))) (λ p. Err (LineTooLong s.line))) (λ p. line_end whole p s.line)) (let e : 33554432 - s.read ≡ 0 = omega arith in e)
    ∙ by place
  where
    by : (q : Place) → on_ok (on_ok (content_at q s text false []) (λ p. let r : Result Progress LineFault = Err (LineTooLong s.line) in r)) (λ p. line_end whole p s.line) ≡ Err (LineTooLong s.line)
    by LineStart = refl
    by Comment = refl
    by Tokens = refl
    by (Ready line) = refl

-- at its end the line is within its limit
pub at_line_end : (place : Place) (s : Scan) (text : List ℕ) (whole : Bool) → s.read ≤ 33554432 → line_left place s text whole [] ≡ on_ok (content_at place s text whole []) (λ p. line_end whole p s.line)
at_line_end place s text whole few =
    ap (λ t. on_ok (cond t (on_ok (content_at place s text false (take (33554432 - s.read) [])) (λ p. Err (LineTooLong s.line))) (content_at place s text whole [])) (λ p. line_end whole p s.line))
    (le-ltb 33554432 (s.read + length {A = ℕ} []) (omega arith))
