-- The pieces of a text, one byte more in front.
use Rattle.std.proofs.Common.{◌≡◌, ℕ, ◌+◌, ◌≤◌, ◌<◌, ◌==◌, Bool, true, false, cond, List, [], ◌∷◌, ◌++◌, length, refl, sym, ap, ◌∙◌, arith, append_assoc, append-nil, Option, Some, Ok, Err}
use Rattle.std.proofs.lemmas.Bool.{lt-ltb, le-ltb, eqb-true, ne_eqb}
use Rattle.cnf_text.specs.declared.fault.CnfFault.TheVariants.{TooLong}
use Rattle.cnf_text.specs.declared.scan.Place.{Place}
use Rattle.cnf_text.specs.declared.scan.Place.TheVariants.{LineStart, Comment, Tokens, Ended}
use Rattle.lit_base.specs.Parts.{Parts, parts_of}
use Rattle.lit_base.specs.Results.{on_ok}
use Rattle.lit_base.specs.Lines.{is_blank, mark_of, is_comment}
use Rattle.cnf_text.specs.Pieces.{Piece, Token, LineEnd, is_end, tokens, line_tokens, pieces}
use Rattle.lit_base.proofs.LineParts.{parts_of_is, mark_blank, mark_other}
use Rattle.cnf_text.specs.Progress.{ProgressState}
use Rattle.cnf_text.specs.Judge.{judge, judge_bytes, judge_token, judge_line_end}

-- what stands behind a line
abbrev pub closing : ℕ → List (List ℕ) → List Piece
closing line [] = []
closing line (next ∷ more) = LineEnd line ∷ pieces (line + 1) next more

-- whether an LF stands behind a line
abbrev pub is_more : List (List ℕ) → Bool
is_more [] = false
is_more (next ∷ more) = true

-- the tokens of the rest of a line in which a token is open
abbrev pub open_tokens : ℕ → Bool → List ℕ → Parts → List Piece
open_tokens line whole token parts = tokens line whole (token ++ parts.first) parts.others

-- the pieces of a line with this mark and these tokens, and of what stands behind it
abbrev pub pieces_by : Option ℕ → ℕ → Bool → Parts → List Piece → List Piece
pieces_by mark line whole parts behind =
    cond (is_end mark) [] (cond (is_comment mark) [] (tokens line whole parts.first parts.others) ++ behind)

pub pieces_is : (line : ℕ) (bytes : List ℕ) (others : List (List ℕ)) → pieces line bytes others ≡ pieces_by (mark_of bytes) line (is_more others) (parts_of is_blank bytes) (closing line others)
pieces_is line bytes [] = ap (λ xs. cond (is_end (mark_of bytes)) [] xs) (sym (append-nil (line_tokens line false bytes)))
pieces_is line bytes (next ∷ more) = refl

-- the pieces that are left, by where the next byte stands, and the lines of what is left
abbrev pub pieces_at : Place → ℕ → List ℕ → Parts → List Piece
pieces_at LineStart line token lines = pieces line lines.first lines.others
pieces_at Comment line token lines = closing line lines.others
pieces_at Tokens line token lines = open_tokens line (is_more lines.others) token (parts_of is_blank lines.first) ++ closing line lines.others
pieces_at Ended line token lines = []

-- an empty token more is judged as nothing
empty_first : (p : ProgressState) (mark : Option ℕ) (line : ℕ) (whole : Bool) (parts : Parts) (behind : List Piece)
    → judge p (pieces_by mark line whole (record { first = []; others = parts.first ∷ parts.others }) behind) ≡ judge p (pieces_by mark line whole parts behind)
empty_first p mark line whole parts behind = by (is_end mark) (is_comment mark)
  where
    by : (t u : Bool) → judge p (cond t [] (cond u [] (Token line true [] ∷ tokens line whole parts.first parts.others) ++ behind)) ≡ judge p (cond t [] (cond u [] (tokens line whole parts.first parts.others) ++ behind))
    by true u = refl
    by false true = refl
    by false false = refl

-- a blank at the start of a line means nothing
pub blank_at_start : (p : ProgressState) (line b : ℕ) (bytes : List ℕ) (others : List (List ℕ)) → is_blank b ≡ true → judge p (pieces line (b ∷ bytes) others) ≡ judge p (pieces line bytes others)
blank_at_start p line b bytes others is =
    ap (judge p) (pieces_is line (b ∷ bytes) others)
    ∙ ap (λ m. judge p (pieces_by m line (is_more others) (parts_of is_blank (b ∷ bytes)) (closing line others))) (mark_blank b bytes is)
    ∙ ap (λ (q : Parts). judge p (pieces_by (mark_of bytes) line (is_more others) q (closing line others))) (parts_of_is is_blank b bytes true is)
    ∙ empty_first p (mark_of bytes) line (is_more others) (parts_of is_blank bytes) (closing line others)
    ∙ sym (ap (judge p) (pieces_is line bytes others))

-- a line by its first byte that is no blank
marked : (line b : ℕ) (bytes : List ℕ) (others : List (List ℕ)) → is_blank b ≡ false
    → pieces line (b ∷ bytes) others ≡ cond (b == 37) [] (cond (b == 99) [] (open_tokens line (is_more others) (b ∷ []) (parts_of is_blank bytes)) ++ closing line others)
marked line b bytes others is =
    pieces_is line (b ∷ bytes) others
    ∙ ap (λ m. pieces_by m line (is_more others) (parts_of is_blank (b ∷ bytes)) (closing line others)) (mark_other b bytes is)
    ∙ ap (λ (q : Parts). pieces_by (Some b) line (is_more others) q (closing line others)) (parts_of_is is_blank b bytes false is)

pub comment_at_start : (line b : ℕ) (bytes : List ℕ) (others : List (List ℕ)) → is_blank b ≡ false → (b == 99) ≡ true → pieces line (b ∷ bytes) others ≡ closing line others
comment_at_start line b bytes others solid is =
    marked line b bytes others solid
    ∙ ap (λ t. cond t [] (cond (b == 99) [] (open_tokens line (is_more others) (b ∷ []) (parts_of is_blank bytes)) ++ closing line others)) (ne_eqb b 37 (λ e. omega (arith, eqb-true b 99 is)))
    ∙ ap (λ t. cond t [] (open_tokens line (is_more others) (b ∷ []) (parts_of is_blank bytes)) ++ closing line others) is

pub end_at_start : (line b : ℕ) (bytes : List ℕ) (others : List (List ℕ)) → is_blank b ≡ false → (b == 37) ≡ true → pieces line (b ∷ bytes) others ≡ []
end_at_start line b bytes others solid is =
    marked line b bytes others solid
    ∙ ap (λ t. cond t [] (cond (b == 99) [] (open_tokens line (is_more others) (b ∷ []) (parts_of is_blank bytes)) ++ closing line others)) is

pub token_at_start : (line b : ℕ) (bytes : List ℕ) (others : List (List ℕ)) → is_blank b ≡ false → (b == 99) ≡ false → (b == 37) ≡ false
    → pieces line (b ∷ bytes) others ≡ open_tokens line (is_more others) (b ∷ []) (parts_of is_blank bytes) ++ closing line others
token_at_start line b bytes others solid no_comment no_end =
    marked line b bytes others solid
    ∙ ap (λ t. cond t [] (cond (b == 99) [] (open_tokens line (is_more others) (b ∷ []) (parts_of is_blank bytes)) ++ closing line others)) no_end
    ∙ ap (λ t. cond t [] (open_tokens line (is_more others) (b ∷ []) (parts_of is_blank bytes)) ++ closing line others) no_comment

-- a token of at most 64 bytes is judged when it is whole
pub short_judged : (p : ProgressState) (token : List ℕ) (line : ℕ) → length token ≤ 64 → judge_bytes p true (token ++ []) line ≡ judge_token p token line
short_judged p token line short =
    ap (λ t. judge_bytes p true t line) (append-nil token)
    ∙ ap (λ t. cond t (Err (TooLong line)) (judge_token p token line)) (le-ltb 64 (length token) short)

-- a blank ends the open token
pub blank_in_tokens : (p : ProgressState) (line b : ℕ) (whole : Bool) (token bytes : List ℕ) (behind : List Piece) → is_blank b ≡ true → length token ≤ 64
    → judge p (open_tokens line whole token (parts_of is_blank (b ∷ bytes)) ++ behind) ≡ on_ok (judge_token p token line) (λ q. judge q (open_tokens line whole [] (parts_of is_blank bytes) ++ behind))
blank_in_tokens p line b whole token bytes behind is short =
    ap (λ (q : Parts). judge p (open_tokens line whole token q ++ behind)) (parts_of_is is_blank b bytes true is)
    ∙ ap (λ r. on_ok r (λ q. judge q (open_tokens line whole [] (parts_of is_blank bytes) ++ behind))) (short_judged p token line short)

-- another byte is one more of the open token
pub byte_in_tokens : (line b : ℕ) (whole : Bool) (token bytes : List ℕ) → is_blank b ≡ false
    → open_tokens line whole token (parts_of is_blank (b ∷ bytes)) ≡ open_tokens line whole (token ++ b ∷ []) (parts_of is_blank bytes)
byte_in_tokens line b whole token bytes is =
    ap (open_tokens line whole token) (parts_of_is is_blank b bytes false is)
    ∙ ap (λ t. tokens line whole t (parts_of is_blank bytes).others) (sym (append_assoc token (b ∷ []) (parts_of is_blank bytes).first))

-- a token of more than 64 bytes is a fault
pub long_token : (p : ProgressState) (line : ℕ) (whole : Bool) (token : List ℕ) (others : List (List ℕ)) (behind : List Piece) → 64 < length token
    → judge p (tokens line whole token others ++ behind) ≡ Err (TooLong line)
long_token p line whole token [] behind long =
    ap (λ t. on_ok (cond t (Err (TooLong line)) (cond whole (judge_token p token line) (Ok p))) (λ q. judge q behind)) (lt-ltb 64 (length token) long)
long_token p line whole token (next ∷ more) behind long =
    ap (λ t. on_ok (cond t (Err (TooLong line)) (judge_token p token line)) (λ q. judge q (tokens line whole next more ++ behind))) (lt-ltb 64 (length token) long)

-- LF ends the open token and the line
pub line_feed_in_tokens : (p : ProgressState) (line : ℕ) (token next : List ℕ) (more : List (List ℕ)) → length token ≤ 64
    → judge p (pieces_at Tokens line token (record { first = []; others = next ∷ more }))
    ≡ on_ok (judge_token p token line) (λ q. on_ok (judge_line_end q.stage q line) (λ r. judge r (pieces (line + 1) next more)))
line_feed_in_tokens p line token next more short =
    ap (λ r. on_ok r (λ q. on_ok (judge_line_end q.stage q line) (λ u. judge u (pieces (line + 1) next more)))) (short_judged p token line short)
