-- The reader's steps over a comment.
use Rattle.std.proofs.Common.{◌≡◌, ℕ, suc, ◌+◌, ◌<◌, Bool, true, false, not, cond, List, [], ◌∷◌, length, get_or, drop, refl, sym, ap, ◌∙◌, arith, Result, Ok, Err}
use Rattle.std.proofs.lemmas.List.{drop_more}
use Rattle.std.proofs.lemmas.List.Sums.{passes_at_first}
use Rattle.std.specs.List.{position_or_len}
use Rattle.cnf_text.specs.declared.fault.CnfFault.{CnfFault}
use Rattle.cnf_text.specs.declared.scan.Place.{Place}
use Rattle.cnf_text.specs.declared.scan.Place.TheVariants.{LineStart, Comment, Tokens, Ended}
use Rattle.cnf_text.specs.declared.scan.Scan.{Scan}
use Rattle.lit_base.specs.Results.{on_ok}
use Rattle.lit_base.specs.Lines.{is_line_feed}
use Rattle.cnf_text.specs.Progress.{ProgressState}
use Rattle.cnf_text.specs.Judge.{judge_line_end}
use Rattle.cnf_text.specs.Machine.{end_line, step_at, steps, is_commented}

-- a byte of a comment that is no LF changes nothing
byte_passed : (place : Place) (s : Scan) (b : ℕ) → is_commented place ≡ true → is_line_feed b ≡ false → step_at place s b ≡ Ok s
byte_passed LineStart s b at no_feed = cc
byte_passed Comment s b at no_feed = ap (λ t. cond t (end_line s) (Ok s)) no_feed
byte_passed Tokens s b at no_feed = cc
byte_passed Ended s b at no_feed = cc

-- the bytes of a comment before its LF change nothing
pub comment_passed : (s : Scan) (bytes : List ℕ) → is_commented s.place ≡ true → steps s bytes ≡ steps s (drop (position_or_len is_line_feed bytes) bytes)
comment_passed s [] at = refl
comment_passed s (b ∷ bs) at = by (is_line_feed b) refl (comment_passed s bs at)
  where
    by : (t : Bool) → is_line_feed b ≡ t → steps s bs ≡ steps s (drop (position_or_len is_line_feed bs) bs) → steps s (b ∷ bs) ≡ steps s (drop (position_or_len is_line_feed (b ∷ bs)) (b ∷ bs))
    by true feed later = ap (λ t. steps s (drop (cond (not t) (1 + position_or_len is_line_feed bs) 0) (b ∷ bs))) (sym feed)
    by false no_feed later =
        ap (λ r. on_ok r (λ t. steps t bs)) (byte_passed s.place s b at no_feed)
        ∙ later
        ∙ ap (λ n. steps s (drop n (b ∷ bs))) (let more : suc (position_or_len is_line_feed bs) ≡ 1 + position_or_len is_line_feed bs = omega arith in more)
        ∙ ap (λ t. steps s (drop (cond (not t) (1 + position_or_len is_line_feed bs) 0) (b ∷ bs))) (sym no_feed)

-- an LF ends the comment
byte_ends : (place : Place) (s : Scan) (b : ℕ) → is_commented place ≡ true → is_line_feed b ≡ true → step_at place s b ≡ end_line s
byte_ends LineStart s b at feed = cc
byte_ends Comment s b at feed = ap (λ t. cond t (end_line s) (Ok s)) feed
byte_ends Tokens s b at feed = cc
byte_ends Ended s b at feed = cc

-- the steps over a comment and the LF that ends it
pub comment_ended : (s : Scan) (bytes : List ℕ) → is_commented s.place ≡ true → position_or_len is_line_feed bytes < length bytes
    → steps s bytes ≡ on_ok (end_line s) (λ t. steps t (drop (position_or_len is_line_feed bytes + 1) bytes))
comment_ended s bytes at more =
    let count : ℕ = position_or_len is_line_feed bytes in
    comment_passed s bytes at ∙ ap (steps s) (drop_more bytes count 0 more)
    ∙ ap (λ r. on_ok r (λ t. steps t (drop (count + 1) bytes))) (byte_ends s.place s (get_or bytes count 0) at (passes_at_first is_line_feed bytes 0 more))

-- behind the end of a line no comment goes on
pub no_comment_behind : (s after : Scan) → end_line s ≡ Ok after → is_commented after.place ≡ true → ⊥
no_comment_behind s after is at = by (judge_line_end s.progress.stage s.progress s.line) is
  where
    by : (r : Result ProgressState CnfFault) → on_ok r (λ p. Ok (record { line = s.line + 1; place = LineStart; token = []; progress = p })) ≡ Ok after → ⊥
    by (Ok p) same = let here : (let t : Scan = record { line = s.line + 1; place = LineStart; token = []; progress = p } in t) ≡ after = cc in
        let no : is_commented after.place ≡ false = ap (λ (t : Scan). is_commented t.place) (sym here) in cc
    by (Err fault) same = cc
