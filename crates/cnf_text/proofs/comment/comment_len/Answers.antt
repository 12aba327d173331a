use Rattle.std.proofs.Common.{◌≡◌, ℕ, Bool, true, false, List, length, refl, sym, ◌∙◌, arith, Option, Some, None, unwrap_or}
use Rattle.std.proofs.lemmas.List.Sums.{position_or_len_is}
use Rattle.std.specs.List.{position_or_len}
use Rattle.memchr.specs.Find.{IsFirstByte, is_byte}
use Rattle.lit_base.specs.Lines.{is_line_feed}
use Rattle.cnf_text.proofs.comment.comment_len.Goals as goal

no_is_false : (b : Bool) → (b ≡ true → ⊥) → b ≡ false
no_is_false true never = absurd (never refl)
no_is_false false never = refl

-- the place that was found, or the length
place_or_len : (bytes : List ℕ) (place : Option ℕ) → IsFirstByte (is_byte 10) bytes place → unwrap_or place (length bytes) ≡ position_or_len is_line_feed bytes
place_or_len bytes None none =
    sym (position_or_len_is is_line_feed bytes (length bytes) 0 (omega arith) (λ k less. no_is_false _ (none k (omega arith) less)) (λ less. absurd (omega arith)))
place_or_len bytes (Some place) first =
    sym (position_or_len_is is_line_feed bytes place 0 (omega (arith, first.0.high)) (λ k less. no_is_false _ (first.0.before k (omega arith) less)) (λ less. first.1))

pub returns : goal.returns
returns c = c.unwrap_or.ensures ∙ place_or_len c.args.bytes.now c.memchr.result c.memchr.ensures
