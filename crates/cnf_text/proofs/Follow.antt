-- The reader's steps follow the judgement of the pieces.
use Rattle.std.proofs.Common.{◌≡◌, ℕ, ◌+◌, ◌≤◌, ◌==◌, Bool, true, false, cond, leb, List, [], ◌∷◌, ◌++◌, length, refl, sym, ap, ◌∙◌, arith, length-append, Result, Ok, Err}
use Rattle.std.proofs.lemmas.Bool.{leb-true, leb-false}
use Rattle.cnf_text.specs.declared.fault.CnfFault.{CnfFault}
use Rattle.cnf_text.specs.declared.fault.CnfFault.TheVariants.{TooLong}
use Rattle.cnf_text.specs.declared.scan.Place.{Place}
use Rattle.cnf_text.specs.declared.scan.Place.TheVariants.{LineStart, Comment, Tokens, Ended}
use Rattle.cnf_text.specs.declared.scan.Scan.{Scan}
use Rattle.lit_base.specs.Parts.{Parts, parts_of}
use Rattle.lit_base.specs.Results.{on_ok}
use Rattle.lit_base.specs.Lines.{is_line_feed, is_blank}
use Rattle.cnf_text.specs.Pieces.{pieces}
use Rattle.cnf_text.specs.Progress.{ProgressState}
use Rattle.cnf_text.specs.Judge.{judge, judge_token, judge_line_end}
use Rattle.cnf_text.specs.Machine.{end_token, end_line, push_byte, step_at_start, step_in_comment, step_in_tokens, step_at, step, steps}
use Rattle.lit_base.proofs.LineParts.{parts_of_is, with_byte, solid_no_feed}
use Rattle.cnf_text.proofs.Lexing.{pieces_at, open_tokens, closing, is_more, blank_at_start, comment_at_start, end_at_start, token_at_start, blank_in_tokens, byte_in_tokens, long_token, line_feed_in_tokens}

-- what the lines of a text are judged as, where the reader stands here in front of them
abbrev pub judge_at_place : Place → Scan → Parts → Result ProgressState CnfFault
judge_at_place place s lines = judge s.progress (pieces_at place s.line s.token lines)

-- the reader stands where the judgement of each rest goes on
pub record Continues (s : Scan) (k : List ℕ → Result ProgressState CnfFault) : Type 0 where
  pub short : length s.token ≤ 64
  pub same : (rest : List ℕ) → k rest ≡ judge_at_place s.place s (parts_of is_line_feed rest)

-- the steps led to where the judgement goes on, or to its fault
abbrev pub Follows : Result Scan CnfFault → (List ℕ → Result ProgressState CnfFault) → Type 0
Follows (Ok s) k = Continues s k
Follows (Err fault) k = (rest : List ℕ) → k rest ≡ Err fault

follows_same : (r : Result Scan CnfFault) (k l : List ℕ → Result ProgressState CnfFault) → ((rest : List ℕ) → k rest ≡ l rest) → Follows r l → Follows r k
follows_same (Ok s) k l is follows = record { short = follows.short; same = λ rest. is rest ∙ follows.same rest }
follows_same (Err fault) k l is follows = λ rest. is rest ∙ follows rest

-- where the judgement goes on with a result
judged_follows : (r : Result ProgressState CnfFault) (next : ProgressState → Result Scan CnfFault) (k : List ℕ → Result ProgressState CnfFault) (l : ProgressState → List ℕ → Result ProgressState CnfFault)
    → ((rest : List ℕ) → k rest ≡ on_ok r (λ p. l p rest)) → ((p : ProgressState) → Follows (next p) (l p)) → Follows (on_ok r next) k
judged_follows (Ok p) next k l is follows = follows_same (next p) k (l p) is (follows p)
judged_follows (Err fault) next k l is follows = is

line_end_follows : (s : Scan) (k : List ℕ → Result ProgressState CnfFault)
    → ((rest : List ℕ) → k rest ≡ on_ok (judge_line_end s.progress.stage s.progress s.line) (λ p. judge p (pieces (s.line + 1) (parts_of is_line_feed rest).first (parts_of is_line_feed rest).others)))
    → Follows (end_line s) k
line_end_follows s k is =
    judged_follows (judge_line_end s.progress.stage s.progress s.line) (λ p. Ok (record { line = s.line + 1; place = LineStart; token = []; progress = p })) k
    (λ p rest. judge p (pieces (s.line + 1) (parts_of is_line_feed rest).first (parts_of is_line_feed rest).others)) is
    (λ p. record { short = omega arith; same = λ rest. refl })

-- what the rest is, as the steps have come to this place
abbrev Is : Place → Scan → (List ℕ → Result ProgressState CnfFault) → Type 0
Is place s k = (rest : List ℕ) → k rest ≡ judge_at_place place s (parts_of is_line_feed rest)

-- with one byte in front
ahead : (place : Place) (s : Scan) (k : List ℕ → Result ProgressState CnfFault) (b : ℕ) (t : Bool) → Is place s k → is_line_feed b ≡ t
    → (rest : List ℕ) → k (b ∷ rest) ≡ judge_at_place place s (with_byte t b (parts_of is_line_feed rest))
ahead place s k b t is feed rest = is (b ∷ rest) ∙ ap (judge_at_place place s) (parts_of_is is_line_feed b rest t feed)

at_start : (s : Scan) (k : List ℕ → Result ProgressState CnfFault) (b : ℕ) → s.place ≡ LineStart → length s.token ≤ 64 → Is LineStart s k → Follows (step_at_start s b) (λ rest. k (b ∷ rest))
at_start s k b place short is = by_feed (is_line_feed b) refl
  where
    by_end : (t : Bool) → (b == 37) ≡ t → is_line_feed b ≡ false → is_blank b ≡ false → (b == 99) ≡ false
        → Follows (cond t (Ok (record s { place = Ended })) (Ok (record s { place = Tokens; token = b ∷ [] }))) (λ rest. k (b ∷ rest))
    by_end true end feed solid comment = record {
      short = short;
      same = λ rest. ahead LineStart s k b false is feed rest ∙ ap (judge s.progress) (end_at_start s.line b (parts_of is_line_feed rest).first (parts_of is_line_feed rest).others solid end);
    }
    by_end false end feed solid comment = record {
      short = omega arith;
      same = λ rest. ahead LineStart s k b false is feed rest ∙ ap (judge s.progress) (token_at_start s.line b (parts_of is_line_feed rest).first (parts_of is_line_feed rest).others solid comment end);
    }

    by_comment : (t : Bool) → (b == 99) ≡ t → is_line_feed b ≡ false → is_blank b ≡ false
        → Follows (cond t (Ok (record s { place = Comment })) (cond (b == 37) (Ok (record s { place = Ended })) (Ok (record s { place = Tokens; token = b ∷ [] })))) (λ rest. k (b ∷ rest))
    by_comment true comment feed solid = record {
      short = short;
      same = λ rest. ahead LineStart s k b false is feed rest ∙ ap (judge s.progress) (comment_at_start s.line b (parts_of is_line_feed rest).first (parts_of is_line_feed rest).others solid comment);
    }
    by_comment false comment feed solid = by_end (b == 37) refl feed solid comment

    by_blank : (t : Bool) → is_blank b ≡ t → is_line_feed b ≡ false
        → Follows (cond t (Ok s) (cond (b == 99) (Ok (record s { place = Comment })) (cond (b == 37) (Ok (record s { place = Ended })) (Ok (record s { place = Tokens; token = b ∷ [] }))))) (λ rest. k (b ∷ rest))
    by_blank true blank feed = record {
      short = short;
      same = λ rest. ahead LineStart s k b false is feed rest ∙ blank_at_start s.progress s.line b (parts_of is_line_feed rest).first (parts_of is_line_feed rest).others blank
          ∙ ap (λ p. judge_at_place p s (parts_of is_line_feed rest)) (sym place);
    }
    by_blank false solid feed = by_comment (b == 99) refl feed solid

    by_feed : (t : Bool) → is_line_feed b ≡ t
        → Follows (cond t (end_line s) (cond (is_blank b) (Ok s) (cond (b == 99) (Ok (record s { place = Comment })) (cond (b == 37) (Ok (record s { place = Ended })) (Ok (record s { place = Tokens; token = b ∷ [] })))))) (λ rest. k (b ∷ rest))
    by_feed true feed = line_end_follows s (λ rest. k (b ∷ rest)) (ahead LineStart s k b true is feed)
    by_feed false feed = by_blank (is_blank b) refl feed

in_comment : (s : Scan) (k : List ℕ → Result ProgressState CnfFault) (b : ℕ) → s.place ≡ Comment → length s.token ≤ 64 → Is Comment s k → Follows (step_in_comment s b) (λ rest. k (b ∷ rest))
in_comment s k b place short is = by (is_line_feed b) refl
  where
    by : (t : Bool) → is_line_feed b ≡ t → Follows (cond t (end_line s) (Ok s)) (λ rest. k (b ∷ rest))
    by true feed = line_end_follows s (λ rest. k (b ∷ rest)) (ahead Comment s k b true is feed)
    by false feed = record {
      short = short;
      same = λ rest. ahead Comment s k b false is feed rest ∙ ap (λ p. judge_at_place p s (parts_of is_line_feed rest)) (sym place);
    }

in_tokens : (s : Scan) (k : List ℕ → Result ProgressState CnfFault) (b : ℕ) → s.place ≡ Tokens → length s.token ≤ 64 → Is Tokens s k → Follows (step_in_tokens s b) (λ rest. k (b ∷ rest))
in_tokens s k b place short is = by_blank (is_blank b) refl
  where
    closes : (p : ProgressState) → Follows (end_line (record s { token = []; progress = p })) (λ rest. on_ok (judge_line_end p.stage p s.line) (λ q. judge q (pieces (s.line + 1) (parts_of is_line_feed rest).first (parts_of is_line_feed rest).others)))
    closes p = line_end_follows (record s { token = []; progress = p }) (λ rest. on_ok (judge_line_end p.stage p s.line) (λ q. judge q (pieces (s.line + 1) (parts_of is_line_feed rest).first (parts_of is_line_feed rest).others))) (λ rest. refl)

    feeds : is_line_feed b ≡ true → Follows (on_ok (on_ok (judge_token s.progress s.token s.line) (λ p. Ok (record s { token = []; progress = p }))) end_line) (λ rest. k (b ∷ rest))
    feeds feed = through (judge_token s.progress s.token s.line) (λ rest. ahead Tokens s k b true is feed rest ∙ line_feed_in_tokens s.progress s.line s.token (parts_of is_line_feed rest).first (parts_of is_line_feed rest).others short)
      where
        through : (r : Result ProgressState CnfFault) → ((rest : List ℕ) → k (b ∷ rest) ≡ on_ok r (λ q. on_ok (judge_line_end q.stage q s.line) (λ u. judge u (pieces (s.line + 1) (parts_of is_line_feed rest).first (parts_of is_line_feed rest).others))))
            → Follows (on_ok (on_ok r (λ p. Ok (record s { token = []; progress = p }))) end_line) (λ rest. k (b ∷ rest))
        through (Ok p) same = follows_same (end_line (record s { token = []; progress = p })) (λ rest. k (b ∷ rest)) (λ rest. on_ok (judge_line_end p.stage p s.line) (λ q. judge q (pieces (s.line + 1) (parts_of is_line_feed rest).first (parts_of is_line_feed rest).others))) same (closes p)
        through (Err fault) same = same

    ends : is_line_feed b ≡ false → is_blank b ≡ true → Follows (end_token s) (λ rest. k (b ∷ rest))
    ends feed blank =
        judged_follows (judge_token s.progress s.token s.line) (λ p. Ok (record s { token = []; progress = p })) (λ rest. k (b ∷ rest))
        (λ p rest. judge p (pieces_at Tokens s.line [] (parts_of is_line_feed rest)))
        (λ rest. ahead Tokens s k b false is feed rest ∙ blank_in_tokens s.progress s.line b (is_more (parts_of is_line_feed rest).others) s.token (parts_of is_line_feed rest).first (closing s.line (parts_of is_line_feed rest).others) blank short)
        (λ p. record { short = omega arith; same = λ rest. ap (λ q. judge p (pieces_at q s.line [] (parts_of is_line_feed rest))) (sym place) })

    grows : (t : Bool) → leb 64 (length s.token) ≡ t → is_line_feed b ≡ false → is_blank b ≡ false
        → Follows (cond t (Err (TooLong s.line)) (Ok (record s { token = s.token ++ b ∷ [] }))) (λ rest. k (b ∷ rest))
    grows true full feed solid = λ rest.
        ahead Tokens s k b false is feed rest
        ∙ ap (λ xs. judge s.progress (xs ++ closing s.line (parts_of is_line_feed rest).others)) (ap (open_tokens s.line (is_more (parts_of is_line_feed rest).others) s.token) (parts_of_is is_blank b (parts_of is_line_feed rest).first false solid))
        ∙ long_token s.progress s.line (is_more (parts_of is_line_feed rest).others) (s.token ++ b ∷ (parts_of is_blank (parts_of is_line_feed rest).first).first) (parts_of is_blank (parts_of is_line_feed rest).first).others (closing s.line (parts_of is_line_feed rest).others)
        (omega (arith, leb-true 64 (length s.token) full, length-append s.token (b ∷ (parts_of is_blank (parts_of is_line_feed rest).first).first)))
    grows false room feed solid = record {
      short = omega (arith, leb-false 64 (length s.token) room, length-append s.token (b ∷ []));
      same = λ rest. ahead Tokens s k b false is feed rest
          ∙ ap (λ xs. judge s.progress (xs ++ closing s.line (parts_of is_line_feed rest).others)) (byte_in_tokens s.line b (is_more (parts_of is_line_feed rest).others) s.token (parts_of is_line_feed rest).first solid)
          ∙ ap (λ q. judge s.progress (pieces_at q s.line (s.token ++ b ∷ []) (parts_of is_line_feed rest))) (sym place);
    }

    by_line : (t : Bool) → is_line_feed b ≡ t → is_blank b ≡ true → Follows (cond t (on_ok (end_token s) end_line) (end_token s)) (λ rest. k (b ∷ rest))
    by_line true feed blank = feeds feed
    by_line false feed blank = ends feed blank

    by_blank : (t : Bool) → is_blank b ≡ t → Follows (cond t (cond (is_line_feed b) (on_ok (end_token s) end_line) (end_token s)) (push_byte s b)) (λ rest. k (b ∷ rest))
    by_blank true blank = by_line (is_line_feed b) refl blank
    by_blank false solid = grows (leb 64 (length s.token)) refl (solid_no_feed b solid) solid

step_by : (place : Place) (s : Scan) (k : List ℕ → Result ProgressState CnfFault) (b : ℕ) → s.place ≡ place → length s.token ≤ 64 → Is place s k → Follows (step_at place s b) (λ rest. k (b ∷ rest))
step_by LineStart s k b at short is = at_start s k b at short is
step_by Comment s k b at short is = in_comment s k b at short is
step_by Tokens s k b at short is = in_tokens s k b at short is
step_by Ended s k b at short is = record { short = short; same = λ rest. is (b ∷ rest) ∙ sym (ap (λ p. judge_at_place p s (parts_of is_line_feed rest)) at) }

-- one step follows the judgement
pub step_follows : (s : Scan) (k : List ℕ → Result ProgressState CnfFault) (b : ℕ) → Continues s k → Follows (step s b) (λ rest. k (b ∷ rest))
step_follows s k b continues = step_by s.place s k b refl continues.short continues.same

-- all steps follow the judgement
pub steps_follow : (s : Scan) (k : List ℕ → Result ProgressState CnfFault) (bytes : List ℕ) → Continues s k → Follows (steps s bytes) (λ rest. k (bytes ++ rest))
steps_follow s k [] continues = continues
steps_follow s k (b ∷ bs) continues =
    next (step s b) (λ t follows. steps_follow t (λ rest. k (b ∷ rest)) bs follows) (step_follows s k b continues)
  where
    next : (r : Result Scan CnfFault) → ((t : Scan) → Continues t (λ rest. k (b ∷ rest)) → Follows (steps t bs) (λ rest. k (b ∷ (bs ++ rest))))
        → Follows r (λ rest. k (b ∷ rest)) → Follows (on_ok r (λ t. steps t bs)) (λ rest. k (b ∷ (bs ++ rest)))
    next (Ok t) more follows = more t follows
    next (Err fault) more follows = λ rest. follows (bs ++ rest)
