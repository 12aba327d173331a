-- What a reader has read, and what it answers.
use Rattle.std.proofs.Common.{◌≡◌, ℕ, ◌+◌, ◌≤◌, ◌<◌, ◌⊎◌, inl, inr, Bool, true, false, cond, ltb, List, [], ◌++◌, length, take, min, refl, sym, ap, ◌∙◌, subst, arith, append-nil, length-append, length-take, Option, Some, None, Result, Ok, Err}
use Rattle.std.proofs.lemmas.Bool.{lt-ltb, le-ltb, ltb-true, ltb-false}
use Rattle.std.proofs.lemmas.List.{take_all}
use Rattle.lit_base.specs.Parts.{parts_of}
use Rattle.lit_base.specs.Lines.{is_line_feed}
use Rattle.lit_base.specs.Results.{on_ok}
use Rattle.lit_base.specs.declared.proof.Line.{Line}
use Rattle.lit_base.proofs.LineParts.{take_both}
use Rattle.lrat_text.specs.declared.fault.LineFault.{LineFault}
use Rattle.lrat_text.specs.declared.fault.LineFault.TheVariants.{ProofTooLong}
use Rattle.lrat_text.specs.declared.stage.Stage.{Stage}
use Rattle.lrat_text.specs.declared.stage.Stage.TheVariants.{Start, AfterId, Literals, Hints, Ids, Added, Deleted}
use Rattle.lrat_text.specs.declared.token.Token.TheVariants.{Empty}
use Rattle.lrat_text.specs.declared.progress.Progress.{Progress}
use Rattle.lrat_text.specs.declared.scan.Place.{Place}
use Rattle.lrat_text.specs.declared.scan.Place.TheVariants.{LineStart, Comment, Tokens, Ready}
use Rattle.lrat_text.specs.declared.scan.Scan.{Scan}
use Rattle.lrat_text.specs.Faults.{OnFault}
use Rattle.lrat_text.specs.Class.{class_of, capped}
use Rattle.lrat_text.specs.Judge.{judge_class, judge_token, line_end_at}
use Rattle.lrat_text.specs.Reading.{Steps, no_steps, with_line, steps_in, within, end_line_of, with_long_fault, steps_of, early_steps, proof_steps}
use Rattle.lrat_text.specs.State.{ReaderState}
use Rattle.lrat_text.specs.Machine.{start, step_feed, close_line, end_line, step, step_at, Outcome, no_more, read, line_at, is_ready, room_of, ReadsTooMany, FaultOn, PieceTaken, EndRead}
use Rattle.lrat_text.specs.Reader.{HasRead, Takes, Ends}
use Rattle.lrat_text.proofs.Results.{OnFault-weaker}
use Rattle.lrat_text.proofs.Classes.{token_judged}
use Rattle.lrat_text.proofs.Content.{nothing_left, at_line_end, line_left}
use Rattle.lrat_text.proofs.Follow.{FollowsTo, read_follows, start_continues, text_left, text_from, behind_lines}
use Rattle.lrat_text.proofs.Outcomes.{read_behind, line_here}

-- what stands behind all bytes that were read: nothing more
nothing_behind : (place : Place) (s : Scan) (text : List ℕ) → s.read ≤ 33554432 → text_left false place s text (record { first = []; others = [] }) ≡ no_steps
nothing_behind place s text few =
    ap (λ r. with_line r no_steps) (at_line_end place s text false few ∙ nothing_left place s text)

-- what a text says whose bytes lead to these lines and this state, and which goes on
pub said_early : (bytes : List ℕ) (lines : List Line) (s : Scan) → read start bytes ≡ record { lines = lines; last = Ok s } → steps_in false (parts_of is_line_feed bytes) ≡ record { lines = lines; fault = None }
said_early bytes lines s is =
    by (subst (λ (o : Outcome). FollowsTo false o.lines o.last (λ rest. text_from false 1 (bytes ++ rest))) is (read_follows false start (text_from false 1) bytes refl (start_continues false 1)))
  where
    by : FollowsTo false lines (Ok s) (λ rest. text_from false 1 (bytes ++ rest)) → steps_in false (parts_of is_line_feed bytes) ≡ record { lines = lines; fault = None }
    by follows =
        let c = follows.2 in
        ap (λ (xs : List ℕ). text_from false 1 xs) (sym (append-nil bytes)) ∙ follows.3 []
        ∙ ap (behind_lines lines) (c.same [] ∙ nothing_behind s.place s c.text c.few)
        ∙ ap (λ (ls : List Line). let t : Steps = record { lines = ls; fault = None } in t) (append-nil lines)

-- or to a fault, whether it goes on or ends
pub said_fault : (ended : Bool) (bytes : List ℕ) (lines : List Line) (fault : LineFault) → read start bytes ≡ record { lines = lines; last = Err fault }
    → steps_in ended (parts_of is_line_feed bytes) ≡ record { lines = lines; fault = Some fault }
said_fault ended bytes lines fault is =
    by (subst (λ (o : Outcome). FollowsTo ended o.lines o.last (λ rest. text_from ended 1 (bytes ++ rest))) is (read_follows ended start (text_from ended 1) bytes refl (start_continues ended 1)))
  where
    by : FollowsTo ended lines (Err fault) (λ rest. text_from ended 1 (bytes ++ rest)) → steps_in ended (parts_of is_line_feed bytes) ≡ record { lines = lines; fault = Some fault }
    by follows = ap (λ (xs : List ℕ). text_from ended 1 xs) (sym (append-nil bytes)) ∙ follows []

-- the last line of a whole text, by the LF that it lacks
abbrev pub last_by : Result Scan LineFault → Steps
last_by (Ok s) = with_line (Ok (line_at s.place s)) no_steps
last_by (Err fault) = record { lines = []; fault = Some fault }

-- what the end of a line of tokens says is what the state behind it hands out
closed_says : (stage : Stage) (s : Scan) → s.progress.stage ≡ stage → with_line (line_end_at stage s.progress s.line) no_steps ≡ last_by (close_line stage s)
closed_says Start s at = refl
closed_says AfterId s at = refl
closed_says Literals s at = refl
closed_says Hints s at = refl
closed_says Ids s at = refl
closed_says Added s at = ap (λ stage. with_line (Ok (Some (record { line = s.line; step = step_at stage s.progress }))) no_steps) (sym at)
closed_says Deleted s at = ap (λ stage. with_line (Ok (Some (record { line = s.line; step = step_at stage s.progress }))) no_steps) (sym at)

-- a line that ends with the text says what the LF behind it would lead to
feed_says : (place : Place) (s : Scan) (text : List ℕ) → s.token ≡ capped (class_of text) → s.read ≤ 33554432 → is_ready place ≡ false
    → with_line (line_left place s text true []) no_steps ≡ last_by (step_feed place s)
feed_says LineStart s text token few idle = ap (λ r. with_line r no_steps) (at_line_end LineStart s text true few)
feed_says Comment s text token few idle = ap (λ r. with_line r no_steps) (at_line_end Comment s text true few)
feed_says Tokens s text token few idle =
    ap (λ r. with_line r no_steps) (at_line_end Tokens s text true few)
    ∙ ap (λ (t : List ℕ). with_line (on_ok (judge_token s.progress t s.line) (λ p. line_end_at p.stage p s.line)) no_steps) (append-nil text)
    ∙ ap (λ r. with_line (on_ok r (λ p. line_end_at p.stage p s.line)) no_steps) (token_judged s.progress s.token text s.line token)
    ∙ by (judge_class s.token s.progress s.line)
  where
    by : (r : Result Progress LineFault) → with_line (on_ok r (λ p. line_end_at p.stage p s.line)) no_steps ≡ last_by (on_ok (on_ok r (λ p. Ok (record s { token = Empty; progress = p }))) end_line)
    by (Ok p) = closed_says p.stage (record s { token = Empty; progress = p }) refl
    by (Err fault) = refl
feed_says (Ready line) s text token few idle = cc

-- what a whole text says whose bytes lead to these lines and this state
pub said_whole : (bytes : List ℕ) (lines : List Line) (s : Scan) → read start bytes ≡ record { lines = lines; last = Ok s } → steps_in true (parts_of is_line_feed bytes) ≡ behind_lines lines (last_by (step s 10))
said_whole bytes lines s is =
    by (subst (λ (o : Outcome). FollowsTo true o.lines o.last (λ rest. text_from true 1 (bytes ++ rest))) is (read_follows true start (text_from true 1) bytes refl (start_continues true 1)))
  where
    by : FollowsTo true lines (Ok s) (λ rest. text_from true 1 (bytes ++ rest)) → steps_in true (parts_of is_line_feed bytes) ≡ behind_lines lines (last_by (step s 10))
    by follows =
        let c = follows.2 in
        ap (λ (xs : List ℕ). text_from true 1 xs) (sym (append-nil bytes)) ∙ follows.3 []
        ∙ ap (behind_lines lines) (c.same [] ∙ feed_says s.place s c.text c.token c.few follows.1)

-- the bytes that may be read of a text and a piece behind it
pub within_more : (bytes piece : List ℕ) → within (bytes ++ piece) ≡ within bytes ++ room_of (length (within bytes)) piece
unfolding within
within_more bytes piece = take_both 1099511627776 bytes piece

pub within_all : (bytes : List ℕ) → length bytes ≤ 1099511627776 → within bytes ≡ bytes
unfolding within
within_all bytes few = take_all 1099511627776 bytes few

pub within_length : (bytes : List ℕ) → length (within bytes) ≡ min 1099511627776 (length bytes)
unfolding within
within_length bytes = length-take 1099511627776 bytes

-- behind bytes of which there aren't too many
within_room : (bytes piece : List ℕ) → length bytes ≤ 1099511627776 → within (bytes ++ piece) ≡ bytes ++ room_of (length bytes) piece
within_room bytes piece few = within_more bytes piece ∙ ap (λ (xs : List ℕ). xs ++ room_of (length xs) piece) (within_all bytes few)

-- a text that isn't too long
pub short_steps : (ended : Bool) (bytes : List ℕ) → length bytes ≤ 1099511627776 → steps_of ended bytes ≡ steps_in ended (parts_of is_line_feed bytes)
unfolding steps_of
short_steps ended bytes few =
    ap (λ t. cond t (with_long_fault (within bytes) (steps_in false (parts_of is_line_feed (within bytes)))) (steps_in ended (parts_of is_line_feed bytes))) (le-ltb 1099511627776 (length bytes) few)

-- a text that is too long
pub long_steps : (ended : Bool) (bytes : List ℕ) → 1099511627776 < length bytes → steps_of ended bytes ≡ with_long_fault (within bytes) (steps_in false (parts_of is_line_feed (within bytes)))
unfolding steps_of
long_steps ended bytes long =
    ap (λ t. cond t (with_long_fault (within bytes) (steps_in false (parts_of is_line_feed (within bytes)))) (steps_in ended (parts_of is_line_feed bytes))) (lt-ltb 1099511627776 (length bytes) long)

-- where reading as many bytes as may be meets a fault, that is the text's
pub fault_steps : (ended : Bool) (bytes : List ℕ) (lines : List Line) (fault : LineFault) → read start (within bytes) ≡ record { lines = lines; last = Err fault }
    → steps_of ended bytes ≡ record { lines = lines; fault = Some fault }
fault_steps ended bytes lines fault is = by (ltb 1099511627776 (length bytes)) refl
  where
    by : (t : Bool) → ltb 1099511627776 (length bytes) ≡ t → steps_of ended bytes ≡ record { lines = lines; fault = Some fault }
    by true long =
        long_steps ended bytes (ltb-true 1099511627776 (length bytes) long) ∙ ap (with_long_fault (within bytes)) (said_fault false (within bytes) lines fault is)
    by false short =
        let few : length bytes ≤ 1099511627776 = ltb-false 1099511627776 (length bytes) short in
        short_steps ended bytes few ∙ ap (λ (xs : List ℕ). steps_in ended (parts_of is_line_feed xs)) (sym (within_all bytes few)) ∙ said_fault ended (within bytes) lines fault is

-- where reading leads on and no byte is one too many, the lines are the text's so far
pub sound_steps : (bytes : List ℕ) (lines : List Line) (s : Scan) → length bytes ≤ 1099511627776 → read start bytes ≡ record { lines = lines; last = Ok s }
    → early_steps bytes ≡ record { lines = lines; fault = None }
unfolding early_steps
sound_steps bytes lines s few is = short_steps false bytes few ∙ said_early bytes lines s is

-- the line of the byte that is one too many
end_line_is : (bytes : List ℕ) (lines : List Line) (s : Scan) → read start bytes ≡ record { lines = lines; last = Ok s } → end_line_of bytes ≡ s.line
unfolding end_line_of
end_line_is bytes lines s is = sym (line_here start bytes lines s refl is)

-- where reading leads on and a byte is one too many
pub too_many_steps : (ended : Bool) (bytes : List ℕ) (lines : List Line) (s : Scan) → 1099511627776 < length bytes → read start (within bytes) ≡ record { lines = lines; last = Ok s }
    → steps_of ended bytes ≡ record { lines = lines; fault = Some (ProofTooLong s.line) }
too_many_steps ended bytes lines s long is =
    long_steps ended bytes long ∙ ap (with_long_fault (within bytes)) (said_early (within bytes) lines s is)
    ∙ ap (λ n. let t : Steps = record { lines = lines; fault = Some (ProofTooLong n) } in t) (end_line_is (within bytes) lines s is)

-- nothing was read yet
pub has_read_nothing : (reader : ReaderState) → reader.scan ≡ start → reader.read ≡ 0 → reader.fault ≡ None → HasRead reader [] []
unfolding HasRead
has_read_nothing reader scan none sound = record {
  scanned = ap (λ (s : Scan). let o : Outcome = no_more s in o) (sym scan);
  idle = ap (λ (s : Scan). is_ready s.place) scan;
  counted = none;
  few = omega arith;
  sound = sound;
}

-- a reader that has read on has met no fault
pub no_fault_here : (reader : ReaderState) (bytes : List ℕ) (lines : List Line) (fault : LineFault) → HasRead reader bytes lines → reader.fault ≡ Some fault → ⊥
unfolding HasRead
no_fault_here reader bytes lines fault read is = let sound = read.sound in cc

pub has_no_early_fault : (reader : ReaderState) (bytes : List ℕ) (lines : List Line) → HasRead reader bytes lines → early_steps bytes ≡ record { lines = lines; fault = None }
unfolding HasRead
has_no_early_fault reader bytes lines read = sound_steps bytes lines reader.scan read.few read.scanned

-- what was taken of a piece
pub fed_ok : (before after : ReaderState) (bytes : List ℕ) (lines : List Line) (piece : List ℕ) (count : ℕ) (line : Option Line) → HasRead before bytes lines → after.fault ≡ before.fault
    → after.read ≡ before.read + count → count ≤ length piece → after.read ≤ 1099511627776 → is_ready after.scan.place ≡ false
    → PieceTaken before.scan before.read piece after.scan count line → Takes after bytes lines piece count line
unfolding HasRead
fed_ok before after bytes lines piece count None read fault total within few idle took = (
  took.0,
  record {
    scanned = read_behind start bytes piece lines before.scan read.scanned ∙ ap (λ (o : Outcome). let u : Outcome = record { lines = lines ++ o.lines; last = o.last } in u) took.1
        ∙ ap (λ (ls : List Line). let u : Outcome = record { lines = ls; last = Ok after.scan } in u) (append-nil lines);
    idle = idle;
    counted = omega (arith, length-append bytes piece, read.counted, took.0);
    few = omega (arith, length-append bytes piece, read.counted, took.2);
    sound = fault ∙ read.sound;
  },
)
fed_ok before after bytes lines piece count (Some line) read fault total within few idle took = record {
  scanned = read_behind start bytes (take count piece) lines before.scan read.scanned ∙ ap (λ (o : Outcome). let u : Outcome = record { lines = lines ++ o.lines; last = o.last } in u) took.1;
  idle = idle;
  counted = omega (arith, length-append bytes (take count piece), length-take count piece, read.counted);
  few = omega (arith, length-append bytes (take count piece), length-take count piece, read.counted);
  sound = fault ∙ read.sound;
}

-- a fault of reading on is the first of the bytes so far
fed_fault : (before : ReaderState) (bytes : List ℕ) (lines : List Line) (piece : List ℕ) (fault : LineFault) → HasRead before bytes lines
    → ((read before.scan (room_of before.read piece) ≡ record { lines = []; last = Err fault }) ⊎ ((line : ℕ) × (fault ≡ ProofTooLong line) × ReadsTooMany before.scan before.read piece line))
    → early_steps (bytes ++ piece) ≡ record { lines = lines; fault = Some fault }
unfolding HasRead early_steps
fed_fault before bytes lines piece fault has how = elim how [
  | inl is ↦ fault_steps false (bytes ++ piece) lines fault (more (record { lines = []; last = Err fault }) is ∙ ap (λ (ls : List Line). let u : Outcome = record { lines = ls; last = Err fault } in u) (append-nil lines))
  | inr over ↦ too_many over.0 over.1 over.2
]
  where
    more : (o : Outcome) → read before.scan (room_of before.read piece) ≡ o → read start (within (bytes ++ piece)) ≡ record { lines = lines ++ o.lines; last = o.last }
    more o is =
        ap (read start) (within_room bytes piece has.few ∙ ap (λ n. bytes ++ room_of n piece) (sym has.counted))
        ∙ read_behind start bytes (room_of before.read piece) lines before.scan has.scanned
        ∙ ap (λ (p : Outcome). let u : Outcome = record { lines = lines ++ p.lines; last = p.last } in u) is

    too_many : (line : ℕ) → fault ≡ ProofTooLong line → ReadsTooMany before.scan before.read piece line → steps_of false (bytes ++ piece) ≡ record { lines = lines; fault = Some fault }
    too_many line is over =
        too_many_steps false (bytes ++ piece) lines over.end (omega (arith, length-append bytes piece, has.counted, over.long))
        (more (no_more over.end) over.scanned ∙ ap (λ (ls : List Line). let u : Outcome = record { lines = ls; last = Ok over.end } in u) (append-nil lines))
        ∙ ap (λ (f : LineFault). let t : Steps = record { lines = lines; fault = Some f } in t) (ap (λ n. ProofTooLong n) (sym over.at) ∙ sym is)

pub fed_err : (before : ReaderState) (bytes : List ℕ) (lines : List Line) (piece : List ℕ) (fault : LineFault) → HasRead before bytes lines → FaultOn before.scan before.read piece fault
    → OnFault fault (early_steps (bytes ++ piece) ≡ record { lines = lines; fault = Some fault })
fed_err before bytes lines piece fault has owes =
    OnFault-weaker fault
    ((read before.scan (room_of before.read piece) ≡ record { lines = []; last = Err fault }) ⊎ ((line : ℕ) × (fault ≡ ProofTooLong line) × ReadsTooMany before.scan before.read piece line))
    (early_steps (bytes ++ piece) ≡ record { lines = lines; fault = Some fault }) (fed_fault before bytes lines piece fault has) owes

-- what the whole text says
whole_is : (reader : ReaderState) (bytes : List ℕ) (lines : List Line) (r : Result Scan LineFault) → HasRead reader bytes lines → step reader.scan 10 ≡ r → proof_steps bytes ≡ behind_lines lines (last_by r)
unfolding HasRead proof_steps
whole_is reader bytes lines r has is = short_steps true bytes has.few ∙ said_whole bytes lines reader.scan has.scanned ∙ ap (λ q. behind_lines lines (last_by q)) is

-- the answer of the end
pub ended_ok : (before after : ReaderState) (bytes : List ℕ) (lines : List Line) (line : Option Line) → HasRead before bytes lines → EndRead before.scan (Ok line) → Ends after bytes lines (Ok line)
ended_ok before after bytes lines None has read =
    whole_is before bytes lines (Ok read.0) has read.1 ∙ ap (λ (o : Option Line). behind_lines lines (with_line (Ok o) no_steps)) (sym read.2)
    ∙ ap (λ (ls : List Line). let t : Steps = record { lines = ls; fault = None } in t) (append-nil lines)
ended_ok before after bytes lines (Some line) has read =
    whole_is before bytes lines (Ok read.0) has read.1 ∙ ap (λ (o : Option Line). behind_lines lines (with_line (Ok o) no_steps)) (sym read.2)

pub ended_err : (before : ReaderState) (bytes : List ℕ) (lines : List Line) (fault : LineFault) → HasRead before bytes lines → EndRead before.scan (Err fault) → OnFault fault (proof_steps bytes ≡ record { lines = lines; fault = Some fault })
ended_err before bytes lines fault has owes =
    OnFault-weaker fault (step before.scan 10 ≡ Err fault) (proof_steps bytes ≡ record { lines = lines; fault = Some fault })
    (λ is. whole_is before bytes lines (Err fault) has is ∙ ap (λ (ls : List Line). let t : Steps = record { lines = ls; fault = Some fault } in t) (append-nil lines)) owes

-- a reader has read no more than it may
pub has_read_few : (reader : ReaderState) (bytes : List ℕ) (lines : List Line) → HasRead reader bytes lines → length bytes ≤ 1099511627776
unfolding HasRead
has_read_few reader bytes lines read = read.few
