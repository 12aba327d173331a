-- What a reader has read, and what it answers.
use Rattle.std.proofs.Common.{◌≡◌, ℕ, ◌+◌, ◌≤◌, ◌<◌, ◌⊎◌, inl, inr, Bool, true, false, not, ◌&&◌, cond, ltb, List, [], ◌∷◌, ◌++◌, length, drop, min, refl, sym, ap, ◌∙◌, arith, append-nil, length-append, length-take, Some, None, Result, Ok, Err}
use Rattle.std.proofs.lemmas.Bool.{lt-ltb, le-ltb}
use Rattle.std.proofs.lemmas.List.{take-append-drop, take_all}
use Rattle.lit_base.specs.Cnf.{Cnf}
use Rattle.cnf_text.specs.declared.fault.CnfFault.{CnfFault}
use Rattle.cnf_text.specs.declared.fault.CnfFault.TheVariants.{OverLimit, TooLong}
use Rattle.cnf_text.specs.declared.fault.Which.TheVariants.{Bytes}
use Rattle.cnf_text.specs.declared.scan.Place.{Place}
use Rattle.cnf_text.specs.declared.scan.Place.TheVariants.{LineStart, Comment, Tokens, Ended}
use Rattle.cnf_text.specs.declared.scan.Scan.{Scan}
use Rattle.lit_base.specs.Parts.{parts_of}
use Rattle.lit_base.specs.Results.{on_ok, fault_of}
use Rattle.lit_base.proofs.LineParts.{take_both}
use Rattle.cnf_text.specs.Faults.{OnFault, Gives}
use Rattle.lit_base.specs.Lines.{is_line_feed}
use Rattle.cnf_text.specs.Progress.{ProgressState}
use Rattle.cnf_text.specs.Judge.{judge, finish}
use Rattle.cnf_text.specs.State.{ReaderState}
use Rattle.cnf_text.specs.Machine.{start, step, step_at, steps, is_ended_at, ends_at, room_of, ReadsAll, ReadsTooMany, FaultOn}
use Rattle.cnf_text.specs.Reading.{within, is_ended, end_line_of, judged, byte_fault, first_fault, early_fault, unless, formula_of}
use Rattle.cnf_text.specs.Reader.{HasRead}
use Rattle.lit_base.proofs.Results.{on_ok-assoc, on_ok-same}
use Rattle.cnf_text.proofs.Results.{OnFault-weaker, gives_same}
use Rattle.cnf_text.proofs.Follow.{Continues, Follows, steps_follow, judge_at_place}
use Rattle.cnf_text.proofs.Endings.{Ending, ending_at, Stands, steps_stand}

pub steps_append : (s : Scan) (xs ys : List ℕ) → steps s (xs ++ ys) ≡ on_ok (steps s xs) (λ t. steps t ys)
steps_append s [] ys = refl
steps_append s (b ∷ bs) ys =
    on_ok-same (step s b) (λ t. steps t (bs ++ ys)) (λ t. on_ok (steps t bs) (λ u. steps u ys)) (λ t. steps_append t bs ys)
    ∙ sym (on_ok-assoc (step s b) (λ t. steps t bs) (λ u. steps u ys))

-- behind the end of the input nothing changes
pub ended_stays : (s : Scan) (bytes : List ℕ) → is_ended_at s.place ≡ true → steps s bytes ≡ Ok s
ended_stays s [] ended = refl
ended_stays s (b ∷ bs) ended = ap (λ r. on_ok r (λ t. steps t bs)) (by s.place ended) ∙ ended_stays s bs ended
  where
    by : (place : Place) → is_ended_at place ≡ true → step_at place s b ≡ Ok s
    by LineStart is = cc
    by Comment is = cc
    by Tokens is = cc
    by Ended is = refl

start_continues : Continues start judged
unfolding judged
start_continues = record { short = omega arith; same = λ rest. refl }

-- what is left to judge behind all bytes: nothing
nothing_left : (place : Place) (s : Scan) → length s.token ≤ 64 → judge_at_place place s (record { first = []; others = [] }) ≡ Ok s.progress
nothing_left LineStart s short = refl
nothing_left Comment s short = refl
nothing_left Tokens s short =
    ap (λ (t : List ℕ). on_ok (cond (ltb 64 (length t)) (Err (TooLong s.line)) (Ok s.progress)) (λ p. judge p [])) (append-nil s.token)
    ∙ ap (λ t. on_ok (cond t (Err (TooLong s.line)) (Ok s.progress)) (λ p. judge p [])) (le-ltb 64 (length s.token) short)
nothing_left Ended s short = refl

-- the judgement of a text by the steps over it
pub judged_is : (bytes : List ℕ) → judged bytes ≡ on_ok (steps start bytes) (λ s. Ok s.progress)
judged_is bytes = by (steps start bytes) (steps_follow start judged bytes start_continues)
  where
    by : (r : Result Scan CnfFault) → Follows r (λ rest. judged (bytes ++ rest)) → judged bytes ≡ on_ok r (λ s. Ok s.progress)
    by (Ok s) follows = ap judged (sym (append-nil bytes)) ∙ follows.same [] ∙ nothing_left s.place s follows.short
    by (Err fault) follows = ap judged (sym (append-nil bytes)) ∙ follows []

-- whether the input ends, and where, as the definitions have it
pub ending_of : List ℕ → Ending
ending_of bytes = record { ended = is_ended bytes; line = end_line_of bytes }

-- the ending of a text and what follows, by the steps over the text
pub standing : (bytes : List ℕ) (s : Scan) → steps start bytes ≡ Ok s → (rest : List ℕ) → ending_of (bytes ++ rest) ≡ ending_at s.place s.line (parts_of is_line_feed rest)
unfolding ending_of is_ended end_line_of
standing bytes s is = by (steps start bytes) is (steps_stand start ending_of bytes (λ rest. refl))
  where
    by : (r : Result Scan CnfFault) → r ≡ Ok s → Stands r (λ rest. ending_of (bytes ++ rest)) → (rest : List ℕ) → ending_of (bytes ++ rest) ≡ ending_at s.place s.line (parts_of is_line_feed rest)
    by (Ok t) same stands rest = let at : t ≡ s = cc in stands rest ∙ ap (λ (u : Scan). ending_at u.place u.line (parts_of is_line_feed rest)) at
    by (Err fault) same stands rest = cc

ending_here : (bytes : List ℕ) (s : Scan) → steps start bytes ≡ Ok s → ending_of bytes ≡ record { ended = is_ended_at s.place; line = s.line }
ending_here bytes s is = ap ending_of (sym (append-nil bytes)) ∙ standing bytes s is [] ∙ by s.place
  where
    by : (place : Place) → ending_at place s.line (record { first = []; others = [] }) ≡ record { ended = is_ended_at place; line = s.line }
    by LineStart = refl
    by Comment = refl
    by Tokens = refl
    by Ended = refl

pub ended_here : (bytes : List ℕ) (s : Scan) → steps start bytes ≡ Ok s → is_ended bytes ≡ is_ended_at s.place
unfolding ending_of
ended_here bytes s is = ap (λ (e : Ending). e.ended) (ending_here bytes s is)

pub line_here : (bytes : List ℕ) (s : Scan) → steps start bytes ≡ Ok s → end_line_of bytes ≡ s.line
unfolding ending_of
line_here bytes s is = ap (λ (e : Ending). e.line) (ending_here bytes s is)

-- where the input ended, it has ended with more
pub ended_with_more : (bytes rest : List ℕ) (s : Scan) → steps start bytes ≡ Ok s → is_ended_at s.place ≡ true → is_ended (bytes ++ rest) ≡ true
unfolding ending_of
ended_with_more bytes rest s is ended = ap (λ (e : Ending). e.ended) (standing bytes s is rest) ∙ by s.place ended
  where
    by : (place : Place) → is_ended_at place ≡ true → (ending_at place s.line (parts_of is_line_feed rest)).ended ≡ true
    by LineStart at = cc
    by Comment at = cc
    by Tokens at = cc
    by Ended at = refl

-- the bytes that may be read of a text and a piece behind it
pub within_more : (bytes piece : List ℕ) → within (bytes ++ piece) ≡ within bytes ++ room_of (length (within bytes)) piece
unfolding within
within_more bytes piece = take_both 268435456 bytes piece

pub within_all : (bytes : List ℕ) → length bytes ≤ 268435456 → within bytes ≡ bytes
unfolding within
within_all bytes short = take_all 268435456 bytes short

pub within_length : (bytes : List ℕ) → length (within bytes) ≡ min 268435456 (length bytes)
unfolding within
within_length bytes = length-take 268435456 bytes

pub within_front : (bytes : List ℕ) → bytes ≡ within bytes ++ drop 268435456 bytes
unfolding within
within_front bytes = sym (take-append-drop 268435456 bytes)

-- the steps over a text and a piece behind it
pub steps_more : (bytes piece : List ℕ) (s : Scan) → steps start (within bytes) ≡ Ok s → steps start (within (bytes ++ piece)) ≡ steps s (room_of (length (within bytes)) piece)
steps_more bytes piece s is =
    ap (steps start) (within_more bytes piece) ∙ steps_append start (within bytes) (room_of (length (within bytes)) piece)
    ∙ ap (λ r. on_ok r (λ t. steps t (room_of (length (within bytes)) piece))) is

pub early_err : (bytes : List ℕ) (fault : CnfFault) → steps start (within bytes) ≡ Err fault → early_fault bytes ≡ Some fault
unfolding early_fault
early_err bytes fault is =
    ap (λ r. first_fault (fault_of r) (byte_fault bytes)) (judged_is (within bytes) ∙ ap (λ r. on_ok r (λ s. let a : Result ProgressState CnfFault = Ok s.progress in a)) is)

pub early_ok : (bytes : List ℕ) (s : Scan) → steps start (within bytes) ≡ Ok s → early_fault bytes ≡ byte_fault bytes
unfolding early_fault
early_ok bytes s is =
    ap (λ r. first_fault (fault_of r) (byte_fault bytes)) (judged_is (within bytes) ∙ ap (λ r. on_ok r (λ s. let a : Result ProgressState CnfFault = Ok s.progress in a)) is)

pub byte_some : (bytes : List ℕ) → 268435456 < length bytes → is_ended (within bytes) ≡ false → byte_fault bytes ≡ Some (OverLimit Bytes (end_line_of (within bytes)))
unfolding byte_fault
byte_some bytes long going =
    ap (λ t. cond (t && not (is_ended (within bytes))) (Some (OverLimit Bytes (end_line_of (within bytes)))) None) (lt-ltb 268435456 (length bytes) long)
    ∙ ap (λ t. cond (not t) (Some (OverLimit Bytes (end_line_of (within bytes)))) None) going

pub byte_none_short : (bytes : List ℕ) → length bytes ≤ 268435456 → byte_fault bytes ≡ None
unfolding byte_fault
byte_none_short bytes short =
    ap (λ t. cond (t && not (is_ended (within bytes))) (Some (OverLimit Bytes (end_line_of (within bytes)))) None) (le-ltb 268435456 (length bytes) short)

pub byte_none_ended : (bytes : List ℕ) → is_ended (within bytes) ≡ true → byte_fault bytes ≡ None
unfolding byte_fault
byte_none_ended bytes ended =
    ap (λ t. cond (ltb 268435456 (length bytes) && not t) (Some (OverLimit Bytes (end_line_of (within bytes)))) None) ended
    ∙ by (ltb 268435456 (length bytes))
  where
    by : (t : Bool) → cond (t && false) (Some (OverLimit Bytes (end_line_of (within bytes)))) None ≡ None
    by true = refl
    by false = refl

-- where the steps met no fault, and the text isn't too long, there is none so far
pub no_fault : (bytes : List ℕ) (s : Scan) → steps start (within bytes) ≡ Ok s → (is_ended_at s.place ≡ false → length bytes ≤ 268435456) → early_fault bytes ≡ None
no_fault bytes s is room = early_ok bytes s is ∙ by (is_ended_at s.place) refl
  where
    by : (t : Bool) → is_ended_at s.place ≡ t → byte_fault bytes ≡ None
    by true ended = byte_none_ended bytes (ended_here (within bytes) s is ∙ ended)
    by false going = byte_none_short bytes (room going)

-- what the whole text is read as, by the steps
pub formula_is : (bytes : List ℕ) (s : Scan) → steps start (within bytes) ≡ Ok s → (is_ended_at s.place ≡ false → length bytes ≤ 268435456) → formula_of bytes ≡ ends_at s
unfolding formula_of
formula_is bytes s is room =
    ap (λ o. unless o (on_ok (judged (within bytes ++ 10 ∷ [])) (λ p. finish p (end_line_of (within bytes))))) (no_fault bytes s is room)
    ∙ ap (λ r. on_ok r (λ p. finish p (end_line_of (within bytes)))) (judged_is (within bytes ++ 10 ∷ []) ∙ ap (λ r. on_ok r (λ (t : Scan). let a : Result ProgressState CnfFault = Ok t.progress in a)) behind)
    ∙ on_ok-assoc (steps s (10 ∷ [])) (λ t. Ok t.progress) (λ p. finish p (end_line_of (within bytes)))
    ∙ ap (λ line. on_ok (steps s (10 ∷ [])) (λ t. finish t.progress line)) (line_here (within bytes) s is)
  where
    behind : steps start (within bytes ++ 10 ∷ []) ≡ steps s (10 ∷ [])
    behind = steps_append start (within bytes) (10 ∷ []) ∙ ap (λ r. on_ok r (λ t. steps t (10 ∷ []))) is

pub formula_early : (bytes : List ℕ) (fault : CnfFault) → early_fault bytes ≡ Some fault → formula_of bytes ≡ Err fault
unfolding formula_of
formula_early bytes fault is = ap (λ o. unless o (on_ok (judged (within bytes ++ 10 ∷ [])) (λ p. finish p (end_line_of (within bytes))))) is

-- nothing was read yet
pub has_read_nothing : (reader : ReaderState) → reader.scan ≡ start → reader.read ≡ 0 → reader.fault ≡ None → HasRead reader []
unfolding HasRead
has_read_nothing reader scan read sound = record {
  scanned = ap (steps start) none ∙ (let e : steps start [] ≡ Ok start = refl in e) ∙ ap (λ (s : Scan). Ok s) (sym scan);
  counted = read ∙ sym (ap length none);
  room = λ going. omega arith;
  sound = sound;
}
  where
    none : within [] ≡ []
    none = within_all [] (omega arith)

-- a reader that has read on has met no fault
pub has_no_fault : (reader : ReaderState) (bytes : List ℕ) → HasRead reader bytes → reader.fault ≡ None
unfolding HasRead
has_no_fault reader bytes read = read.sound

pub no_fault_here : (reader : ReaderState) (bytes : List ℕ) (fault : CnfFault) → HasRead reader bytes → reader.fault ≡ Some fault → ⊥
no_fault_here reader bytes fault read is = let sound = has_no_fault reader bytes read in cc

-- a reader that hasn't met the end of the input has read no more than it may
pub has_read_short : (reader : ReaderState) (bytes : List ℕ) → HasRead reader bytes → is_ended bytes ≡ false → length bytes ≤ 268435456
unfolding HasRead
has_read_short reader bytes read going = by (is_ended_at reader.scan.place) refl
  where
    by : (t : Bool) → is_ended_at reader.scan.place ≡ t → length bytes ≤ 268435456
    by false at = read.room at
    by true at = let ended : is_ended bytes ≡ true = ap is_ended (within_front bytes) ∙ ended_with_more (within bytes) (drop 268435456 bytes) reader.scan read.scanned at in cc

pub has_no_early_fault : (reader : ReaderState) (bytes : List ℕ) → HasRead reader bytes → early_fault bytes ≡ None
unfolding HasRead
has_no_early_fault reader bytes read = no_fault bytes reader.scan read.scanned read.room

-- the answer of `done`
pub done_is : (reader : ReaderState) (bytes : List ℕ) → HasRead reader bytes → is_ended_at reader.scan.place ≡ is_ended bytes
unfolding HasRead
done_is reader bytes read = by (is_ended_at reader.scan.place) refl
  where
    by : (t : Bool) → is_ended_at reader.scan.place ≡ t → t ≡ is_ended bytes
    by true at = sym (ap is_ended (within_front bytes) ∙ ended_with_more (within bytes) (drop 268435456 bytes) reader.scan read.scanned at)
    by false at = sym at ∙ sym (ended_here (within bytes) reader.scan read.scanned) ∙ ap is_ended (within_all bytes (read.room at))

-- a piece that was read on
pub fed_ok : (before after : ReaderState) (bytes piece : List ℕ) → HasRead before bytes → after.fault ≡ before.fault → after.read ≡ before.read + length (room_of before.read piece)
    → ReadsAll before.scan before.read piece after.scan → HasRead after (bytes ++ piece) × (early_fault (bytes ++ piece) ≡ None)
unfolding HasRead
fed_ok before after bytes piece read fault count all = (record { scanned = scanned; counted = counted; room = room; sound = fault ∙ read.sound }, no_fault (bytes ++ piece) after.scan scanned room)
  where
    scanned : steps start (within (bytes ++ piece)) ≡ Ok after.scan
    scanned = steps_more bytes piece before.scan read.scanned ∙ ap (λ n. steps before.scan (room_of n piece)) (sym read.counted) ∙ all.scanned

    counted : after.read ≡ length (within (bytes ++ piece))
    counted =
        count ∙ ap (λ n. n + length (room_of n piece)) read.counted
        ∙ sym (ap length (within_more bytes piece) ∙ length-append (within bytes) (room_of (length (within bytes)) piece))

    by : (t : Bool) → is_ended_at before.scan.place ≡ t → is_ended_at after.scan.place ≡ false → length (bytes ++ piece) ≤ 268435456
    by true ended going =
        let same : Ok before.scan ≡ Ok after.scan = sym (ended_stays before.scan (room_of before.read piece) ended) ∙ all.scanned in
        let at : before.scan ≡ after.scan = cc in
        let still : is_ended_at after.scan.place ≡ true = ap (λ (s : Scan). is_ended_at s.place) (sym at) ∙ ended in
        cc
    by false unended going =
        omega (arith, length-append bytes piece, read.counted, within_length bytes, read.room unended, all.room going)

    room : is_ended_at after.scan.place ≡ false → length (bytes ++ piece) ≤ 268435456
    room = by (is_ended_at before.scan.place) refl

-- a fault of reading on is the first of the bytes so far
fed_fault : (before : ReaderState) (bytes piece : List ℕ) (fault : CnfFault) → HasRead before bytes
    → ((steps before.scan (room_of before.read piece) ≡ Err fault) ⊎ ((line : ℕ) × (fault ≡ OverLimit Bytes line) × ReadsTooMany before.scan before.read piece line)) → early_fault (bytes ++ piece) ≡ Some fault
unfolding HasRead
fed_fault before bytes piece fault read how = elim how [
  | inl is ↦ early_err (bytes ++ piece) fault (more ∙ is)
  | inr over ↦ too_many over.0 over.1 over.2
]
  where
    more : steps start (within (bytes ++ piece)) ≡ steps before.scan (room_of before.read piece)
    more = steps_more bytes piece before.scan read.scanned ∙ ap (λ n. steps before.scan (room_of n piece)) (sym read.counted)

    too_many : (line : ℕ) → fault ≡ OverLimit Bytes line → ReadsTooMany before.scan before.read piece line → early_fault (bytes ++ piece) ≡ Some fault
    too_many line is over =
        let scanned : steps start (within (bytes ++ piece)) ≡ Ok over.end = more ∙ over.scanned in
        let long : 268435456 < length (bytes ++ piece) = omega (arith, length-append bytes piece, read.counted, within_length bytes, over.long) in
        let going : is_ended (within (bytes ++ piece)) ≡ false = ended_here (within (bytes ++ piece)) over.end scanned ∙ over.more in
        early_ok (bytes ++ piece) over.end scanned ∙ byte_some (bytes ++ piece) long going
        ∙ ap (λ n. Some (OverLimit Bytes n)) (line_here (within (bytes ++ piece)) over.end scanned ∙ sym over.at)
        ∙ ap (λ (f : CnfFault). Some f) (sym is)

pub fed_err : (before : ReaderState) (bytes piece : List ℕ) (fault : CnfFault) → HasRead before bytes → FaultOn before.scan before.read piece fault → OnFault fault (early_fault (bytes ++ piece) ≡ Some fault)
fed_err before bytes piece fault read owes =
    OnFault-weaker fault ((steps before.scan (room_of before.read piece) ≡ Err fault) ⊎ ((line : ℕ) × (fault ≡ OverLimit Bytes line) × ReadsTooMany before.scan before.read piece line))
    (early_fault (bytes ++ piece) ≡ Some fault) (fed_fault before bytes piece fault read) owes

-- the answer of the end
pub ended : (reader : ReaderState) (bytes : List ℕ) (answer : Result Cnf CnfFault) → HasRead reader bytes → Gives answer (ends_at reader.scan) → Gives answer (formula_of bytes)
unfolding HasRead
ended reader bytes answer read given = gives_same answer (ends_at reader.scan) (formula_of bytes) (formula_is bytes reader.scan read.scanned read.room) given
