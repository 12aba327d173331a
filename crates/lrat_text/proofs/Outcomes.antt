-- Reading one text behind another, and the lines that it passes.
use Rattle.std.proofs.Common.{◌≡◌, ℕ, suc, ◌+◌, ◌==◌, Bool, true, false, cond, leb, List, [], ◌∷◌, ◌++◌, length, refl, sym, ap, ◌∙◌, subst, arith, Result, Ok, Err}
use Rattle.lit_base.specs.Parts.{Parts, parts_of}
use Rattle.lit_base.specs.Lines.{is_line_feed, is_blank}
use Rattle.lit_base.specs.Results.{on_ok}
use Rattle.lit_base.specs.declared.proof.Line.{Line}
use Rattle.lit_base.proofs.LineParts.{parts_of_is}
use Rattle.lrat_text.specs.declared.fault.LineFault.{LineFault}
use Rattle.lrat_text.specs.declared.fault.LineFault.TheVariants.{LineTooLong}
use Rattle.lrat_text.specs.declared.stage.Stage.{Stage}
use Rattle.lrat_text.specs.declared.stage.Stage.TheVariants.{Start, AfterId, Literals, Hints, Ids, Added, Deleted}
use Rattle.lrat_text.specs.declared.token.Token.TheVariants.{Empty}
use Rattle.lrat_text.specs.declared.progress.Progress.{Progress}
use Rattle.lrat_text.specs.declared.scan.Place.{Place}
use Rattle.lrat_text.specs.declared.scan.Place.TheVariants.{LineStart, Comment, Tokens, Ready}
use Rattle.lrat_text.specs.declared.scan.Scan.{Scan}
use Rattle.lrat_text.specs.Class.{with_byte_pushed}
use Rattle.lrat_text.specs.Judge.{judge_class}
use Rattle.lrat_text.specs.Machine.{line_start, close_line, end_line, step_feed, step_byte, counted, step, ready_line, Outcome, handed_at, go_on, read, is_ready}

-- lines, and what reading on from behind them gives
abbrev pub chained : List Line → Result Scan LineFault → (Scan → Outcome) → Outcome
chained lines (Ok s) more = record { lines = lines ++ (more s).lines; last = (more s).last }
chained lines (Err fault) more = record { lines = lines; last = Err fault }

-- with one line in front
abbrev with_first : Line → Outcome → Outcome
with_first line o = record { lines = line ∷ o.lines; last = o.last }

with_first-chained : (line : Line) (lines : List Line) (last : Result Scan LineFault) (more : Scan → Outcome) → with_first line (chained lines last more) ≡ chained (line ∷ lines) last more
with_first-chained line lines (Ok s) more = refl
with_first-chained line lines (Err fault) more = refl

-- reading one text behind another
pub read-append : (s : Scan) (xs ys : List ℕ) → read s (xs ++ ys) ≡ chained (read s xs).lines (read s xs).last (λ t. read t ys)
read-append s [] ys = refl
read-append s (b ∷ bs) ys = by (step s b) (λ t. read-append t bs ys)
  where
    Goal : Outcome → Outcome → Type 0
    Goal both first = both ≡ chained first.lines first.last (λ t. read t ys)

    next : (place : Place) (t : Scan) → ((u : Scan) → read u (bs ++ ys) ≡ chained (read u bs).lines (read u bs).last (λ v. read v ys)) → Goal (handed_at place t (λ u. read u (bs ++ ys))) (handed_at place t (λ u. read u bs))
    next LineStart t each = each t
    next Comment t each = each t
    next Tokens t each = each t
    next (Ready line) t each =
        ap (with_first (ready_line line t.progress)) (each (line_start t.line)) ∙ with_first-chained (ready_line line t.progress) (read (line_start t.line) bs).lines (read (line_start t.line) bs).last (λ u. read u ys)

    by : (r : Result Scan LineFault) → ((u : Scan) → read u (bs ++ ys) ≡ chained (read u bs).lines (read u bs).last (λ v. read v ys)) → Goal (go_on r (λ u. read u (bs ++ ys))) (go_on r (λ u. read u bs))
    by (Ok t) each = next t.place t each
    by (Err fault) each = refl

-- the same where the first text was read to these lines and this state
pub read_behind : (s : Scan) (xs ys : List ℕ) (lines : List Line) (t : Scan) → read s xs ≡ record { lines = lines; last = Ok t }
    → read s (xs ++ ys) ≡ record { lines = lines ++ (read t ys).lines; last = (read t ys).last }
read_behind s xs ys lines t is = read-append s xs ys ∙ ap (λ (o : Outcome). chained o.lines o.last (λ u. read u ys)) is

-- or to a fault
pub read_fault : (s : Scan) (xs ys : List ℕ) (lines : List Line) (fault : LineFault) → read s xs ≡ record { lines = lines; last = Err fault }
    → read s (xs ++ ys) ≡ record { lines = lines; last = Err fault }
read_fault s xs ys lines fault is = read-append s xs ys ∙ ap (λ (o : Outcome). chained o.lines o.last (λ u. read u ys)) is

-- the line that a step leads to, where it leads on
abbrev IsLine : ℕ → Result Scan LineFault → Type 0
IsLine line (Ok s) = s.line ≡ line
IsLine line (Err fault) = Unit {0}

closed_line : (stage : Stage) (s : Scan) → IsLine (s.line + 1) (close_line stage s)
closed_line Start s = refl
closed_line AfterId s = tt
closed_line Literals s = tt
closed_line Hints s = tt
closed_line Ids s = tt
closed_line Added s = refl
closed_line Deleted s = refl

feed_line : (place : Place) (s : Scan) → is_ready place ≡ false → IsLine (s.line + 1) (step_feed place s)
feed_line LineStart s idle = refl
feed_line Comment s idle = refl
feed_line Tokens s idle = by (judge_class s.token s.progress s.line)
  where
    by : (r : Result Progress LineFault) → IsLine (s.line + 1) (on_ok (on_ok r (λ p. Ok (record s { token = Empty; progress = p }))) end_line)
    by (Ok p) = closed_line p.stage (record s { token = Empty; progress = p })
    by (Err fault) = tt
feed_line (Ready line) s idle = cc

byte_line : (place : Place) (s : Scan) (b : ℕ) → IsLine s.line (step_byte place s b)
byte_line LineStart s b = by (is_blank b) (b == 99)
  where
    by : (t u : Bool) → (cond t s (cond u (record s { place = Comment }) (record s { place = Tokens; token = with_byte_pushed Empty b }))).line ≡ s.line
    by true u = refl
    by false true = refl
    by false false = refl
byte_line Comment s b = refl
byte_line Tokens s b = by (is_blank b) (judge_class s.token s.progress s.line)
  where
    by : (t : Bool) (r : Result Progress LineFault) → IsLine s.line (cond t (on_ok r (λ p. Ok (record s { token = Empty; progress = p }))) (Ok (record s { token = with_byte_pushed s.token b })))
    by true (Ok p) = refl
    by true (Err fault) = tt
    by false r = refl
byte_line (Ready line) s b = refl

-- a step passes one line where its byte is LF, and else none
step_line : (s : Scan) (b : ℕ) → is_ready s.place ≡ false → IsLine (cond (is_line_feed b) (s.line + 1) s.line) (step s b)
step_line s b idle = by (is_line_feed b) (leb 33554432 s.read)
  where
    by : (t u : Bool) → IsLine (cond t (s.line + 1) s.line) (cond t (step_feed s.place s) (cond u (Err (LineTooLong s.line)) (step_byte s.place (counted s) b)))
    by true u = feed_line s.place s idle
    by false true = tt
    by false false = byte_line s.place (counted s) b

-- how many lines a text has behind its first
abbrev pub later_lines : List ℕ → ℕ
later_lines bytes = length (parts_of is_line_feed bytes).others

later_lines-cons : (b : ℕ) (bs : List ℕ) (line : ℕ) → line + later_lines (b ∷ bs) ≡ cond (is_line_feed b) (line + 1) line + later_lines bs
later_lines-cons b bs line = by (is_line_feed b) refl
  where
    by : (t : Bool) → is_line_feed b ≡ t → line + later_lines (b ∷ bs) ≡ cond t (line + 1) line + later_lines bs
    by true feed = ap (λ (q : Parts). line + length q.others) (parts_of_is is_line_feed b bs true feed) ∙ (let e : line + suc (later_lines bs) ≡ (line + 1) + later_lines bs = omega arith in e)
    by false feed = ap (λ (q : Parts). line + length q.others) (parts_of_is is_line_feed b bs false feed)

-- the line in which reading stands behind a text
pub read_line : (s : Scan) (bytes : List ℕ) → is_ready s.place ≡ false → IsLine (s.line + later_lines bytes) (read s bytes).last
read_line s [] idle = omega arith
read_line s (b ∷ bs) idle =
    by (step s b) (λ t free. read_line t bs free) (step_line s b idle)
  where
    Goal : Outcome → Type 0
    Goal o = IsLine (s.line + later_lines (b ∷ bs)) o.last

    at : (line : ℕ) (r : Result Scan LineFault) → line ≡ cond (is_line_feed b) (s.line + 1) s.line → IsLine (line + later_lines bs) r → IsLine (s.line + later_lines (b ∷ bs)) r
    at line (Ok t) same is = is ∙ ap (λ n. n + later_lines bs) same ∙ sym (later_lines-cons b bs s.line)
    at line (Err fault) same is = tt

    next : (place : Place) (t : Scan) → t.place ≡ place → ((u : Scan) → is_ready u.place ≡ false → IsLine (u.line + later_lines bs) (read u bs).last) → t.line ≡ cond (is_line_feed b) (s.line + 1) s.line → Goal (handed_at place t (λ u. read u bs))
    next LineStart t is each same = at t.line (read t bs).last same (each t (ap is_ready is))
    next Comment t is each same = at t.line (read t bs).last same (each t (ap is_ready is))
    next Tokens t is each same = at t.line (read t bs).last same (each t (ap is_ready is))
    next (Ready line) t is each same = at t.line (read (line_start t.line) bs).last same (each (line_start t.line) refl)

    by : (r : Result Scan LineFault) → ((u : Scan) → is_ready u.place ≡ false → IsLine (u.line + later_lines bs) (read u bs).last) → IsLine (cond (is_line_feed b) (s.line + 1) s.line) r → Goal (go_on r (λ u. read u bs))
    by (Ok t) each is = next t.place t refl each is
    by (Err fault) each is = tt

-- that line, where reading led on
pub line_here : (s : Scan) (bytes : List ℕ) (lines : List Line) (t : Scan) → is_ready s.place ≡ false → read s bytes ≡ record { lines = lines; last = Ok t } → t.line ≡ s.line + later_lines bytes
line_here s bytes lines t idle is = subst (λ (o : Outcome). IsLine (s.line + later_lines bytes) o.last) is (read_line s bytes idle)
