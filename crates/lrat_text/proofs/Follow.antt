-- The reader's steps follow what the definition says of a text.
use Rattle.std.proofs.Common.{◌≡◌, ℕ, ◌+◌, ◌≤◌, ◌<◌, ◌==◌, Bool, true, false, cond, leb, List, [], ◌∷◌, ◌++◌, refl, sym, ap, ◌∙◌, arith, append-nil, Some, Result, Ok, Err}
use Rattle.std.proofs.lemmas.Bool.{leb-true, leb-false}
use Rattle.lit_base.specs.Parts.{Parts, parts_of}
use Rattle.lit_base.specs.Lines.{is_line_feed, is_blank}
use Rattle.lit_base.specs.Results.{on_ok}
use Rattle.lit_base.specs.declared.proof.Line.{Line}
use Rattle.lit_base.proofs.LineParts.{with_byte, parts_of_is}
use Rattle.lrat_text.specs.declared.fault.LineFault.{LineFault}
use Rattle.lrat_text.specs.declared.fault.LineFault.TheVariants.{LineTooLong}
use Rattle.lrat_text.specs.declared.stage.Stage.{Stage}
use Rattle.lrat_text.specs.declared.stage.Stage.TheVariants.{Start, AfterId, Literals, Hints, Ids, Added, Deleted}
use Rattle.lrat_text.specs.declared.token.Token.TheVariants.{Empty}
use Rattle.lrat_text.specs.declared.progress.Progress.{Progress}
use Rattle.lrat_text.specs.declared.scan.Place.{Place}
use Rattle.lrat_text.specs.declared.scan.Place.TheVariants.{LineStart, Comment, Tokens, Ready}
use Rattle.lrat_text.specs.declared.scan.Scan.{Scan}
use Rattle.lrat_text.specs.Class.{class_of, capped, with_byte_pushed}
use Rattle.lrat_text.specs.Judge.{nothing, judge_class, judge_token, line_end_at, line_step}
use Rattle.lrat_text.specs.Reading.{Steps, no_steps, with_line, steps_from}
use Rattle.lrat_text.specs.Machine.{line_start, end_token, close_line, end_line, step_feed, step_at_start, step_in_tokens, step_byte, counted, step, step_at, ready_line, Outcome, handed_at, go_on, read, is_ready}
use Rattle.lrat_text.proofs.Classes.{class_pushed, token_judged}
use Rattle.lrat_text.proofs.Content.{open_tokens, blank_at_start, comment_at_start, token_at_start, blank_in_tokens, byte_in_tokens, content_at, line_left, line_left_at_start, moved, failed, too_long, at_line_end}

-- whether the line is whole that these stand behind
abbrev pub is_whole : Bool → List (List ℕ) → Bool
is_whole ended [] = ended
is_whole ended (next ∷ more) = true

-- what stands behind a line
abbrev pub closing : Bool → ℕ → List (List ℕ) → Steps
closing ended line [] = no_steps
closing ended line (next ∷ more) = steps_from ended (line + 1) next more

steps_from_is : (ended : Bool) (line : ℕ) (bytes : List ℕ) (others : List (List ℕ))
    → steps_from ended line bytes others ≡ with_line (line_step line (is_whole ended others) bytes) (closing ended line others)
steps_from_is ended line bytes [] = refl
steps_from_is ended line bytes (next ∷ more) = refl

-- what the rest of a text says, by where the next byte stands and the text of the open token
abbrev pub text_left : Bool → Place → Scan → List ℕ → Parts → Steps
text_left ended place s text lines = with_line (line_left place s text (is_whole ended lines.others) lines.first) (closing ended s.line lines.others)

-- what a text says from the start of a line
abbrev pub text_from : Bool → ℕ → List ℕ → Steps
text_from ended line rest = steps_from ended line (parts_of is_line_feed rest).first (parts_of is_line_feed rest).others

-- at the start of a line nothing was taken of it
abbrev pub IsFresh : Place → Progress → Type 0
IsFresh LineStart p = p ≡ nothing
IsFresh Comment p = Unit {0}
IsFresh Tokens p = Unit {0}
IsFresh (Ready line) p = Unit {0}

-- the reader stands where this is what each rest says
pub record Continues (ended : Bool) (s : Scan) (k : List ℕ → Steps) : Type 0 where
  pub text : List ℕ
  pub token : s.token ≡ capped (class_of text)
  pub few : s.read ≤ 33554432
  pub fresh : IsFresh s.place s.progress
  pub same : (rest : List ℕ) → k rest ≡ text_left ended s.place s text (parts_of is_line_feed rest)

pub start_continues : (ended : Bool) (line : ℕ) → Continues ended (line_start line) (text_from ended line)
start_continues ended line = record {
  text = [];
  token = refl;
  few = omega arith;
  fresh = refl;
  same = λ rest. steps_from_is ended line (parts_of is_line_feed rest).first (parts_of is_line_feed rest).others
      ∙ ap (λ r. with_line r (closing ended line (parts_of is_line_feed rest).others)) (sym (line_left_at_start line (is_whole ended (parts_of is_line_feed rest).others) (parts_of is_line_feed rest).first));
}

-- the state led to, by its place: reading goes on there, or hands out the line that is ready and goes on at the next
abbrev pub Leads : Bool → Place → Scan → (List ℕ → Steps) → Type 0
Leads ended LineStart s k = Continues ended s k
Leads ended Comment s k = Continues ended s k
Leads ended Tokens s k = Continues ended s k
Leads ended (Ready line) s k = (rest : List ℕ) → k rest ≡ with_line (Ok (Some (ready_line line s.progress))) (text_from ended s.line rest)

-- the step led on, or to the fault
abbrev pub Follows : Bool → Result Scan LineFault → (List ℕ → Steps) → Type 0
Follows ended (Ok s) k = Leads ended s.place s k
Follows ended (Err fault) k = (rest : List ℕ) → k rest ≡ record { lines = []; fault = Some fault }

-- a start of the next line
starts : (ended : Bool) (line : ℕ) (k : List ℕ → Steps) → ((rest : List ℕ) → k rest ≡ text_from ended line rest) → Continues ended (line_start line) k
starts ended line k is =
    let c = start_continues ended line in
    record { text = c.text; token = c.token; few = c.few; fresh = c.fresh; same = λ rest. is rest ∙ c.same rest }

-- what each rest is, as the steps have come to this place
abbrev Is : Bool → Place → Scan → List ℕ → (List ℕ → Steps) → Type 0
Is ended place s text k = (rest : List ℕ) → k rest ≡ text_left ended place s text (parts_of is_line_feed rest)

-- with one byte in front
ahead : (ended : Bool) (place : Place) (s : Scan) (text : List ℕ) (k : List ℕ → Steps) (b : ℕ) (t : Bool) → Is ended place s text k → is_line_feed b ≡ t
    → (rest : List ℕ) → k (b ∷ rest) ≡ text_left ended place s text (with_byte t b (parts_of is_line_feed rest))
ahead ended place s text k b t is feed rest = is (b ∷ rest) ∙ ap (text_left ended place s text) (parts_of_is is_line_feed b rest t feed)

-- LF in front: the line ends here
fed : (ended : Bool) (place : Place) (s : Scan) (text : List ℕ) (k : List ℕ → Steps) (b : ℕ) → Is ended place s text k → is_line_feed b ≡ true → s.read ≤ 33554432
    → (rest : List ℕ) → k (b ∷ rest) ≡ with_line (on_ok (content_at place s text true []) (λ p. line_end_at p.stage p s.line)) (text_from ended (s.line + 1) rest)
fed ended place s text k b is feed few rest =
    ahead ended place s text k b true is feed rest
    ∙ ap (λ r. with_line r (text_from ended (s.line + 1) rest)) (at_line_end place s text true few)

-- the end of a line of tokens
closes : (ended : Bool) (stage : Stage) (s : Scan) (k : List ℕ → Steps) → s.progress.stage ≡ stage
    → ((rest : List ℕ) → k rest ≡ with_line (line_end_at stage s.progress s.line) (text_from ended (s.line + 1) rest)) → Follows ended (close_line stage s) k
closes ended Start s k at is = starts ended (s.line + 1) k is
closes ended AfterId s k at is = is
closes ended Literals s k at is = is
closes ended Hints s k at is = is
closes ended Ids s k at is = is
closes ended Added s k at is = λ rest. is rest ∙ ap (λ stage. with_line (Ok (Some (record { line = s.line; step = step_at stage s.progress }))) (text_from ended (s.line + 1) rest)) (sym at)
closes ended Deleted s k at is = λ rest. is rest ∙ ap (λ stage. with_line (Ok (Some (record { line = s.line; step = step_at stage s.progress }))) (text_from ended (s.line + 1) rest)) (sym at)

-- LF is read
feed_follows : (ended : Bool) (place : Place) (s : Scan) (text : List ℕ) (k : List ℕ → Steps) (b : ℕ) → s.token ≡ capped (class_of text) → s.read ≤ 33554432 → is_ready place ≡ false
    → Is ended place s text k → is_line_feed b ≡ true → Follows ended (step_feed place s) (λ rest. k (b ∷ rest))
feed_follows ended LineStart s text k b token few idle is feed = starts ended (s.line + 1) (λ rest. k (b ∷ rest)) (fed ended LineStart s text k b is feed few)
feed_follows ended Comment s text k b token few idle is feed = starts ended (s.line + 1) (λ rest. k (b ∷ rest)) (fed ended Comment s text k b is feed few)
feed_follows ended Tokens s text k b token few idle is feed =
    by (judge_class s.token s.progress s.line) (λ rest.
    fed ended Tokens s text k b is feed few rest ∙ ap (λ r. with_line (on_ok r (λ p. line_end_at p.stage p s.line)) (text_from ended (s.line + 1) rest)) judged)
  where
    judged : judge_token s.progress (text ++ []) s.line ≡ judge_class s.token s.progress s.line
    judged = ap (λ (t : List ℕ). judge_token s.progress t s.line) (append-nil text) ∙ token_judged s.progress s.token text s.line token

    by : (r : Result Progress LineFault) → ((rest : List ℕ) → k (b ∷ rest) ≡ with_line (on_ok r (λ p. line_end_at p.stage p s.line)) (text_from ended (s.line + 1) rest))
        → Follows ended (on_ok (on_ok r (λ p. Ok (record s { token = Empty; progress = p }))) end_line) (λ rest. k (b ∷ rest))
    by (Ok p) same = closes ended p.stage (record s { token = Empty; progress = p }) (λ rest. k (b ∷ rest)) refl same
    by (Err fault) same = same
feed_follows ended (Ready line) s text k b token few idle is feed = cc

-- a byte that leads to another place of the same line
goes_on : (ended : Bool) (place next : Place) (s t : Scan) (text after : List ℕ) (k : List ℕ → Steps) (b : ℕ) → Is ended place s text k → is_line_feed b ≡ false
    → s.read < 33554432 → t.read ≡ s.read + 1 → t.line ≡ s.line → ((w : Bool) (ys : List ℕ) → content_at place s text w (b ∷ ys) ≡ content_at next t after w ys)
    → Is ended next t after (λ rest. k (b ∷ rest))
goes_on ended place next s t text after k b is feed room more same each rest =
    ahead ended place s text k b false is feed rest
    ∙ ap (λ r. with_line r (closing ended s.line (parts_of is_line_feed rest).others)) (moved place next s t text after (is_whole ended (parts_of is_line_feed rest).others) b (parts_of is_line_feed rest).first room more same each)
    ∙ ap (λ line. with_line (line_left next t after (is_whole ended (parts_of is_line_feed rest).others) (parts_of is_line_feed rest).first) (closing ended line (parts_of is_line_feed rest).others)) (sym same)

-- a byte that is a fault, or behind which a token is one
fails : (ended : Bool) (place : Place) (s : Scan) (text : List ℕ) (k : List ℕ → Steps) (b : ℕ) (fault : LineFault) → Is ended place s text k → is_line_feed b ≡ false
    → ((whole : Bool) (xs : List ℕ) → line_left place s text whole (b ∷ xs) ≡ Err fault) → (rest : List ℕ) → k (b ∷ rest) ≡ record { lines = []; fault = Some fault }
fails ended place s text k b fault is feed each rest =
    ahead ended place s text k b false is feed rest
    ∙ ap (λ r. with_line r (closing ended s.line (parts_of is_line_feed rest).others)) (each (is_whole ended (parts_of is_line_feed rest).others) (parts_of is_line_feed rest).first)

module _ (ended : Bool) (s : Scan) (text : List ℕ) (k : List ℕ → Steps) (b : ℕ) (token : s.token ≡ capped (class_of text)) (feed : is_line_feed b ≡ false) (room : s.read < 33554432) where
  -- another byte where the line has had blanks alone
  at_start : s.place ≡ LineStart → s.progress ≡ nothing → Is ended LineStart s text k → Leads ended (step_at_start (counted s) b).place (step_at_start (counted s) b) (λ rest. k (b ∷ rest))
  at_start place fresh is = by_blank (is_blank b) refl
    where
      by_comment : (t : Bool) → (b == 99) ≡ t → is_blank b ≡ false
          → (let u : Scan = cond t (record (counted s) { place = Comment }) (record (counted s) { place = Tokens; token = with_byte_pushed Empty b }) in Leads ended u.place u (λ rest. k (b ∷ rest)))
      by_comment true mark solid = record {
        text = text;
        token = token;
        few = omega arith;
        fresh = tt;
        same = goes_on ended LineStart Comment s (record (counted s) { place = Comment }) text text k b is feed room refl refl (λ w ys. comment_at_start s.line w b ys solid mark);
      }
      by_comment false mark solid = record {
        text = b ∷ [];
        token = sym (class_pushed [] b);
        few = omega arith;
        fresh = tt;
        same = goes_on ended LineStart Tokens s (record (counted s) { place = Tokens; token = with_byte_pushed Empty b }) text (b ∷ []) k b is feed room refl refl
            (λ w ys. token_at_start s.line w b ys solid mark ∙ ap (λ p. open_tokens p s.line w (b ∷ []) (parts_of is_blank ys)) (sym fresh));
      }

      here : (place : Place) → place ≡ LineStart → is_blank b ≡ true → Leads ended place (record (counted s) { place = place }) (λ rest. k (b ∷ rest))
      here LineStart at blank = record {
        text = text;
        token = token;
        few = omega arith;
        fresh = fresh;
        same = goes_on ended LineStart LineStart s (record (counted s) { place = LineStart }) text text k b is feed room refl refl (λ w ys. blank_at_start s.line w b ys blank);
      }
      here Comment at blank = cc
      here Tokens at blank = cc
      here (Ready line) at blank = cc

      by_blank : (t : Bool) → is_blank b ≡ t
          → (let u : Scan = cond t (counted s) (cond (b == 99) (record (counted s) { place = Comment }) (record (counted s) { place = Tokens; token = with_byte_pushed Empty b })) in Leads ended u.place u (λ rest. k (b ∷ rest)))
      by_blank true blank = here s.place place blank
      by_blank false solid = by_comment (b == 99) refl solid

  -- another byte in a line of tokens
  in_tokens : s.place ≡ Tokens → Is ended Tokens s text k → Follows ended (step_in_tokens (counted s) b) (λ rest. k (b ∷ rest))
  in_tokens place is = by_blank (is_blank b) refl
    where
      here : (place : Place) (t : Scan) (after : List ℕ) → place ≡ Tokens → t.token ≡ capped (class_of after) → t.read ≤ 33554432 → Is ended Tokens t after (λ rest. k (b ∷ rest))
          → Leads ended place (record t { place = place }) (λ rest. k (b ∷ rest))
      here LineStart t after at same few is = cc
      here Comment t after at same few is = cc
      here Tokens t after at same few is = record { text = after; token = same; few = few; fresh = tt; same = is }
      here (Ready line) t after at same few is = cc

      ends : (r : Result Progress LineFault) → judge_token s.progress text s.line ≡ r → is_blank b ≡ true
          → Follows ended (on_ok r (λ p. Ok (record (counted s) { token = Empty; progress = p }))) (λ rest. k (b ∷ rest))
      ends (Ok p) was blank =
          here s.place (record (counted s) { token = Empty; progress = p }) [] place refl (omega arith)
          (goes_on ended Tokens Tokens s (record (counted s) { token = Empty; progress = p }) text [] k b is feed room refl refl
          (λ w ys. blank_in_tokens s.progress s.line w text b ys blank ∙ ap (λ r. on_ok r (λ q. open_tokens q s.line w [] (parts_of is_blank ys))) was))
      ends (Err fault) was blank =
          fails ended Tokens s text k b fault is feed (λ whole xs. failed Tokens s text whole b xs fault room
          (λ w ys. blank_in_tokens s.progress s.line w text b ys blank ∙ ap (λ r. on_ok r (λ q. open_tokens q s.line w [] (parts_of is_blank ys))) was))

      by_blank : (t : Bool) → is_blank b ≡ t → Follows ended (cond t (end_token (counted s)) (Ok (record (counted s) { token = with_byte_pushed s.token b }))) (λ rest. k (b ∷ rest))
      by_blank true blank = ends (judge_class s.token s.progress s.line) (token_judged s.progress s.token text s.line token) blank
      by_blank false solid =
          here s.place (record (counted s) { token = with_byte_pushed s.token b }) (text ++ b ∷ []) place (ap (λ c. with_byte_pushed c b) token ∙ sym (class_pushed text b)) (omega arith)
          (goes_on ended Tokens Tokens s (record (counted s) { token = with_byte_pushed s.token b }) text (text ++ b ∷ []) k b is feed room refl refl
          (λ w ys. byte_in_tokens s.progress s.line w text b ys solid))

  -- another byte
  byte_follows : (place : Place) → s.place ≡ place → is_ready place ≡ false → IsFresh place s.progress → Is ended place s text k → Follows ended (step_byte place (counted s) b) (λ rest. k (b ∷ rest))
  byte_follows LineStart at idle fresh is = at_start at fresh is
  byte_follows Comment at idle fresh is = here s.place at
    where
      here : (place : Place) → place ≡ Comment → Leads ended place (record (counted s) { place = place }) (λ rest. k (b ∷ rest))
      here LineStart at = cc
      here Comment at = record {
        text = text;
        token = token;
        few = omega arith;
        fresh = tt;
        same = goes_on ended Comment Comment s (record (counted s) { place = Comment }) text text k b is feed room refl refl (λ w ys. refl);
      }
      here Tokens at = cc
      here (Ready line) at = cc
  byte_follows Tokens at idle fresh is = in_tokens at is
  byte_follows (Ready line) at idle fresh is = cc

-- one step follows
step_by : (ended : Bool) (place : Place) (s : Scan) (k : List ℕ → Steps) (b : ℕ) → s.place ≡ place → is_ready place ≡ false → (c : Continues ended s k) → IsFresh place s.progress → Is ended place s c.text k
    → Follows ended (cond (is_line_feed b) (step_feed place s) (cond (leb 33554432 s.read) (Err (LineTooLong s.line)) (step_byte place (counted s) b))) (λ rest. k (b ∷ rest))
step_by ended place s k b at idle c fresh is = by (is_line_feed b) (leb 33554432 s.read) refl refl
  where
    by : (t u : Bool) → is_line_feed b ≡ t → leb 33554432 s.read ≡ u → Follows ended (cond t (step_feed place s) (cond u (Err (LineTooLong s.line)) (step_byte place (counted s) b))) (λ rest. k (b ∷ rest))
    by true u feed full = feed_follows ended place s c.text k b c.token c.few idle is feed
    by false true feed full =
        fails ended place s c.text k b (LineTooLong s.line) is feed (λ whole xs. too_long place s c.text whole b xs (omega (arith, leb-true 33554432 s.read full, c.few)))
    by false false feed full = byte_follows ended s c.text k b c.token feed (leb-false 33554432 s.read full) place at idle fresh is

pub step_follows : (ended : Bool) (s : Scan) (k : List ℕ → Steps) (b : ℕ) → is_ready s.place ≡ false → Continues ended s k → Follows ended (step s b) (λ rest. k (b ∷ rest))
step_follows ended s k b idle c = step_by ended s.place s k b refl idle c c.fresh c.same

-- lines, and then what others say
abbrev pub behind_lines : List Line → Steps → Steps
behind_lines lines steps = record { lines = lines ++ steps.lines; fault = steps.fault }

-- reading led on behind these lines, or to a fault
abbrev pub FollowsTo : Bool → List Line → Result Scan LineFault → (List ℕ → Steps) → Type 0
FollowsTo ended lines (Ok s) k = (l : List ℕ → Steps) × (is_ready s.place ≡ false) × Continues ended s l × ((rest : List ℕ) → k rest ≡ behind_lines lines (l rest))
FollowsTo ended lines (Err fault) k = (rest : List ℕ) → k rest ≡ record { lines = lines; fault = Some fault }

-- with one line in front
one_more : (ended : Bool) (lines : List Line) (last : Result Scan LineFault) (line : Line) (k l : List ℕ → Steps) → ((rest : List ℕ) → k rest ≡ with_line (Ok (Some line)) (l rest))
    → FollowsTo ended lines last l → FollowsTo ended (line ∷ lines) last k
one_more ended lines (Ok s) line k l is follows = (follows.0, follows.1, follows.2, λ rest. is rest ∙ ap (with_line (Ok (Some line))) (follows.3 rest))
one_more ended lines (Err fault) line k l is follows = λ rest. is rest ∙ ap (with_line (Ok (Some line))) (follows rest)

-- all steps follow
pub read_follows : (ended : Bool) (s : Scan) (k : List ℕ → Steps) (bytes : List ℕ) → is_ready s.place ≡ false → Continues ended s k
    → FollowsTo ended (read s bytes).lines (read s bytes).last (λ rest. k (bytes ++ rest))
read_follows ended s k [] idle c = (k, idle, c, λ rest. refl)
read_follows ended s k (b ∷ bs) idle c =
    by (step s b) (λ t l idle follows. read_follows ended t l bs idle follows) (step_follows ended s k b idle c)
  where
    Goal : Outcome → Type 0
    Goal o = FollowsTo ended o.lines o.last (λ rest. k (b ∷ (bs ++ rest)))

    next : (place : Place) (t : Scan) → t.place ≡ place → ((u : Scan) (l : List ℕ → Steps) → is_ready u.place ≡ false → Continues ended u l → FollowsTo ended (read u bs).lines (read u bs).last (λ rest. l (bs ++ rest)))
        → Leads ended place t (λ rest. k (b ∷ rest)) → Goal (handed_at place t (λ u. read u bs))
    next LineStart t at more leads = more t (λ rest. k (b ∷ rest)) (ap is_ready at) leads
    next Comment t at more leads = more t (λ rest. k (b ∷ rest)) (ap is_ready at) leads
    next Tokens t at more leads = more t (λ rest. k (b ∷ rest)) (ap is_ready at) leads
    next (Ready line) t at more leads =
        one_more ended (read (line_start t.line) bs).lines (read (line_start t.line) bs).last (ready_line line t.progress) (λ rest. k (b ∷ (bs ++ rest))) (λ rest. text_from ended t.line (bs ++ rest))
        (λ rest. leads (bs ++ rest)) (more (line_start t.line) (text_from ended t.line) refl (start_continues ended t.line))

    by : (r : Result Scan LineFault) → ((u : Scan) (l : List ℕ → Steps) → is_ready u.place ≡ false → Continues ended u l → FollowsTo ended (read u bs).lines (read u bs).last (λ rest. l (bs ++ rest)))
        → Follows ended r (λ rest. k (b ∷ rest)) → Goal (go_on r (λ u. read u bs))
    by (Ok t) more follows = next t.place t refl more follows
    by (Err fault) more follows = λ rest. follows (bs ++ rest)
