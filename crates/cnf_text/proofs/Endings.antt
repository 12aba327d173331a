-- The reader's steps, and the line of the end.
use Rattle.std.proofs.Common.{◌≡◌, ℕ, ◌+◌, ◌==◌, Bool, true, false, cond, leb, length, List, [], ◌∷◌, ◌++◌, refl, sym, ap, ◌∙◌, arith, Some, Result, Ok, Err}
use Rattle.std.proofs.lemmas.Bool.{eqb-true, ne_eqb}
use Rattle.cnf_text.specs.declared.fault.CnfFault.{CnfFault}
use Rattle.cnf_text.specs.declared.fault.CnfFault.TheVariants.{TooLong}
use Rattle.cnf_text.specs.declared.scan.Place.{Place}
use Rattle.cnf_text.specs.declared.scan.Place.TheVariants.{LineStart, Comment, Tokens, Ended}
use Rattle.cnf_text.specs.declared.scan.Scan.{Scan}
use Rattle.lit_base.specs.Parts.{Parts, parts_of}
use Rattle.lit_base.specs.Results.{on_ok}
use Rattle.lit_base.specs.Lines.{is_line_feed, is_blank, mark_of}
use Rattle.cnf_text.specs.Pieces.{is_end, has_end, last_line}
use Rattle.cnf_text.specs.Progress.{ProgressState}
use Rattle.cnf_text.specs.Judge.{judge_token, judge_line_end}
use Rattle.cnf_text.specs.Machine.{end_token, end_line, push_byte, step_at_start, step_in_comment, step_in_tokens, step_at, step, steps}
use Rattle.lit_base.proofs.LineParts.{parts_of_is, with_byte, solid_no_feed}

-- whether a line ends the input, and the line of the end
pub record Ending : Type 0 where
  pub ended : Bool
  pub line : ℕ

-- of lines, of which the first has this number
abbrev pub ending : ℕ → List ℕ → List (List ℕ) → Ending
ending line bytes others = record { ended = has_end bytes others; line = last_line line bytes others }

-- of the lines behind a line with this number that doesn't end the input
abbrev pub ending_behind : ℕ → List (List ℕ) → Ending
ending_behind line [] = record { ended = false; line = line }
ending_behind line (next ∷ more) = ending (line + 1) next more

-- of what is left, by where the next byte stands
abbrev pub ending_at : Place → ℕ → Parts → Ending
ending_at LineStart line lines = ending line lines.first lines.others
ending_at Comment line lines = ending_behind line lines.others
ending_at Tokens line lines = ending_behind line lines.others
ending_at Ended line lines = record { ended = true; line = line }

-- of a line by its mark
abbrev ending_by : Bool → ℕ → List (List ℕ) → Ending
ending_by true line others = record { ended = true; line = line }
ending_by false line others = ending_behind line others

ending_is : (line : ℕ) (bytes : List ℕ) (others : List (List ℕ)) → ending line bytes others ≡ ending_by (is_end (mark_of bytes)) line others
ending_is line bytes [] = by (is_end (mark_of bytes))
  where
    by : (t : Bool) → (let e : Ending = record { ended = t; line = line } in e) ≡ ending_by t line []
    by true = refl
    by false = refl
ending_is line bytes (next ∷ more) = by (is_end (mark_of bytes))
  where
    by : (t : Bool) → (let e : Ending = record { ended = cond t true (has_end next more); line = cond t line (last_line (line + 1) next more) } in e) ≡ ending_by t line (next ∷ more)
    by true = refl
    by false = refl

blank_first : (line b : ℕ) (bytes : List ℕ) (others : List (List ℕ)) → is_blank b ≡ true → ending line (b ∷ bytes) others ≡ ending line bytes others
blank_first line b bytes others is =
    ending_is line (b ∷ bytes) others ∙ ap (λ t. ending_by (is_end (cond t (mark_of bytes) (Some b))) line others) is ∙ sym (ending_is line bytes others)

other_first : (line b : ℕ) (bytes : List ℕ) (others : List (List ℕ)) (t : Bool) → is_blank b ≡ false → (b == 37) ≡ t → ending line (b ∷ bytes) others ≡ ending_by t line others
other_first line b bytes others t solid is =
    ending_is line (b ∷ bytes) others ∙ ap (λ u. ending_by (is_end (cond u (mark_of bytes) (Some b))) line others) solid ∙ ap (λ u. ending_by u line others) is

-- the reader stands where the ending of each rest is this one
abbrev pub StandsAt : Place → ℕ → (List ℕ → Ending) → Type 0
StandsAt place line k = (rest : List ℕ) → k rest ≡ ending_at place line (parts_of is_line_feed rest)

abbrev pub Stands : Result Scan CnfFault → (List ℕ → Ending) → Type 0
Stands (Ok s) k = StandsAt s.place s.line k
Stands (Err fault) k = Unit {0}

ahead : (place : Place) (line : ℕ) (k : List ℕ → Ending) (b : ℕ) (t : Bool) → StandsAt place line k → is_line_feed b ≡ t
    → (rest : List ℕ) → k (b ∷ rest) ≡ ending_at place line (with_byte t b (parts_of is_line_feed rest))
ahead place line k b t is feed rest = is (b ∷ rest) ∙ ap (ending_at place line) (parts_of_is is_line_feed b rest t feed)

line_end_stands : (s : Scan) (k : List ℕ → Ending) → StandsAt LineStart (s.line + 1) k → Stands (end_line s) k
line_end_stands s k is = by (judge_line_end s.progress.stage s.progress s.line)
  where
    by : (r : Result ProgressState CnfFault) → Stands (on_ok r (λ p. Ok (record { line = s.line + 1; place = LineStart; token = []; progress = p }))) k
    by (Ok p) = is
    by (Err fault) = tt

at_start : (s : Scan) (k : List ℕ → Ending) (b : ℕ) → s.place ≡ LineStart → StandsAt LineStart s.line k → Stands (step_at_start s b) (λ rest. k (b ∷ rest))
at_start s k b place is = by_feed (is_line_feed b) refl
  where
    other : (t : Bool) → is_line_feed b ≡ false → is_blank b ≡ false → (b == 37) ≡ t → (rest : List ℕ) → k (b ∷ rest) ≡ ending_by t s.line (parts_of is_line_feed rest).others
    other t feed solid end rest = ahead LineStart s.line k b false is feed rest ∙ other_first s.line b (parts_of is_line_feed rest).first (parts_of is_line_feed rest).others t solid end

    by_end : (t : Bool) → (b == 37) ≡ t → is_line_feed b ≡ false → is_blank b ≡ false → Stands (cond t (Ok (record s { place = Ended })) (Ok (record s { place = Tokens; token = b ∷ [] }))) (λ rest. k (b ∷ rest))
    by_end true end feed solid = other true feed solid end
    by_end false end feed solid = other false feed solid end

    by_comment : (t : Bool) → (b == 99) ≡ t → is_line_feed b ≡ false → is_blank b ≡ false
        → Stands (cond t (Ok (record s { place = Comment })) (cond (b == 37) (Ok (record s { place = Ended })) (Ok (record s { place = Tokens; token = b ∷ [] })))) (λ rest. k (b ∷ rest))
    by_comment true comment feed solid = other false feed solid (ne_eqb b 37 (λ e. omega (arith, eqb-true b 99 comment)))
    by_comment false comment feed solid = by_end (b == 37) refl feed solid

    by_blank : (t : Bool) → is_blank b ≡ t → is_line_feed b ≡ false
        → Stands (cond t (Ok s) (cond (b == 99) (Ok (record s { place = Comment })) (cond (b == 37) (Ok (record s { place = Ended })) (Ok (record s { place = Tokens; token = b ∷ [] }))))) (λ rest. k (b ∷ rest))
    by_blank true blank feed = λ rest.
        ahead LineStart s.line k b false is feed rest ∙ blank_first s.line b (parts_of is_line_feed rest).first (parts_of is_line_feed rest).others blank
        ∙ ap (λ p. ending_at p s.line (parts_of is_line_feed rest)) (sym place)
    by_blank false solid feed = by_comment (b == 99) refl feed solid

    by_feed : (t : Bool) → is_line_feed b ≡ t
        → Stands (cond t (end_line s) (cond (is_blank b) (Ok s) (cond (b == 99) (Ok (record s { place = Comment })) (cond (b == 37) (Ok (record s { place = Ended })) (Ok (record s { place = Tokens; token = b ∷ [] })))))) (λ rest. k (b ∷ rest))
    by_feed true feed = line_end_stands s (λ rest. k (b ∷ rest)) (ahead LineStart s.line k b true is feed)
    by_feed false feed = by_blank (is_blank b) refl feed

in_comment : (s : Scan) (k : List ℕ → Ending) (b : ℕ) → s.place ≡ Comment → StandsAt Comment s.line k → Stands (step_in_comment s b) (λ rest. k (b ∷ rest))
in_comment s k b place is = by (is_line_feed b) refl
  where
    by : (t : Bool) → is_line_feed b ≡ t → Stands (cond t (end_line s) (Ok s)) (λ rest. k (b ∷ rest))
    by true feed = line_end_stands s (λ rest. k (b ∷ rest)) (ahead Comment s.line k b true is feed)
    by false feed = λ rest. ahead Comment s.line k b false is feed rest ∙ ap (λ p. ending_at p s.line (parts_of is_line_feed rest)) (sym place)

in_tokens : (s : Scan) (k : List ℕ → Ending) (b : ℕ) → s.place ≡ Tokens → StandsAt Tokens s.line k → Stands (step_in_tokens s b) (λ rest. k (b ∷ rest))
in_tokens s k b place is = by_blank (is_blank b) refl
  where
    stays : is_line_feed b ≡ false → StandsAt s.place s.line (λ rest. k (b ∷ rest))
    stays feed rest = ahead Tokens s.line k b false is feed rest ∙ ap (λ p. ending_at p s.line (parts_of is_line_feed rest)) (sym place)

    feeds : (r : Result ProgressState CnfFault) → is_line_feed b ≡ true → Stands (on_ok (on_ok r (λ p. Ok (record s { token = []; progress = p }))) end_line) (λ rest. k (b ∷ rest))
    feeds (Ok p) feed = line_end_stands (record s { token = []; progress = p }) (λ rest. k (b ∷ rest)) (ahead Tokens s.line k b true is feed)
    feeds (Err fault) feed = tt

    ends : (r : Result ProgressState CnfFault) → is_line_feed b ≡ false → Stands (on_ok r (λ p. Ok (record s { token = []; progress = p }))) (λ rest. k (b ∷ rest))
    ends (Ok p) feed = stays feed
    ends (Err fault) feed = tt

    grows : (t : Bool) → is_line_feed b ≡ false → Stands (cond t (Err (TooLong s.line)) (Ok (record s { token = s.token ++ b ∷ [] }))) (λ rest. k (b ∷ rest))
    grows true feed = tt
    grows false feed = stays feed

    by_line : (t : Bool) → is_line_feed b ≡ t → Stands (cond t (on_ok (end_token s) end_line) (end_token s)) (λ rest. k (b ∷ rest))
    by_line true feed = feeds (judge_token s.progress s.token s.line) feed
    by_line false feed = ends (judge_token s.progress s.token s.line) feed

    by_blank : (t : Bool) → is_blank b ≡ t → Stands (cond t (cond (is_line_feed b) (on_ok (end_token s) end_line) (end_token s)) (push_byte s b)) (λ rest. k (b ∷ rest))
    by_blank true blank = by_line (is_line_feed b) refl
    by_blank false solid = grows (leb 64 (length s.token)) (solid_no_feed b solid)

step_by : (place : Place) (s : Scan) (k : List ℕ → Ending) (b : ℕ) → s.place ≡ place → StandsAt place s.line k → Stands (step_at place s b) (λ rest. k (b ∷ rest))
step_by LineStart s k b at is = at_start s k b at is
step_by Comment s k b at is = in_comment s k b at is
step_by Tokens s k b at is = in_tokens s k b at is
step_by Ended s k b at is = λ rest. is (b ∷ rest) ∙ sym (ap (λ p. ending_at p s.line (parts_of is_line_feed rest)) at)

-- the steps keep the ending
pub steps_stand : (s : Scan) (k : List ℕ → Ending) (bytes : List ℕ) → StandsAt s.place s.line k → Stands (steps s bytes) (λ rest. k (bytes ++ rest))
steps_stand s k [] is = is
steps_stand s k (b ∷ bs) is =
    next (step s b) (λ t stands. steps_stand t (λ rest. k (b ∷ rest)) bs stands) (step_by s.place s k b refl is)
  where
    next : (r : Result Scan CnfFault) → ((t : Scan) → StandsAt t.place t.line (λ rest. k (b ∷ rest)) → Stands (steps t bs) (λ rest. k (b ∷ (bs ++ rest))))
        → Stands r (λ rest. k (b ∷ rest)) → Stands (on_ok r (λ t. steps t bs)) (λ rest. k (b ∷ (bs ++ rest)))
    next (Ok t) more stands = more t stands
    next (Err fault) more stands = tt
