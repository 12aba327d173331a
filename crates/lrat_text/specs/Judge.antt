-- The judgement of the tokens of a line, one after the other: which is the first fault, and what a line without one says.
use Rattle.std.specs.Prelude.{ℕ, ◌==◌, Bool, true, false, nat_lt, nat_le, ◌||◌, List, [], ◌∷◌, ◌++◌, length, take, Option, Some, None, Result, Ok, Err, if◌then◌else◌}
use Rattle.lit_base.specs.Lines.{is_blank, mark_of, is_comment}
use Rattle.lit_base.specs.Parts.{parts_of}
use Rattle.lit_base.specs.Results.{on_ok}
use Rattle.lit_base.specs.declared.proof.Line.{Line}
use Rattle.lit_base.specs.declared.proof.LineStep.TheVariants.{Add, Delete}
use Rattle.lrat_text.specs.declared.fault.LineFault.{LineFault}
use Rattle.lrat_text.specs.declared.fault.LineFault.TheVariants.{BadToken, Unclosed, RatHint, LineTooLong}
use Rattle.lrat_text.specs.declared.token.Token.{Token}
use Rattle.lrat_text.specs.declared.token.Token.TheVariants.{Empty, Deletion, Minus, Number, Other}
use Rattle.lrat_text.specs.declared.stage.Stage.{Stage}
use Rattle.lrat_text.specs.declared.stage.Stage.TheVariants.{Start, AfterId, Literals, Hints, Ids, Added, Deleted}
use Rattle.lrat_text.specs.declared.progress.Progress.{Progress}
use Rattle.lrat_text.specs.Class.{class_of}

-- nothing of a line was taken yet
abbrev pub nothing : Progress
nothing = record { stage = Start; id = 0; lits = []; ids = [] }

-- the line's own id: digits of a value from 1 to 2^63 - 1
abbrev pub judge_id : Progress → ℕ → ℕ → Result Progress LineFault
judge_id p value line =
    if (value == 0) || nat_le 9223372036854775808 value then Err (BadToken line) else Ok (record p { stage = AfterId; id = value })

-- `0` ends the literals, and `-0` is none
abbrev pub judge_literals_end : Progress → Bool → ℕ → Result Progress LineFault
judge_literals_end p true line = Ok (record p { stage = Hints })
judge_literals_end p false line = Err (BadToken line)

-- a literal of a variable from 1 to 1,000,000, or the end of the literals
abbrev pub judge_literal : Progress → Bool → ℕ → ℕ → Result Progress LineFault
judge_literal p positive value line =
    if value == 0 then judge_literals_end p positive line
    else (if nat_lt 1000000 value then Err (BadToken line)
    else Ok (record p { stage = Literals; lits = p.lits ++ record { variable = value; positive = positive } ∷ [] }))

-- the id of a clause, from 1 to 2^63 - 1, or the last `0` of the line
abbrev pub judge_listed : Progress → Stage → ℕ → ℕ → Result Progress LineFault
judge_listed p last value line =
    if value == 0 then Ok (record p { stage = last })
    else (if nat_le 9223372036854775808 value then Err (BadToken line) else Ok (record p { ids = p.ids ++ value ∷ [] }))

-- a hint; with a `-` it is one of another kind of proof
abbrev pub judge_hint : Progress → Bool → ℕ → ℕ → Result Progress LineFault
judge_hint p true value line = judge_listed p Added value line
judge_hint p false value line = if value == 0 then Err (BadToken line) else Err (RatHint line)

-- the id of a clause to be deleted
abbrev pub judge_deleted : Progress → Bool → ℕ → ℕ → Result Progress LineFault
judge_deleted p true value line = judge_listed p Deleted value line
judge_deleted p false value line = Err (BadToken line)

-- a number where the line's own id stands
abbrev pub judge_first : Progress → Bool → ℕ → ℕ → Result Progress LineFault
judge_first p true value line = judge_id p value line
judge_first p false value line = Err (BadToken line)

-- a number, by the stage
abbrev pub judge_number : Stage → Progress → Bool → ℕ → ℕ → Result Progress LineFault
judge_number Start p positive value line = judge_first p positive value line
judge_number AfterId p positive value line = judge_literal p positive value line
judge_number Literals p positive value line = judge_literal p positive value line
judge_number Hints p positive value line = judge_hint p positive value line
judge_number Ids p positive value line = judge_deleted p positive value line
judge_number Added p positive value line = Err (BadToken line)
judge_number Deleted p positive value line = Err (BadToken line)

-- `d` stands behind the line's own id alone
abbrev pub judge_deletion : Stage → Progress → ℕ → Result Progress LineFault
judge_deletion Start p line = Err (BadToken line)
judge_deletion AfterId p line = Ok (record p { stage = Ids })
judge_deletion Literals p line = Err (BadToken line)
judge_deletion Hints p line = Err (BadToken line)
judge_deletion Ids p line = Err (BadToken line)
judge_deletion Added p line = Err (BadToken line)
judge_deletion Deleted p line = Err (BadToken line)

-- a token, by its class; an empty one means nothing
abbrev pub judge_class : Token → Progress → ℕ → Result Progress LineFault
judge_class Empty p line = Ok p
judge_class Deletion p line = judge_deletion p.stage p line
judge_class Minus p line = Err (BadToken line)
judge_class (Number positive value) p line = judge_number p.stage p positive value line
judge_class Other p line = Err (BadToken line)

-- a whole token
abbrev pub judge_token : Progress → List ℕ → ℕ → Result Progress LineFault
judge_token p token line = judge_class (class_of token) p line

-- the tokens of a line in turn: the last is whole where the line is, and isn't judged before
abbrev pub judge_tokens : Progress → ℕ → Bool → List ℕ → List (List ℕ) → Result Progress LineFault
judge_tokens p line whole token [] = if whole then judge_token p token line else Ok p
judge_tokens p line whole token (next ∷ more) =
    on_ok (judge_token p token line) (λ q. judge_tokens q line whole next more)

-- the tokens of a line between its blanks; a comment has none
abbrev pub judge_content : ℕ → Bool → List ℕ → Result Progress LineFault
judge_content line whole bytes =
    if is_comment (mark_of bytes) then Ok nothing
    else judge_tokens nothing line whole (parts_of is_blank bytes).first (parts_of is_blank bytes).others

-- a line of at most so many bytes; of a longer one these are judged first
abbrev pub judge_within : ℕ → ℕ → Bool → List ℕ → Result Progress LineFault
judge_within most line whole bytes =
    if nat_lt most (length bytes) then on_ok (judge_content line false (take most bytes)) (λ p. Err (LineTooLong line))
    else judge_content line whole bytes

-- what a line says at its end: nothing where it had no token, a step where it is closed
abbrev pub line_end_at : Stage → Progress → ℕ → Result (Option Line) LineFault
line_end_at Start p line = Ok None
line_end_at AfterId p line = Err (Unclosed line)
line_end_at Literals p line = Err (Unclosed line)
line_end_at Hints p line = Err (Unclosed line)
line_end_at Ids p line = Err (Unclosed line)
line_end_at Added p line = Ok (Some (record { line = line; step = Add p.id p.lits p.ids }))
line_end_at Deleted p line = Ok (Some (record { line = line; step = Delete p.id p.ids }))

-- a line that is whole has its end judged too
abbrev pub line_end : Bool → Progress → ℕ → Result (Option Line) LineFault
line_end whole p line = if whole then line_end_at p.stage p line else Ok None

-- the step of a line of at most so many bytes, where it has one, or its first fault
abbrev pub step_within : ℕ → ℕ → Bool → List ℕ → Result (Option Line) LineFault
step_within most line whole bytes = on_ok (judge_within most line whole bytes) (λ p. line_end whole p line)

-- a line has at most 33,554,432 bytes
abbrev pub line_step : ℕ → Bool → List ℕ → Result (Option Line) LineFault
line_step line whole bytes = step_within 33554432 line whole bytes
