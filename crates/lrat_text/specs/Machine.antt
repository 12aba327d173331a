-- The reader's steps, byte by byte, as the code takes them.
use Rattle.std.specs.Prelude.{ℕ, ◌+◌, ◌-◌, ◌≡◌, ◌⊎◌, ◌≤◌, ◌<◌, ◌==◌, Bool, true, false, nat_le, List, [], ◌∷◌, length, take, Option, Some, None, Result, Ok, Err, if◌then◌else◌}
use Rattle.lit_base.specs.Lines.{is_line_feed, is_blank}
use Rattle.lit_base.specs.Results.{on_ok}
use Rattle.lit_base.specs.Numeral.{IsAtFront}
use Rattle.lit_base.specs.declared.numeral.Numeral.{Numeral}
use Rattle.lit_base.specs.declared.proof.Line.{Line}
use Rattle.lit_base.specs.declared.proof.LineStep.{LineStep}
use Rattle.lit_base.specs.declared.proof.LineStep.TheVariants.{Add, Delete}
use Rattle.lrat_text.specs.declared.fault.LineFault.{LineFault}
use Rattle.lrat_text.specs.declared.fault.LineFault.TheVariants.{Unclosed, LineTooLong, ProofTooLong}
use Rattle.lrat_text.specs.declared.token.Token.{Token}
use Rattle.lrat_text.specs.declared.token.Token.TheVariants.{Empty, Deletion, Minus, Number, Other}
use Rattle.lrat_text.specs.declared.stage.Stage.{Stage}
use Rattle.lrat_text.specs.declared.stage.Stage.TheVariants.{Start, AfterId, Literals, Hints, Ids, Added, Deleted}
use Rattle.lrat_text.specs.declared.progress.Progress.{Progress}
use Rattle.lrat_text.specs.declared.scan.Place.{Place}
use Rattle.lrat_text.specs.declared.scan.Place.TheVariants.{LineStart, Comment, Tokens, Ready}
use Rattle.lrat_text.specs.declared.scan.Scan.{Scan}
use Rattle.lrat_text.specs.Class.{with_byte_pushed}
use Rattle.lrat_text.specs.Judge.{nothing, judge_class, judge_number}
use Rattle.lrat_text.specs.Faults.{OnFault}

-- at the start of a line
abbrev pub line_start : ℕ → Scan
line_start line = record { line = line; read = 0; place = LineStart; token = Empty; progress = nothing }

-- nothing was read yet
abbrev pub start : Scan
start = line_start 1

-- the open token is whole
abbrev pub end_token : Scan → Result Scan LineFault
end_token s = on_ok (judge_class s.token s.progress s.line) (λ p. Ok (record s { token = Empty; progress = p }))

-- the line has ended with a step, which is to be handed out
abbrev pub step_ready : Scan → Scan
step_ready s = record { line = s.line + 1; read = 0; place = Ready s.line; token = Empty; progress = s.progress }

-- a line of tokens ends
abbrev pub close_line : Stage → Scan → Result Scan LineFault
close_line Start s = Ok (line_start (s.line + 1))
close_line AfterId s = Err (Unclosed s.line)
close_line Literals s = Err (Unclosed s.line)
close_line Hints s = Err (Unclosed s.line)
close_line Ids s = Err (Unclosed s.line)
close_line Added s = Ok (step_ready s)
close_line Deleted s = Ok (step_ready s)

-- LF is read in a line of tokens, where none is open
abbrev pub end_line : Scan → Result Scan LineFault
end_line s = close_line s.progress.stage s

-- LF is read
abbrev pub step_feed : Place → Scan → Result Scan LineFault
step_feed LineStart s = Ok (line_start (s.line + 1))
step_feed Comment s = Ok (line_start (s.line + 1))
step_feed Tokens s = on_ok (end_token s) end_line
step_feed (Ready line) s = Ok s

-- another byte where the line has had blanks alone
abbrev pub step_at_start : Scan → ℕ → Scan
step_at_start s byte =
    if is_blank byte then s
    else (if byte == 99 then record s { place = Comment } else record s { place = Tokens; token = with_byte_pushed Empty byte })

-- another byte in a line of tokens
abbrev pub step_in_tokens : Scan → ℕ → Result Scan LineFault
step_in_tokens s byte = if is_blank byte then end_token s else Ok (record s { token = with_byte_pushed s.token byte })

-- another byte
abbrev pub step_byte : Place → Scan → ℕ → Result Scan LineFault
step_byte LineStart s byte = Ok (step_at_start s byte)
step_byte Comment s byte = Ok s
step_byte Tokens s byte = step_in_tokens s byte
step_byte (Ready line) s byte = Ok s

-- the state with one more byte of its line counted
abbrev pub counted : Scan → Scan
counted s = record s { read = s.read + 1 }

-- the next byte; a line has at most 33,554,432
abbrev pub step : Scan → ℕ → Result Scan LineFault
step s byte =
    if is_line_feed byte then step_feed s.place s
    else (if nat_le 33554432 s.read then Err (LineTooLong s.line) else step_byte s.place (counted s) byte)

-- what the tokens of a closed line say
abbrev pub step_at : Stage → Progress → LineStep
step_at Start p = Delete p.id p.ids
step_at AfterId p = Delete p.id p.ids
step_at Literals p = Delete p.id p.ids
step_at Hints p = Delete p.id p.ids
step_at Ids p = Delete p.id p.ids
step_at Added p = Add p.id p.lits p.ids
step_at Deleted p = Delete p.id p.ids

-- the line with this number, of these tokens
abbrev pub ready_line : ℕ → Progress → Line
ready_line line p = record { line = line; step = step_at p.stage p }

-- what bytes were read as: the lines with a step, and what stands behind them, or the first fault
pub record Outcome : Type 0 where
  pub lines : List Line
  pub last : Result Scan LineFault

-- nothing more is read
abbrev pub no_more : Scan → Outcome
no_more s = record { lines = []; last = Ok s }

-- the line is handed out where it is ready, and reading goes on
abbrev pub handed_at : Place → Scan → (Scan → Outcome) → Outcome
handed_at LineStart s more = more s
handed_at Comment s more = more s
handed_at Tokens s more = more s
handed_at (Ready line) s more =
    record { lines = ready_line line s.progress ∷ (more (line_start s.line)).lines; last = (more (line_start s.line)).last }

-- after a byte: reading goes on, or has met a fault
abbrev pub go_on : Result Scan LineFault → (Scan → Outcome) → Outcome
go_on (Ok s) more = handed_at s.place s more
go_on (Err fault) more = record { lines = []; last = Err fault }

-- the bytes in turn
abbrev pub read : Scan → List ℕ → Outcome
read s [] = no_more s
read s (b ∷ bs) = go_on (step s b) (λ t. read t bs)

-- the line that is ready, where one is
abbrev pub line_at : Place → Scan → Option Line
line_at LineStart s = None
line_at Comment s = None
line_at Tokens s = None
line_at (Ready line) s = Some (ready_line line s.progress)

-- whether a line is ready
abbrev pub is_ready : Place → Bool
is_ready LineStart = false
is_ready Comment = false
is_ready Tokens = false
is_ready (Ready line) = true

-- the state behind the line that is ready, or the same
abbrev pub behind_line : Place → Scan → Scan
behind_line LineStart s = s
behind_line Comment s = s
behind_line Tokens s = s
behind_line (Ready line) s = line_start s.line

-- whether the token is empty
abbrev pub is_empty : Token → Bool
is_empty Empty = true
is_empty Deletion = false
is_empty Minus = false
is_empty (Number positive value) = false
is_empty Other = false

-- whether the next byte begins a token, or none is open
abbrev pub is_between : Place → Token → Bool
is_between LineStart token = true
is_between Comment token = false
is_between Tokens token = is_empty token
is_between (Ready line) token = false

-- a blank behind a token that was taken
abbrev pub step_blank : Scan → ℕ → Result Scan LineFault
step_blank s blank = if is_line_feed blank then end_line s else Ok (counted s)

-- a number of so many bytes, as a whole token, and the blank behind it
abbrev pub step_number : Scan → Bool → ℕ → ℕ → ℕ → Result Scan LineFault
step_number s positive value len blank =
    on_ok (judge_number s.progress.stage s.progress positive value s.line)
    (λ p. step_blank (record { line = s.line; read = s.read + len; place = Tokens; token = Empty; progress = p }) blank)

-- what a state stands for where all that was read ends there
abbrev pub outcome_at : Scan → Outcome
outcome_at s = handed_at s.place s no_more

-- so many bytes of the text were read, up to the first line that is ready at the most; or there is a fault
abbrev pub Passes : Scan → List ℕ → Scan → Result ℕ LineFault → Type 0
Passes before bytes after (Ok count) = read before (take count bytes) ≡ outcome_at after
Passes before bytes after (Err fault) = OnFault fault (read before bytes ≡ record { lines = []; last = Err fault })

-- at most one line a byte was passed
abbrev pub PassesLines : ℕ → ℕ → ℕ → Result ℕ LineFault → Type 0
PassesLines before after most (Ok count) = after ≤ before + count
PassesLines before after most (Err fault) = after ≤ before + most

-- the bytes begin with this number, as a whole token within the limit of the line
pub record IsAhead (s : Scan) (numeral : Numeral) (bytes : List ℕ) : Type 0 where
  pub between : is_between s.place s.token ≡ true
  pub front : IsAtFront numeral bytes
  pub room : s.read + numeral.len < 33554432
  pub small : numeral.value < 9223372036854775808

-- as many bytes of the piece are read as there is room for behind `taken` bytes
abbrev pub room_of : ℕ → List ℕ → List ℕ
room_of taken piece = take (1099511627776 - taken) piece

-- so many bytes of the piece were read, and no line is ready: there was room for all; or this line was, and was taken
abbrev pub PieceTaken : Scan → ℕ → List ℕ → Scan → ℕ → Option Line → Type 0
PieceTaken before taken piece after count None =
    (count ≡ length piece) × (read before piece ≡ no_more after) × (taken + length piece ≤ 1099511627776)
PieceTaken before taken piece after count (Some line) =
    (1 ≤ count) × (read before (take count piece) ≡ record { lines = line ∷ []; last = Ok after })

-- a byte is one too many, and no line is ready before it
pub record ReadsTooMany (before : Scan) (taken : ℕ) (piece : List ℕ) (line : ℕ) : Type 0 where
  pub end : Scan
  pub scanned : read before (room_of taken piece) ≡ no_more end
  pub long : 1099511627776 < taken + length piece
  pub at : line ≡ end.line

-- a fault of reading on: one of the bytes that are read, or of the one that is too many
abbrev pub FaultOn : Scan → ℕ → List ℕ → LineFault → Type 0
FaultOn before taken piece fault =
    OnFault fault ((read before (room_of taken piece) ≡ record { lines = []; last = Err fault })
    ⊎ ((line : ℕ) × (fault ≡ ProofTooLong line) × ReadsTooMany before taken piece line))

-- what reading on with a piece leaves and answers behind `taken` bytes, where no line is ready
abbrev pub PieceRead : Scan → ℕ → List ℕ → Scan → ℕ → Result (ℕ × Option Line) LineFault → Type 0
PieceRead before taken piece after total (Ok count) = (total ≡ taken + count.0) × (count.0 ≤ length piece) × PieceTaken before taken piece after count.0 count.1
PieceRead before taken piece after total (Err fault) = FaultOn before taken piece fault

-- what the LF at the end of the text leads to: the line that is ready then, or none; or a fault
abbrev pub EndRead : Scan → Result (Option Line) LineFault → Type 0
EndRead before (Ok line) = (after : Scan) × (step before 10 ≡ Ok after) × (line ≡ line_at after.place after)
EndRead before (Err fault) = OnFault fault (step before 10 ≡ Err fault)
