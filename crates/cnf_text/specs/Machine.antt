-- The reader's steps, byte by byte, as the code takes them.
use Rattle.std.specs.Prelude.{ℕ, ◌+◌, ◌-◌, ◌≡◌, ◌⊎◌, ◌≤◌, ◌<◌, ◌==◌, Bool, true, false, nat_le, List, [], ◌∷◌, ◌++◌, length, take, drop, Result, Ok, Err, if◌then◌else◌}
use Rattle.cnf_text.specs.declared.fault.CnfFault.{CnfFault}
use Rattle.cnf_text.specs.declared.fault.CnfFault.TheVariants.{TooLong, OverLimit}
use Rattle.cnf_text.specs.declared.fault.Which.TheVariants.{Bytes}
use Rattle.lit_base.specs.Cnf.{Cnf}
use Rattle.cnf_text.specs.declared.scan.Place.{Place}
use Rattle.cnf_text.specs.declared.scan.Place.TheVariants.{LineStart, Comment, Tokens, Ended}
use Rattle.cnf_text.specs.declared.scan.Scan.{Scan}
use Rattle.lit_base.specs.Results.{on_ok}
use Rattle.cnf_text.specs.Faults.{OnFault}
use Rattle.lit_base.specs.Lines.{is_line_feed, is_blank}
use Rattle.cnf_text.specs.Judge.{nothing, judge_token, judge_line_end, judge_number, finish}

-- nothing was read yet
abbrev pub start : Scan
start = record { line = 1; place = LineStart; token = []; progress = nothing }

-- the open token is whole
abbrev pub end_token : Scan → Result Scan CnfFault
end_token s = on_ok (judge_token s.progress s.token s.line) (λ p. Ok (record s { token = []; progress = p }))

-- LF is read
abbrev pub end_line : Scan → Result Scan CnfFault
end_line s =
    on_ok (judge_line_end s.progress.stage s.progress s.line)
    (λ p. Ok (record { line = s.line + 1; place = LineStart; token = []; progress = p }))

-- one more byte of the open token
abbrev pub push_byte : Scan → ℕ → Result Scan CnfFault
push_byte s byte = if nat_le 64 (length s.token) then Err (TooLong s.line) else Ok (record s { token = s.token ++ byte ∷ [] })

-- a byte where the line has had blanks alone
abbrev pub step_at_start : Scan → ℕ → Result Scan CnfFault
step_at_start s byte =
    if is_line_feed byte then end_line s
    else (if is_blank byte then Ok s
    else (if byte == 99 then Ok (record s { place = Comment })
    else (if byte == 37 then Ok (record s { place = Ended })
    else Ok (record s { place = Tokens; token = byte ∷ [] }))))

-- a byte of a comment
abbrev pub step_in_comment : Scan → ℕ → Result Scan CnfFault
step_in_comment s byte = if is_line_feed byte then end_line s else Ok s

-- a byte of a line of tokens
abbrev pub step_in_tokens : Scan → ℕ → Result Scan CnfFault
step_in_tokens s byte =
    if is_blank byte then (if is_line_feed byte then on_ok (end_token s) end_line else end_token s) else push_byte s byte

-- a byte, by where it stands
abbrev pub step_at : Place → Scan → ℕ → Result Scan CnfFault
step_at LineStart s byte = step_at_start s byte
step_at Comment s byte = step_in_comment s byte
step_at Tokens s byte = step_in_tokens s byte
step_at Ended s byte = Ok s

-- the next byte
abbrev pub step : Scan → ℕ → Result Scan CnfFault
step s byte = step_at s.place s byte

-- the bytes in turn
abbrev pub steps : Scan → List ℕ → Result Scan CnfFault
steps s [] = Ok s
steps s (b ∷ bs) = on_ok (step s b) (λ t. steps t bs)

-- whether the line that ends the input was met
abbrev pub is_ended_at : Place → Bool
is_ended_at LineStart = false
is_ended_at Comment = false
is_ended_at Tokens = false
is_ended_at Ended = true

-- whether the next byte begins a token, or none is open
abbrev pub is_between : Place → List ℕ → Bool
is_between LineStart token = true
is_between Comment token = false
is_between Tokens token = length token == 0
is_between Ended token = false

-- whether the next byte is one of a comment, or ends it
abbrev pub is_commented : Place → Bool
is_commented LineStart = false
is_commented Comment = true
is_commented Tokens = false
is_commented Ended = false

-- a blank
abbrev pub step_blank : Scan → ℕ → Result Scan CnfFault
step_blank s blank = if is_line_feed blank then end_line s else Ok s

-- a number, as a whole token, and the blank behind it
abbrev pub step_number : Scan → Bool → ℕ → ℕ → Result Scan CnfFault
step_number s positive value blank =
    on_ok (judge_number s.progress positive value s.line)
    (λ p. step_blank (record { line = s.line; place = Tokens; token = []; progress = p }) blank)

-- so many bytes of the text were read, and these steps are left; or there is a fault
abbrev pub Passes : Scan → List ℕ → Scan → Result ℕ CnfFault → Type 0
Passes before bytes after (Ok count) = (steps before bytes ≡ steps after (drop count bytes)) × (count ≤ length bytes) × (after.line ≤ before.line + count)
Passes before bytes after (Err fault) = OnFault fault (steps before bytes ≡ Err fault) × (after.line ≤ before.line + length bytes)

-- what stands at the end of the text: the formula, or its fault
abbrev pub ends_at : Scan → Result Cnf CnfFault
ends_at s = on_ok (steps s (10 ∷ [])) (λ t. finish t.progress s.line)

-- as many bytes of the piece are read as there is room for behind `read` bytes
abbrev pub room_of : ℕ → List ℕ → List ℕ
room_of read piece = take (268435456 - read) piece

-- the front of the piece that there is room for is read, and no byte is one too many
pub record ReadsAll (before : Scan) (read : ℕ) (piece : List ℕ) (after : Scan) : Type 0 where
  pub scanned : steps before (room_of read piece) ≡ Ok after
  pub room : is_ended_at after.place ≡ false → read + length piece ≤ 268435456

-- a byte is one too many, and what was read before it doesn't end the input
pub record ReadsTooMany (before : Scan) (read : ℕ) (piece : List ℕ) (line : ℕ) : Type 0 where
  pub end : Scan
  pub scanned : steps before (room_of read piece) ≡ Ok end
  pub more : is_ended_at end.place ≡ false
  pub long : 268435456 < read + length piece
  pub at : line ≡ end.line

-- a fault of reading on: one of the bytes that are read, or of the one that is too many
abbrev pub FaultOn : Scan → ℕ → List ℕ → CnfFault → Type 0
FaultOn before read piece fault = OnFault fault ((steps before (room_of read piece) ≡ Err fault) ⊎ ((line : ℕ) × (fault ≡ OverLimit Bytes line) × ReadsTooMany before read piece line))

-- what reading on answers
abbrev pub Reads : {A : Type 0} → Scan → ℕ → List ℕ → Scan → Result A CnfFault → Type 0
Reads before read piece after (Ok done) = ReadsAll before read piece after
Reads before read piece after (Err fault) = FaultOn before read piece fault

-- what reading on leaves and answers
pub record ReadsOn {A : Type 0} (before : Scan) (read : ℕ) (piece : List ℕ) (after : Scan) (total : ℕ) (answer : Result A CnfFault) : Type 0 where
  pub counted : total ≡ read + length (room_of read piece)
  pub judged : Reads before read piece after answer
