use Rattle.std.proofs.Common.{◌≡◌, ℕ, ◌+◌, ◌-◌, ◌*◌, ◌/◌, ◌<◌, ◌++◌, List, [], Bool, length, take, drop, refl, sym, arith}
use Rattle.std.specs.Prelude.{flat_map}
use Rattle.std.specs.Simd.{first_chunks}
use Rattle.lit_base.specs.Text.{value_words, value_line}
use Rattle.lit_base.proofs.ValueLines.{lines_step}
use Rattle.answer_text.proofs.Passed.{IsUnderway-passed, IsUnderway-stopped, IsUnderway-refused}
use Rattle.answer_text.proofs.values.put_model.Goals as goal

-- the line of this number, and the lines from this one on
abbrev line_at : List Bool → ℕ → List ℕ
line_at values line = value_line (take 16 (drop (16 * line) (value_words 1 values)))

abbrev lines_from : List Bool → ℕ → List ℕ
lines_from values line = flat_map value_line (first_chunks 16 (length values / 16 + 1 - line) (drop (16 * line) (value_words 1 values)))

-- the first of the lines from this one on
line_comes : (values : List Bool) (line : ℕ) → line < length values / 16 + 1 → lines_from values line ≡ line_at values line ++ lines_from values (line + 1)
line_comes values line below = sym (lines_step (value_words 1 values) (length values / 16 + 1) line [] (line_at values line) below refl)

-- memory ran out at a line
pub returns-in_err-push_line : goal.returns-in_err-push_line
returns-in_err-push_line g c = rw (← c.values-values.ensures)
    (IsUnderway-refused _ c.from_residual.result c.from_residual.ensures.1 c.loop-line.invariant)

-- the writing stopped at a line
pub returns-in_err-make_room : goal.returns-in_err-make_room
returns-in_err-make_room g c =
    let values = c.values-values.result.now in
    let line = c.loop-line.line in
    rw (← c.values-values.ensures)
    (IsUnderway-stopped (line_at values line) (lines_from values (line + 1)) c.push_line.new.buffer.items c.make_room.new.buffer.items _
    c.from_residual-in_err-make_room.result c.from_residual-in_err-make_room.ensures.1 c.loop-line.invariant (line_comes values line (omega arith))
    c.in_ok-push_line.ensures c.in_err-make_room.ensures)

-- one more line went through
pub loop-line-preserved : goal.loop-line-preserved
loop-line-preserved g c =
    let values = c.values-values.result.now in
    let line = c.loop-line.line in
    IsUnderway-passed (line_at values line) (lines_from values (line + 1)) c.push_line.new.buffer.items c.make_room.new.buffer.items
    c.loop-line.invariant (line_comes values line (omega arith)) c.in_ok-push_line.ensures c.in_ok-make_room.ensures
