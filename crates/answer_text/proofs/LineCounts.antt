-- How many lines the texts of a trace have.
use Rattle.std.proofs.Common.{◌≡◌, ℕ, zero, suc, ◌+◌, ◌<◌, ◌^◌, ◌==◌, Bool, true, false, cond, List, [], ◌∷◌, ◌++◌, length, Option, Some, None, refl, ap, ◌∙◌, arith}
use Rattle.std.specs.Prelude.{codes, decimal, flat_map, if◌then◌else◌, ℤ, pos, ◌+ℤ◌, nat_abs}
use Rattle.std.specs.List.{list_all, range_with_len}
use Rattle.std.specs.Char.{is_ascii_digit}
use Rattle.std.specs.Int.{int_min, int_max}
use Rattle.std.proofs.lemmas.Bool.{and_parts, ne_eqb}
use Rattle.std.proofs.lemmas.List.Sums.{sum_by-append}
use Rattle.std.proofs.lemmas.Int.{ints, clamps}
use Rattle.lit_base.proofs.Numerals.{digit_range, decimal_is}
use Rattle.core_rows.specs.declared.row.Row.{Row}
use Rattle.core_rows.specs.Rows.{row_of}
use Rattle.core_rows.proofs.InRange.{row_in_range}
use Rattle.solo_core.specs.First.{share_of_core}
use Rattle.solo_core.specs.declared.sheet.Settings.{Settings}
use Rattle.crew.specs.declared.trace.TraceRow.{TraceRow}
use Rattle.answer_text.specs.Trace.{core_line, core_line_of, core_lines, era_line, era_lines, winner_line, phase_digit}
use Rattle.answer_text.specs.Laws.{line_count, FitsRow, FitRows}

-- the lines of two texts
pub line_count-append : (xs ys : List ℕ) → line_count (xs ++ ys) ≡ line_count xs + line_count ys
line_count-append xs ys = sum_by-append (λ byte. cond (byte == 10) 1 0) xs ys

-- digits have no end of a line
digits_on_a_line : (ds : List ℕ) → list_all is_ascii_digit ds ≡ true → line_count ds ≡ 0
digits_on_a_line [] all = refl
digits_on_a_line (d ∷ ds) all =
    let parts = and_parts (is_ascii_digit d) (list_all is_ascii_digit ds) all in
    let range = digit_range d parts.0 in
    rw (ne_eqb d 10 (λ e. omega arith)) (digits_on_a_line ds parts.1)

-- a mark and a number add no line
word_on_a_line : (before mark : List ℕ) (n : ℕ) → n < 2 ^ 64 → line_count mark ≡ 0 → line_count before ≡ 0 → line_count (before ++ mark ++ decimal n) ≡ 0
word_on_a_line before mark n small none on_a_line =
    let is = decimal_is 20 n (omega arith) (omega arith) small in
    let digits : line_count (decimal n) ≡ 0 = ap line_count is.is ∙ digits_on_a_line (is.digit ∷ is.digits) is.all in
    let behind : line_count (before ++ mark ++ decimal n) ≡ line_count (before ++ mark) + line_count (decimal n) = line_count-append (before ++ mark) (decimal n) in
    let front : line_count (before ++ mark) ≡ line_count before + line_count mark = line_count-append before mark in
    omega arith

-- the end of a line
ended_line : (text : List ℕ) → line_count text ≡ 0 → line_count (text ++ codes "\n") ≡ 1
ended_line text on_a_line =
    let whole : line_count (text ++ codes "\n") ≡ line_count text + 1 = line_count-append text (codes "\n") in
    omega arith

-- the line of a core is one
core_is_a_line : (core : ℕ) (row : Row) (share : ℕ) → core < 2 ^ 64 → phase_digit row.phase < 2 ^ 64 → row.unit < 2 ^ 64 → row.weight < 2 ^ 64 → row.halve < 2 ^ 64 → row.noise < 2 ^ 64 →
    share < 2 ^ 64 → line_count (core_line core row share) ≡ 1
core_is_a_line core row share has_core has_phase has_unit has_weight has_halve has_noise has_share =
    let to_core = codes "c core " ++ decimal core in
    let to_phase = to_core ++ codes " phase " ++ decimal (phase_digit row.phase) in
    let to_unit = to_phase ++ codes " unit " ++ decimal row.unit in
    let to_weight = to_unit ++ codes " weight " ++ decimal row.weight in
    let to_halve = to_weight ++ codes " halve " ++ decimal row.halve in
    let to_noise = to_halve ++ codes " noise " ++ decimal row.noise in
    ended_line (to_noise ++ codes " share " ++ decimal share)
    (word_on_a_line to_noise (codes " share ") share has_share refl
    (word_on_a_line to_halve (codes " noise ") row.noise has_noise refl
    (word_on_a_line to_weight (codes " halve ") row.halve has_halve refl
    (word_on_a_line to_unit (codes " weight ") row.weight has_weight refl
    (word_on_a_line to_phase (codes " unit ") row.unit has_unit refl
    (word_on_a_line to_core (codes " phase ") (phase_digit row.phase) has_phase refl
    (word_on_a_line [] (codes "c core ") core has_core refl refl)))))))

-- and so is that of a row
row_is_a_line : (row : TraceRow) → FitsRow row → line_count (era_line row) ≡ 1
row_is_a_line row fits =
    let to_period = codes "c era " ++ decimal row.period in
    let to_core = to_period ++ codes " " ++ decimal row.core in
    let to_conflicts = to_core ++ codes " " ++ decimal row.conflicts in
    let to_volume = to_conflicts ++ codes " " ++ decimal row.volume in
    let to_posted = to_volume ++ codes " " ++ decimal row.posted in
    ended_line (to_posted ++ codes " " ++ decimal row.next)
    (word_on_a_line to_posted (codes " ") row.next fits.next refl
    (word_on_a_line to_volume (codes " ") row.posted fits.posted refl
    (word_on_a_line to_conflicts (codes " ") row.volume fits.volume refl
    (word_on_a_line to_core (codes " ") row.conflicts fits.conflicts refl
    (word_on_a_line to_period (codes " ") row.core fits.core refl
    (word_on_a_line [] (codes "c era ") row.period fits.period refl refl))))))

-- and that of the winner
pub winner_is_a_line : (winner : Option ℕ) → ((core : ℕ) → winner ≡ Some core → core < 2 ^ 64) → line_count (winner_line winner) ≡ 1
winner_is_a_line None fits = refl
winner_is_a_line (Some core) fits = ended_line (codes "c winner " ++ decimal core) (word_on_a_line [] (codes "c winner ") core (fits core refl) refl refl)

phase_is_small : (phase : Bool) → phase_digit phase < 2 ^ 64
phase_is_small true = omega arith
phase_is_small false = omega arith

-- a share limit is small
clamped : (z : ℤ) → nat_abs (int_min (int_max z (pos 1)) (pos 64)) < 2 ^ 64
clamped z = omega (arith, ints, clamps)

limit_is_small : (zero_asked : Bool) (z : ℤ) → nat_abs (if zero_asked then pos 0 else int_min (int_max z (pos 1)) (pos 64)) < 2 ^ 64
limit_is_small true z = omega arith
limit_is_small false z = clamped z

-- the line of a core of the portfolio
core_of_is_a_line : (settings : Settings) (core : ℕ) → core < 2 ^ 64 → line_count (core_line_of settings core) ≡ 1
core_of_is_a_line settings core small =
    let range = row_in_range core in
    core_is_a_line core (row_of core) (share_of_core settings core) small (phase_is_small (row_of core).phase) (omega (arith, range.few_unit))
    (omega (arith, range.few_weight)) (omega (arith, range.few_halve)) (omega (arith, range.few_noise))
    (limit_is_small (settings.share == 0) (pos settings.share +ℤ (row_of core).share))

-- as many lines as cores
cores_from : (settings : Settings) (first count : ℕ) → first + count < 2 ^ 64 → line_count (flat_map (core_line_of settings) (range_with_len first count)) ≡ count
cores_from settings first zero small = refl
cores_from settings first (suc count) small =
    let more = cores_from settings (first + 1) count (omega arith) in
    let this = core_of_is_a_line settings first (omega arith) in
    let whole : line_count (flat_map (core_line_of settings) (range_with_len first (suc count)))
    ≡ line_count (core_line_of settings first) + line_count (flat_map (core_line_of settings) (range_with_len (first + 1) count)) =
    line_count-append (core_line_of settings first) (flat_map (core_line_of settings) (range_with_len (first + 1) count)) in
    omega arith

pub cores_are_lines : (settings : Settings) → settings.cores < 2 ^ 64 → line_count (core_lines settings) ≡ settings.cores
cores_are_lines settings small = cores_from settings 0 settings.cores (omega arith)

-- as many lines as rows
pub rows_are_lines : (rows : List TraceRow) → FitRows rows → line_count (era_lines rows) ≡ length rows
rows_are_lines [] fit = refl
rows_are_lines (row ∷ rows) fit =
    let more = rows_are_lines rows fit.1 in
    let this = row_is_a_line row fit.0 in
    let whole : line_count (era_lines (row ∷ rows)) ≡ line_count (era_line row) + line_count (era_lines rows) = line_count-append (era_line row) (era_lines rows) in
    omega arith
