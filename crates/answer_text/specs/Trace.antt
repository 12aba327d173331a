-- The trace of a run, as text: how its cores differ, what each of them did in each era, and which of them won.
use Rattle.std.specs.Prelude.{ℕ, Bool, if◌then◌else◌, List, ◌++◌, Option, Some, None, decimal, codes, flat_map}
use Rattle.std.specs.List.{range_with_len}
use Rattle.core_rows.specs.declared.row.Row.{Row}
use Rattle.core_rows.specs.Rows.{row_of}
use Rattle.solo_core.specs.First.{share_of_core}
use Rattle.solo_core.specs.declared.sheet.Settings.{Settings}
use Rattle.crew.specs.declared.trace.TraceRow.{TraceRow}

-- a phase as a digit
abbrev pub phase_digit : Bool → ℕ
phase_digit phase = if phase then 1 else 0

-- the line of the core of this number, which has this row and this share limit
abbrev pub core_line : ℕ → Row → ℕ → List ℕ
core_line core row share =
    codes "c core " ++ decimal core ++ codes " phase " ++ decimal (phase_digit row.phase) ++ codes " unit " ++ decimal row.unit
    ++ codes " weight " ++ decimal row.weight ++ codes " halve " ++ decimal row.halve ++ codes " noise " ++ decimal row.noise
    ++ codes " share " ++ decimal share ++ codes "\n"

-- the line of the core of this number in a run of these settings
abbrev pub core_line_of : Settings → ℕ → List ℕ
core_line_of settings core = core_line core (row_of core) (share_of_core settings core)

-- the lines of all cores
abbrev pub core_lines : Settings → List ℕ
core_lines settings = flat_map (core_line_of settings) (range_with_len 0 settings.cores)

-- the line of what a core did in an era: their numbers, its conflicts, its volume, how many clauses it posted, and its next period
abbrev pub era_line : TraceRow → List ℕ
era_line row =
    codes "c era " ++ decimal row.period ++ codes " " ++ decimal row.core ++ codes " " ++ decimal row.conflicts
    ++ codes " " ++ decimal row.volume ++ codes " " ++ decimal row.posted ++ codes " " ++ decimal row.next ++ codes "\n"

-- the lines of all rows
abbrev pub era_lines : List TraceRow → List ℕ
era_lines rows = flat_map era_line rows

-- the line that names the winner
abbrev pub winner_line : Option ℕ → List ℕ
winner_line None = codes "c winner none\n"
winner_line (Some core) = codes "c winner " ++ decimal core ++ codes "\n"
