-- The commands, as the parser of command lines sees them, and what it finds in words.
use Rattle.std.specs.Prelude.{true, List, [], ◌∷◌, fold, codes, Option, Some, None, Result, if◌then◌else◌}
use Rattle.std.specs.Result.{result_map_both}
use Rattle.clap.specs.Words.{App, Row, Rule, Text, new_app, new_rule, with_rule, fault_of, matches_of, rows_of, found_of}
use Rattle.clap.specs.Simple.{on_top}
use Rattle.clap.specs.Walk.{is_empty}
use Rattle.clap.specs.declared.builder.action.ArgAction.TheVariants.{Set, SetTrue}
use Rattle.clap.specs.declared.parser.matches.ArgMatches.{ArgMatches}
use Rattle.job_words.specs.declared.job.WordFault.{WordFault}
use Rattle.job_words.specs.Faults.{ReadsWords}

-- a command without arguments; words that ask for help or the version are no command line
abbrev pub plain_app : Text → App
plain_app name = on_top (λ shape. record shape { disable_help_flag = true; disable_version_flag = true }) (new_app name)

-- a required positional argument
abbrev pub positional_rule : Text → Rule
positional_rule name = record (new_rule name) { action = Some Set; required = true }

-- an option with a value, set at most once
abbrev pub option_rule : Text → Rule
option_rule name = record (new_rule name) { long = Some name; action = Some Set }

-- an option without a value, set at most once
abbrev pub flag_rule : Text → Rule
flag_rule name = record (new_rule name) { long = Some name; action = Some SetTrue }

-- a command with one more positional argument
abbrev pub with_positional : App → Text → App
with_positional app name = with_rule app (positional_rule name)

-- a command with one more option
abbrev pub with_option : App → Text → App
with_option app name = with_rule app (option_rule name)

-- a command with the options of the settings
abbrev pub with_settings : App → App
with_settings app =
    fold with_option app (codes "cores" ∷ codes "period" ∷ codes "share" ∷ codes "limit" ∷ codes "seed" ∷ [])

-- `solve FILE`, the settings, `--workers`, `--log` and the flag `--trace`
abbrev pub solve_app : App
solve_app =
    with_rule (with_option (with_option (with_settings (with_positional (plain_app (codes "solve")) (codes "file"))) (codes "workers")) (codes "log"))
    (flag_rule (codes "trace"))

-- `check FILE PROOF`
abbrev pub check_app : App
check_app = with_positional (with_positional (plain_app (codes "check")) (codes "file")) (codes "proof")

-- `gen KIND N` and `--seed`
abbrev pub gen_app : App
gen_app = with_option (with_positional (with_positional (plain_app (codes "gen")) (codes "kind")) (codes "n")) (codes "seed")

-- `race KIND N` and the settings
abbrev pub race_app : App
race_app = with_settings (with_positional (with_positional (plain_app (codes "race")) (codes "kind")) (codes "n"))

-- what a command finds in words of which the first is its own, where it takes them
unfoldable pub rows_of_words : App → List Text → Option (List Row)
rows_of_words app words = if is_empty (fault_of app words) then Some (matches_of app words) else None

-- matching words gives these rows, and a usage fault exactly where there are none
abbrev pub FindsRows : Option (List Row) → Result ArgMatches WordFault → Type 0
FindsRows rows result = ReadsWords rows (result_map_both (λ matches. rows_of (found_of matches)) (λ fault. fault) result)
