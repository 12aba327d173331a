-- Jobs: what the words after the program's name ask for.
use Rattle.std.specs.Prelude.{ℕ, ◌==◌, ◌≤◌, Bool, false, List, [], ◌∷◌, length, codes, Option, Some, None, option_map, option_and_then, if◌then◌else◌, bytes_eq}
use Rattle.clap.specs.Words.{Row, first_of}
use Rattle.solo_core.specs.declared.sheet.Settings.{Settings}
use Rattle.solo_core.specs.First.{AreInRange}
use Rattle.formula_kinds.specs.declared.kind.Kind.{Kind}
use Rattle.formula_kinds.specs.Kinds.{kind_named, most_of}
use Rattle.job_words.specs.declared.job.Job.{Job}
use Rattle.job_words.specs.declared.job.Job.TheVariants.{Solve, Check, Gen, Race}
use Rattle.job_words.specs.Numbers.{number_of, number_given}
use Rattle.job_words.specs.Commands.{solve_app, check_app, gen_app, race_app, rows_of_words}

-- == values ==

-- a text that names a file is not empty
abbrev pub file_name : List ℕ → Option (List ℕ)
file_name text = if length text == 0 then None else Some text

-- the file that is named under this name
abbrev pub file_at : List ℕ → List Row → Option (List ℕ)
file_at name rows = option_and_then file_name (first_of name rows)

-- the file of the log, where one is named
abbrev pub log_of : Option (List ℕ) → Option (Option (List ℕ))
log_of None = Some None
log_of (Some text) = option_map Some (file_name text)

-- whether a flag is set
abbrev pub is_set : Option (List ℕ) → Bool
is_set None = false
is_set (Some text) = bytes_eq text (codes "true")

-- the number under a name, or else this one
abbrev pub number_at : List ℕ → ℕ → ℕ → ℕ → List Row → Option ℕ
number_at name low high otherwise rows = number_given low high otherwise (first_of name rows)

-- the seed of start activities and of random formulas: any number of 64 bits
abbrev pub seed_of : List Row → Option ℕ
seed_of rows = number_at (codes "seed") 0 18446744073709551615 0 rows

-- how many conflicts a core has in its first period, by default
abbrev pub usual_period : ℕ
usual_period = 300

-- up to how many literals a lemma is posted, by default
abbrev pub usual_share : ℕ
usual_share = 8

-- the settings of a run, where all are given
abbrev pub settings_with : ℕ → ℕ → ℕ → ℕ → ℕ → Settings
settings_with cores period share limit seed = record { cores = cores; period = period; share = share; limit = limit; seed = seed }

-- the settings that options give: how many cores, their first period, the longest lemma that they post, their limit of
-- conflicts, and the seed
abbrev pub settings_of : List Row → Option Settings
settings_of rows =
    option_and_then (λ cores. option_and_then (λ period. option_and_then (λ share. option_and_then (λ limit.
    option_map (settings_with cores period share limit) (seed_of rows))
    (number_at (codes "limit") 1 1000000000 10000000 rows))
    (number_at (codes "share") 0 64 usual_share rows))
    (number_at (codes "period") 1 100000 usual_period rows))
    (number_at (codes "cores") 1 16 4 rows)

-- the size of a formula of this kind
abbrev pub size_of : Kind → List Row → Option ℕ
size_of kind rows = option_and_then (number_of 1 (most_of kind)) (first_of (codes "n") rows)

-- the kind of a formula and its size
abbrev pub sized_kind : List Row → Option (Kind × ℕ)
sized_kind rows =
    option_and_then (λ kind. option_map (λ n. (kind, n)) (size_of kind rows)) (option_and_then kind_named (first_of (codes "kind") rows))

-- == jobs ==

-- the job of `solve`
abbrev pub solve_of : List Row → Option Job
solve_of rows =
    option_and_then (λ file. option_and_then (λ settings. option_and_then (λ workers. option_map (λ log.
    Solve file settings workers log (is_set (first_of (codes "trace") rows)))
    (log_of (first_of (codes "log") rows)))
    (number_at (codes "workers") 0 16 4 rows))
    (settings_of rows))
    (file_at (codes "file") rows)

-- the job of `check`
abbrev pub check_of : List Row → Option Job
check_of rows = option_and_then (λ file. option_map (Check file) (file_at (codes "proof") rows)) (file_at (codes "file") rows)

-- the job of `gen`
abbrev pub gen_of : List Row → Option Job
gen_of rows = option_and_then (λ sized. option_map (Gen sized.0 sized.1) (seed_of rows)) (sized_kind rows)

-- the job of `race`
abbrev pub race_of : List Row → Option Job
race_of rows = option_and_then (λ sized. option_map (Race sized.0 sized.1) (settings_of rows)) (sized_kind rows)

-- the job that words ask for of which the first is this command
abbrev pub job_of_command : List ℕ → List (List ℕ) → Option Job
job_of_command command words =
    if bytes_eq command (codes "solve") then option_and_then solve_of (rows_of_words solve_app words)
    else (if bytes_eq command (codes "check") then option_and_then check_of (rows_of_words check_app words)
    else (if bytes_eq command (codes "gen") then option_and_then gen_of (rows_of_words gen_app words)
    else (if bytes_eq command (codes "race") then option_and_then race_of (rows_of_words race_app words)
    else None)))

-- the job that the words ask for, or none where they are no command line
abbrev pub job_of : List (List ℕ) → Option Job
job_of [] = None
job_of (command ∷ arguments) = job_of_command command (command ∷ arguments)

-- a kind has formulas of this size
abbrev pub IsSizeOf : Kind → ℕ → Type 0
IsSizeOf kind n = (1 ≤ n) × (n ≤ most_of kind)

-- a job's settings are in their ranges, and so is the size of its formula
abbrev pub IsInRange : Job → Type 0
IsInRange (Solve file settings workers log trace) = AreInRange settings
IsInRange (Check file proof) = Unit {0}
IsInRange (Gen kind n seed) = IsSizeOf kind n
IsInRange (Race kind n settings) = IsSizeOf kind n × AreInRange settings

-- the word of a job's command
abbrev pub command_word : Job → List ℕ
command_word (Solve file settings workers log trace) = codes "solve"
command_word (Check file proof) = codes "check"
command_word (Gen kind n seed) = codes "gen"
command_word (Race kind n settings) = codes "race"
