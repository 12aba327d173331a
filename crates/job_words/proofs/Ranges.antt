-- The job of a command line has the command that is its first word, and numbers in their ranges.
use Rattle.std.proofs.Common.{◌≡◌, ℕ, ◌≤◌, ◌&&◌, nat_le, cond, Bool, true, false, List, [], ◌∷◌, refl, arith, Option, Some, None, option_map, option_and_then, codes, bytes_eq}
use Rattle.std.specs.Prelude.{IfSome}
use Rattle.std.specs.Str.Parse.{digits_value}
use Rattle.std.proofs.lemmas.Grind.{common_steps}
use Rattle.std.proofs.lemmas.Slice.Eq.{bytes_eq-Decides}
use Rattle.std.proofs.lemmas.Option.{IfSome_then}
use Rattle.clap.specs.Words.{Row, first_of}
use Rattle.formula_kinds.specs.declared.kind.Kind.{Kind}
use Rattle.job_words.specs.declared.job.Job.{Job}
use Rattle.solo_core.specs.First.{AreInRange}
use Rattle.formula_kinds.specs.Kinds.{kind_named, most_of}
use Rattle.job_words.specs.Numbers.{is_number, number_of, number_given}
use Rattle.job_words.specs.Commands.{solve_app, check_app, gen_app, race_app, rows_of_words}
use Rattle.job_words.specs.declared.job.Job.TheVariants.{Solve, Check, Gen, Race}
use Rattle.job_words.specs.Job.{job_of, job_of_command, solve_of, check_of, gen_of, race_of, file_at, log_of, is_set, number_at, seed_of, settings_of, size_of, sized_kind, IsSizeOf, IsInRange, command_word}

-- a number is in a range
abbrev Within : ℕ → ℕ → ℕ → Type 0
Within low high n = (low ≤ n) × (n ≤ high)

-- a job has this command, and is in range
abbrev Fits : List ℕ → Job → Type 0
Fits command job = (command ≡ command_word job) × IsInRange job

-- what is made of a value, where there is one
if_used : {A B : Type 0} (P : A → Type 0) (Q : B → Type 0) (f : A → Option B) (o : Option A) → IfSome o P
    → ((x : A) → P x → IfSome (f x) Q) → IfSome (option_and_then f o) Q
if_used P Q f None holds gives = tt
if_used P Q f (Some x) holds gives = gives x holds

-- the same of a value of which nothing is known
if_any : {A B : Type 0} (Q : B → Type 0) (f : A → Option B) (o : Option A) → ((x : A) → IfSome (f x) Q) → IfSome (option_and_then f o) Q
if_any Q f None gives = tt
if_any Q f (Some x) gives = gives x

-- the same of what a value is made into
if_made : {A B : Type 0} (P : A → Type 0) (Q : B → Type 0) (f : A → B) (o : Option A) → IfSome o P
    → ((x : A) → P x → Q (f x)) → IfSome (option_map f o) Q
if_made P Q f None holds gives = tt
if_made P Q f (Some x) holds gives = gives x holds

if_made_any : {A B : Type 0} (Q : B → Type 0) (f : A → B) (o : Option A) → ((x : A) → Q (f x)) → IfSome (option_map f o) Q
if_made_any Q f None gives = tt
if_made_any Q f (Some x) gives = gives x

-- a number that is read is in its range
of_within : (low high : ℕ) (text : List ℕ) → IfSome (number_of low high text) (Within low high)
of_within low high text = by (is_number text && (nat_le low (digits_value 10 text) && nat_le (digits_value 10 text) high)) refl
  where
    by : (test : Bool) → (is_number text && (nat_le low (digits_value 10 text) && nat_le (digits_value 10 text) high)) ≡ test
        → IfSome (cond test (Some (digits_value 10 text)) None) (Within low high)
    by false fails = tt
    by true holds = (grind (arith, common_steps, holds), grind (arith, common_steps, holds))

given_within : (low high otherwise : ℕ) → low ≤ otherwise → otherwise ≤ high → (text : Option (List ℕ))
    → IfSome (number_given low high otherwise text) (Within low high)
given_within low high otherwise above below None = (above, below)
given_within low high otherwise above below (Some text) = of_within low high text

settings_fit : (rows : List Row) → IfSome (settings_of rows) AreInRange
settings_fit rows =
    if_used (Within 1 16) AreInRange _ _ (given_within 1 16 4 (omega arith) (omega arith) (first_of (codes "cores") rows)) (λ cores some_cores.
    if_used (Within 1 100000) AreInRange _ _ (given_within 1 100000 300 (omega arith) (omega arith) (first_of (codes "period") rows)) (λ period some_period.
    if_used (Within 0 64) AreInRange _ _ (given_within 0 64 8 (omega arith) (omega arith) (first_of (codes "share") rows)) (λ share some_share.
    if_used (Within 1 1000000000) AreInRange _ _ (given_within 1 1000000000 10000000 (omega arith) (omega arith) (first_of (codes "limit") rows)) (λ limit some_limit.
    if_made_any AreInRange _ _ (λ seed.
    record {
      some_cores = some_cores.0;
      few_cores = some_cores.1;
      some_period = some_period.0;
      few_period = some_period.1;
      few_share = some_share.1;
      some_limit = some_limit.0;
      few_limit = some_limit.1;
    })))))

sized_fits : (rows : List Row) → IfSome (sized_kind rows) (λ sized. IsSizeOf sized.0 sized.1)
sized_fits rows =
    if_any _ _ (option_and_then kind_named (first_of (codes "kind") rows)) (λ kind.
    if_made (IsSizeOf kind) _ _ (size_of kind rows)
    (if_any (IsSizeOf kind) _ (first_of (codes "n") rows) (λ text. of_within 1 (most_of kind) text)) (λ n fits. fits))

solve_fits : (rows : List Row) → IfSome (solve_of rows) (Fits (codes "solve"))
solve_fits rows =
    if_any (Fits (codes "solve")) _ (file_at (codes "file") rows) (λ file.
    if_used AreInRange (Fits (codes "solve")) _ _ (settings_fit rows) (λ settings fit.
    if_any (Fits (codes "solve")) _ (number_at (codes "workers") 0 16 4 rows) (λ workers.
    if_made_any (Fits (codes "solve")) (λ log. Solve file settings workers log (is_set (first_of (codes "trace") rows)))
    (log_of (first_of (codes "log") rows)) (λ log. (refl, fit)))))

check_fits : (rows : List Row) → IfSome (check_of rows) (Fits (codes "check"))
check_fits rows =
    if_any (Fits (codes "check")) _ (file_at (codes "file") rows) (λ file.
    if_made_any (Fits (codes "check")) (Check file) (file_at (codes "proof") rows) (λ proof. (refl, tt)))

gen_fits : (rows : List Row) → IfSome (gen_of rows) (Fits (codes "gen"))
gen_fits rows =
    if_used (λ (sized : Kind × ℕ). IsSizeOf sized.0 sized.1) (Fits (codes "gen")) _ (sized_kind rows) (sized_fits rows) (λ sized fits.
    if_made_any (Fits (codes "gen")) (Gen sized.0 sized.1) (seed_of rows) (λ seed. (refl, fits)))

race_fits : (rows : List Row) → IfSome (race_of rows) (Fits (codes "race"))
race_fits rows =
    if_used (λ (sized : Kind × ℕ). IsSizeOf sized.0 sized.1) (Fits (codes "race")) _ (sized_kind rows) (sized_fits rows) (λ sized fits.
    if_made AreInRange (Fits (codes "race")) (Race sized.0 sized.1) _ (settings_fit rows) (λ settings fit. (refl, (fits, fit))))

-- the first of two ways where the command has this word, and else the second
if_word : (command word : List ℕ) (first second : Option Job) → IfSome first (Fits word) → IfSome second (Fits command)
    → IfSome (cond (bytes_eq command word) first second) (Fits command)
if_word command word first second on_first on_second = by (bytes_eq command word) refl
  where
    by : (test : Bool) → bytes_eq command word ≡ test → IfSome (cond test first second) (Fits command)
    by false differ = on_second
    by true same = IfSome_then first on_first (λ job fits. (rw ((bytes_eq-Decides command word).0 same) fits.0, fits.1))

pub command_fits : (command : List ℕ) (words : List (List ℕ)) → IfSome (job_of_command command words) (Fits command)
command_fits command words =
    if_word command (codes "solve") _ _ (if_any (Fits (codes "solve")) solve_of (rows_of_words solve_app words) solve_fits)
    (if_word command (codes "check") _ _ (if_any (Fits (codes "check")) check_of (rows_of_words check_app words) check_fits)
    (if_word command (codes "gen") _ _ (if_any (Fits (codes "gen")) gen_of (rows_of_words gen_app words) gen_fits)
    (if_word command (codes "race") _ _ (if_any (Fits (codes "race")) race_of (rows_of_words race_app words) race_fits) tt)))

pub job_has_its_command : (command : List ℕ) (arguments : List (List ℕ)) → IfSome (job_of (command ∷ arguments)) (λ job. command ≡ command_word job)
job_has_its_command command arguments = IfSome_then (job_of (command ∷ arguments)) (command_fits command (command ∷ arguments)) (λ job fits. fits.0)

pub job_is_in_range : (words : List (List ℕ)) → IfSome (job_of words) IsInRange
job_is_in_range [] = tt
job_is_in_range (command ∷ arguments) = IfSome_then (job_of (command ∷ arguments)) (command_fits command (command ∷ arguments)) (λ job fits. fits.1)
