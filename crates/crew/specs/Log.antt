-- The log of a run: the lemmas that stand in it, era by era and core by core, and its text.
use Rattle.std.specs.Prelude.{ℕ, zero, suc, ◌+◌, ◌==◌, Bool, true, if◌then◌else◌, List, [], ◌∷◌, ◌++◌, map, length, Option, Some, None}
use Rattle.lit_base.specs.Cnf.{Cnf}
use Rattle.lit_base.specs.declared.proof.Line.{Line}
use Rattle.solo_core.specs.Log.{lines_of}
use Rattle.solo_core.specs.declared.lemma.Lemma.{Lemma}
use Rattle.solo_core.specs.declared.sheet.Sheet.{Sheet}
use Rattle.solo_core.specs.declared.sheet.Settings.{Settings}
use Rattle.log_merge.specs.Numbering.{Numbering, number_of}
use Rattle.log_merge.specs.Part.{part_text}
use Rattle.crew.specs.Era.{winning_core}
use Rattle.crew.specs.Run.{mails_at, sheets_at, last_era}

-- the parts that these sheets leave for the log: of each core all lemmas of its stretch
abbrev pub parts_of : List Sheet → List (List Lemma)
parts_of sheets = map (λ sheet. sheet.lemmas) sheets

-- whether the lemmas of this core stand in the log: the winner's do, and all do where nobody won
abbrev pub stands : Option ℕ → ℕ → Bool
stands None core = true
stands (Some winner) core = winner == core

-- the parts that stand; that of a core which doesn't stand is empty
abbrev pub standing_parts : Option ℕ → List Sheet → List (List Lemma)
standing_parts winner sheets = map (λ sheet. if stands winner sheet.mail.core then sheet.lemmas else []) sheets

-- the parts of the eras past, of which there are so many; the run went on after each of them, so all parts stand
abbrev pub parts_before : Cnf → Settings → ℕ → List (List (List Lemma))
parts_before cnf settings zero = []
parts_before cnf settings (suc past) = parts_before cnf settings past ++ parts_of (sheets_at cnf settings past) ∷ []

-- the parts that stand of the era before which so many are past
abbrev pub era_parts : Cnf → Settings → ℕ → List (List Lemma)
era_parts cnf settings past = standing_parts (winning_core (mails_at cnf settings past)) (sheets_at cnf settings past)

-- the parts of a run whose last era is the one before which so many are past
abbrev pub parts_at : Cnf → Settings → ℕ → List (List (List Lemma))
parts_at cnf settings past = parts_before cnf settings past ++ era_parts cnf settings past ∷ []

-- the lemmas of some parts, one part after the other
abbrev pub joined : List (List Lemma) → List Lemma
joined [] = []
joined (part ∷ later) = part ++ joined later

-- the lemmas of some eras, one era after the other
abbrev pub all_joined : List (List (List Lemma)) → List Lemma
all_joined [] = []
all_joined (parts ∷ later) = joined parts ++ all_joined later

-- the lemmas of the log, in its order
abbrev pub log_of : Cnf → Settings → List Lemma
log_of cnf settings = all_joined (parts_at cnf settings (last_era cnf settings))

-- the numbering of a log with these parts
abbrev pub numbering_at : Cnf → Settings → List (List (List Lemma)) → Numbering
numbering_at cnf settings eras =
    record { originals = length cnf.clauses; cores = settings.cores; periods = map (λ parts. map length parts) eras }

-- the numbering of the run's log
abbrev pub numbering_of_run : Cnf → Settings → Numbering
numbering_of_run cnf settings = numbering_at cnf settings (parts_at cnf settings (last_era cnf settings))

-- the log as the lines of a proof
abbrev pub log_lines : Cnf → Settings → List Line
log_lines cnf settings = lines_of (number_of (numbering_of_run cnf settings)) 1 (length cnf.clauses + 1) (log_of cnf settings)

-- the text of the log
abbrev pub log_text : Cnf → Settings → List ℕ
log_text cnf settings = part_text (numbering_of_run cnf settings) (log_of cnf settings)
