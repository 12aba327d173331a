-- A run: eras, one after the other, up to one that ends it. What holds at an era is said by the number of eras past.
use Rattle.std.specs.Prelude.{ℕ, zero, suc, ◌+◌, ◌-◌, ◌<◌, ◌≡◌, Bool, false, if◌then◌else◌, List, [], ◌∷◌, map}
use Rattle.lit_base.specs.Cnf.{Cnf}
use Rattle.solo_core.specs.First.{frame_of, first_state}
use Rattle.solo_core.specs.declared.sheet.End.{End}
use Rattle.solo_core.specs.declared.sheet.Mail.{Mail}
use Rattle.solo_core.specs.declared.sheet.Sheet.{Sheet}
use Rattle.solo_core.specs.declared.sheet.Settings.{Settings}
use Rattle.crew.specs.Era.{Member, mails_of, sheets_of, is_over, after_era}

-- how many conflicts each core may have in the first era
abbrev pub first_quota : Settings → ℕ
first_quota settings = settings.period

-- the core of this number at the start of the run
abbrev pub first_member : Cnf → Settings → ℕ → Member
first_member cnf settings core =
    record { frame = frame_of cnf settings core; quota = first_quota settings; state = first_state cnf settings core }

-- so many cores at the start of the run, from this number on
abbrev pub members_from : Cnf → Settings → ℕ → ℕ → List Member
members_from cnf settings core zero = []
members_from cnf settings core (suc more) = first_member cnf settings core ∷ members_from cnf settings (core + 1) more

-- the cores at the start of the era before which so many are past, if the run has that era
abbrev pub members_at : Cnf → Settings → ℕ → List Member
members_at cnf settings zero = members_from cnf settings 0 settings.cores
members_at cnf settings (suc past) = after_era settings.period (members_at cnf settings past)

-- their mails at its end
abbrev pub mails_at : Cnf → Settings → ℕ → List Mail
mails_at cnf settings past = mails_of (members_at cnf settings past)

-- what they leave of it
abbrev pub sheets_at : Cnf → Settings → ℕ → List Sheet
sheets_at cnf settings past = sheets_of (members_at cnf settings past)

-- the run has the era before which so many are past: none of those ended it
abbrev pub HasEra : Cnf → Settings → ℕ → Type 0
HasEra cnf settings past = (q : ℕ) → q < past → is_over (mails_at cnf settings q) ≡ false

-- how many eras are past at the first one that ends the run, from this number on; after so many more it is not looked for
abbrev pub eras_before : (ℕ → Bool) → ℕ → ℕ → ℕ
eras_before ends zero past = past
eras_before ends (suc most) past = if ends past then past else eras_before ends most (past + 1)

-- how many eras are past at the last one; there are no more eras than conflicts that a core may have
abbrev pub last_era : Cnf → Settings → ℕ
last_era cnf settings = eras_before (λ past. is_over (mails_at cnf settings past)) (settings.limit - 1) 0

-- how each core ended in the last era
abbrev pub last_ends : Cnf → Settings → List End
last_ends cnf settings = map (λ mail. mail.end) (mails_at cnf settings (last_era cnf settings))
