-- What the parties of a board give each other fits the run of the formula and the settings that they work on.
use Rattle.std.specs.Prelude.{ℕ, ◌≡◌, ◌-◌, ◌≤◌, ◌<◌}
use Rattle.lit_base.specs.Cnf.{Cnf}
use Rattle.solo_core.specs.declared.sheet.Settings.{Settings}
use Rattle.crew.specs.declared.post.Brief.{Brief}
use Rattle.crew.specs.declared.post.Post.{Post}
use Rattle.crew.specs.declared.post.Post.TheVariants.{Mail, Sheet, Go, Halt, Broken}
use Rattle.crew.specs.Era.{Member, mail_at, sheet_left}
use Rattle.crew.specs.Run.{HasEra}
use Rattle.crew.specs.Turns.{AtMember}

-- the run has an era of this period, and this holds of its core of this number
abbrev pub InPeriod : Cnf → Settings → ℕ → ℕ → (Member → Type 0) → Type 0
InPeriod cnf settings period core P =
    (1 ≤ period) × HasEra cnf settings (period - 1) × AtMember cnf settings (period - 1) core P

-- a core gives another one its mail of this period, and the scribe its sheet; the scribe tells a core to go on or to end
abbrev pub FitsRun : Brief → ℕ → ℕ → ℕ → Post → Type 0
FitsRun brief from to period (Mail mail) =
    (to < brief.settings.cores) × InPeriod brief.formula.value brief.settings period from (λ m. mail ≡ mail_at m)
FitsRun brief from to period (Sheet sheet) =
    (to ≡ brief.settings.cores) × InPeriod brief.formula.value brief.settings period from (λ m. sheet ≡ sheet_left m)
FitsRun brief from to period Go = (from ≡ brief.settings.cores) × (to < brief.settings.cores)
FitsRun brief from to period Halt = (from ≡ brief.settings.cores) × (to < brief.settings.cores)
FitsRun brief from to period Broken = from < brief.settings.cores
