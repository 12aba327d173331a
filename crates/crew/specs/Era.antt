-- An era of a run: each core makes the stretch of its period, and the mails tell how the stretches ended. Where they end
-- the run, it is over; else each core imports what the others posted, and is told how many conflicts it has next.
use Rattle.std.specs.Prelude.{ℕ, max, ◌==◌, Bool, true, false, not, ◌||◌, List, [], ◌∷◌, map, filter, find, Option, option_map, is_some}
use Rattle.std.specs.List.{list_all}
use Rattle.lit_base.specs.Held.{volume_of}
use Rattle.period_rule.specs.Period.{next_period}
use Rattle.solo_core.specs.State.{CoreFrame, CoreState}
use Rattle.solo_core.specs.Stretch.{Stretched, stretch}
use Rattle.solo_core.specs.Sheet.{mail_of, sheet_of}
use Rattle.solo_core.specs.Period.{core_after_import}
use Rattle.solo_core.specs.declared.sheet.End.{End}
use Rattle.solo_core.specs.declared.sheet.End.TheVariants.{Quota, Sat, Unsat, Spent}
use Rattle.solo_core.specs.declared.sheet.Mail.{Mail}
use Rattle.solo_core.specs.declared.sheet.Sheet.{Sheet}

-- == a core in an era ==

-- a core at the start of an era, and how many conflicts it may have in it
pub record Member : Type 0 where
  pub frame : CoreFrame
  pub quota : ℕ
  pub state : CoreState

-- its stretch
abbrev pub stretched : Member → Stretched
stretched m = stretch m.frame m.quota m.state

-- its mail to the others
abbrev pub mail_at : Member → Mail
mail_at m = mail_of m.frame (stretched m)

-- what it leaves for the log and the answer
abbrev pub sheet_left : Member → Sheet
sheet_left m = sheet_of m.frame (stretched m)

-- the mails of all cores, in the order of the cores
abbrev pub mails_of : List Member → List Mail
mails_of members = map mail_at members

-- the sheets of all cores, in the order of the cores
abbrev pub sheets_of : List Member → List Sheet
sheets_of members = map sheet_left members

-- the mails that sheets have
abbrev pub mails_in : List Sheet → List Mail
mails_in sheets = map (λ sheet. sheet.mail) sheets

-- == how an era ends: all of it can be read from the mails ==

-- whether a stretch ended with an answer to the formula
abbrev pub is_answer : End → Bool
is_answer Sat = true
is_answer Unsat = true
is_answer Quota = false
is_answer Spent = false

-- whether it ended since the core has had all conflicts that it may have in the run
abbrev pub is_spent : End → Bool
is_spent Spent = true
is_spent Sat = false
is_spent Unsat = false
is_spent Quota = false

-- the mail of the winner: of the first core that has an answer
abbrev pub winner_of : List Mail → Option Mail
winner_of mails = find (λ mail. is_answer mail.end) mails

-- the winner's number
abbrev pub winning_core : List Mail → Option ℕ
winning_core mails = option_map (λ mail. mail.core) (winner_of mails)

-- the run is over where a core has an answer, and where all have spent their limit
abbrev pub is_over : List Mail → Bool
is_over mails = is_some (winner_of mails) || list_all (λ mail. is_spent mail.end) mails

-- == what follows an era after which the run goes on ==

-- the mails of the cores but this one
abbrev pub others : ℕ → List Mail → List Mail
others core mails = filter (λ mail. not (mail.core == core)) mails

-- how much the fullest core holds
abbrev pub largest_volume : List Mail → ℕ
largest_volume [] = 0
largest_volume (mail ∷ later) = max mail.volume (largest_volume later)

-- a core at the start of the next era: it has imported what the others posted, and its quota goes by how full it is
-- beside the fullest
abbrev pub next_member : ℕ → List Mail → Member → Member
next_member base mails m = record m {
  quota = next_period base (volume_of (stretched m).state.clauses) (largest_volume mails);
  state = core_after_import (others m.frame.core mails) (stretched m).state;
}

-- all cores at the start of the next era
abbrev pub after_era : ℕ → List Member → List Member
after_era base members = map (next_member base (mails_of members)) members
