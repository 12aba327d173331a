-- What holds of the workers of a run, and of the scribe beside them, between the eras.
use Rattle.std.specs.Prelude.{ℕ, ◌≡◌, ◌+◌, false, true, Bool, List, Option, Some, None, All, map, Result, Ok, Err}
use Rattle.lit_base.specs.Cnf.{Cnf}
use Rattle.log_merge.specs.declared.stop.Stop.{Stop}
use Rattle.log_merge.specs.declared.stop.Stop.TheVariants.{NoMemory}
use Rattle.solo_core.specs.declared.sheet.Settings.{Settings}
use Rattle.crew.specs.declared.party.Party.{Party}
use Rattle.crew.specs.declared.party.Step.{Step}
use Rattle.crew.specs.declared.party.Step.TheVariants as cores
use Rattle.crew.specs.declared.scribe.Scribe.{Scribe}
use Rattle.crew.specs.declared.scribe.Written.{Written}
use Rattle.crew.specs.declared.scribe.Written.TheVariants.{GoesOn, Over, Stopped}
use Rattle.crew.specs.declared.worker.Place.{Place}
use Rattle.crew.specs.declared.caller.Ran.{Ran}
use Rattle.crew.specs.Era.{is_over}
use Rattle.crew.specs.Run.{mails_at, last_era}
use Rattle.crew.specs.Outcome.{outcome_at, outcome_of}
use Rattle.crew.specs.Groups.{list_of, lists_of}
use Rattle.crew.specs.Parties.{Posts, PartyAt, PartyDone}
use Rattle.crew.specs.Scribing.{ScribeAt, ScribeDone}
use Rattle.crew.specs.Working.{joint_of, numbers_of, PlaceAt}

-- == the cores for which the caller's thread works ==

-- how an era ended for the cores of some places and for those of one more, where None says that no cores are there
abbrev pub joint_place : Option Step → Option Step → Option Step
joint_place came None = came
joint_place came (Some step) = Some (joint_of came step)

-- what holds of some cores for which an era ended so
abbrev pub AfterEra : Posts → Cnf → Settings → ℕ → ((Party → Type 0) → Type 0) → Option Step → Type 0
AfterEra board cnf settings past Holds None = Holds (λ party. ⊥)
AfterEra board cnf settings past Holds (Some cores.GoesOn) =
    (is_over (mails_at cnf settings past) ≡ false) × Holds (PartyAt board cnf settings (past + 1))
AfterEra board cnf settings past Holds (Some cores.Over) =
    (is_over (mails_at cnf settings past) ≡ true) × Holds (PartyDone board cnf settings past)
AfterEra board cnf settings past Holds (Some cores.Broken) = Unit {0}

-- of the cores of one place, and of those of some places
abbrev pub PlaceReceives : Posts → Cnf → Settings → ℕ → Place → Option Step → Type 0
PlaceReceives board cnf settings past place came = AfterEra board cnf settings past (λ P. PlaceAt board cnf settings P place) came

abbrev pub PlacesReceive : Posts → Cnf → Settings → ℕ → List Place → Option Step → Type 0
PlacesReceive board cnf settings past places came = AfterEra board cnf settings past (λ P. All (PlaceAt board cnf settings P) places) came

-- == those cores and the scribe ==

-- why a run stops where the scribe and the cores disagree
abbrev pub why_of : Option Stop → Stop
why_of None = NoMemory
why_of (Some why) = why

-- how an era ended for them together. The scribe leads; where the cores met something else the run stops
abbrev pub agreed_of : Option Step → Option Stop → Written → Written
agreed_of came stop (Stopped why) = Stopped why
agreed_of None stop GoesOn = GoesOn
agreed_of (Some cores.GoesOn) stop GoesOn = GoesOn
agreed_of (Some cores.Over) stop GoesOn = Stopped (why_of stop)
agreed_of (Some cores.Broken) stop GoesOn = Stopped (why_of stop)
agreed_of None stop (Over outcome) = Over outcome
agreed_of (Some cores.GoesOn) stop (Over outcome) = Stopped NoMemory
agreed_of (Some cores.Over) stop (Over outcome) = Over outcome
agreed_of (Some cores.Broken) stop (Over outcome) = Stopped NoMemory

-- what then holds
abbrev pub EraEnds : Posts → Cnf → Settings → Bool → ℕ → List Place → Scribe → Written → Type 0
EraEnds board cnf settings log past places scribe GoesOn =
    (is_over (mails_at cnf settings past) ≡ false) × All (PlaceAt board cnf settings (PartyAt board cnf settings (past + 1))) places
    × ScribeAt board cnf settings log (past + 1) scribe
EraEnds board cnf settings log past places scribe (Over outcome) =
    (is_over (mails_at cnf settings past) ≡ true) × (outcome ≡ outcome_at cnf settings past)
    × All (PlaceAt board cnf settings (PartyDone board cnf settings past)) places × ScribeDone board cnf settings past scribe
EraEnds board cnf settings log past places scribe (Stopped why) = Unit {0}

-- == a run ==

-- what a run comes to, whose groups have parties of these numbers
pub record HasRun (board : Posts) (cnf : Cnf) (settings : Settings) (numbers : List (List ℕ)) (ran : Ran) : Type 0 where
  pub outcome : ran.outcome ≡ outcome_of cnf settings
  pub groups : All (λ group. All (PartyDone board cnf settings (last_era cnf settings)) (list_of group)) ran.groups.items
  pub numbers_kept : map numbers_of (lists_of ran.groups.items) ≡ numbers
  pub scribe : ScribeDone board cnf settings (last_era cnf settings) ran.scribe

-- how a call ended, without what it gives
abbrev pub without_value : {A : Type 0} → Result A Stop → Result (Unit {0}) Stop
without_value (Ok value) = Ok tt
without_value (Err stop) = Err stop
