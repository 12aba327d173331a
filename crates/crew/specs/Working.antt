-- What holds of the cores that one worker works for, and of the workers of a run.
use Rattle.std.specs.Prelude.{ℕ, ◌≡◌, ◌+◌, false, true, List, Option, Some, None, All, map}
use Rattle.lit_base.specs.Cnf.{Cnf}
use Rattle.solo_core.specs.declared.sheet.Settings.{Settings}
use Rattle.crew.specs.declared.party.Party.{Party}
use Rattle.crew.specs.declared.party.Step.{Step}
use Rattle.crew.specs.declared.party.Step.TheVariants.{GoesOn, Over, Broken}
use Rattle.crew.specs.declared.worker.Ended.{Ended}
use Rattle.crew.specs.declared.worker.Ended.TheVariants.{Back, Done, Stopped}
use Rattle.crew.specs.declared.worker.Place.{Place}
use Rattle.crew.specs.declared.worker.Place.TheVariants.{Away, Here, Through}
use Rattle.crew.specs.Era.{is_over}
use Rattle.crew.specs.Run.{mails_at, last_era}
use Rattle.crew.specs.Groups.{list_of}
use Rattle.crew.specs.Parties.{Posts, number_of, PartyAt, PartyDone}

-- the numbers of some parties, in their order
abbrev pub numbers_of : List Party → List ℕ
numbers_of parties = map number_of parties

-- how an era ended for some cores and for one more: where it was stopped for one it was for all
abbrev pub joint_of : Option Step → Step → Step
joint_of None step = step
joint_of (Some GoesOn) step = step
joint_of (Some Over) step = step
joint_of (Some Broken) step = Broken

-- what holds of some cores for which an era ended so; None is of no cores
abbrev pub AllReceive : Posts → Cnf → Settings → ℕ → List Party → Option Step → Type 0
AllReceive board cnf settings past parties None = Unit {0}
AllReceive board cnf settings past parties (Some GoesOn) =
    (is_over (mails_at cnf settings past) ≡ false) × All (PartyAt board cnf settings (past + 1)) parties
AllReceive board cnf settings past parties (Some Over) =
    (is_over (mails_at cnf settings past) ≡ true) × All (PartyDone board cnf settings past) parties
AllReceive board cnf settings past parties (Some Broken) = Unit {0}

-- how the work for some cores ends: it was not begun, or the run is over, or it was stopped
abbrev pub EndsWell : Posts → Cnf → Settings → List Party → Ended → Type 0
EndsWell board cnf settings parties (Back group) = list_of group ≡ parties
EndsWell board cnf settings parties (Done group) =
    All (PartyDone board cnf settings (last_era cnf settings)) (list_of group) × (numbers_of (list_of group) ≡ numbers_of parties)
EndsWell board cnf settings parties Stopped = Unit {0}

-- of the cores of a place this holds, where the caller's thread works for them
abbrev pub PlaceAt : Posts → Cnf → Settings → (Party → Type 0) → Place → Type 0
PlaceAt board cnf settings P (Away handle) =
    (handle.promise.board.value ≡ board) × (handle.promise.formula.value ≡ cnf) × (handle.promise.settings ≡ settings)
PlaceAt board cnf settings P (Here group) = All P (list_of group)
PlaceAt board cnf settings P (Through group) = All (PartyDone board cnf settings (last_era cnf settings)) (list_of group)

-- the numbers of the cores of a place
abbrev pub numbers_at : Place → List ℕ
numbers_at (Away handle) = numbers_of (list_of handle.promise.group.value)
numbers_at (Here group) = numbers_of (list_of group)
numbers_at (Through group) = numbers_of (list_of group)
