-- The passes of a board before a run on it, and after it.
use Rattle.std.specs.Prelude.{ℕ, ◌≡◌, ◌≢◌, ◌+◌, ◌<◌, ◌≤◌, Bool, List, [], ◌∷◌, ◌++◌, length, map, Some, None, slice_get, slice_index, All, Result, Ok, Err, Vec}
use Rattle.std.specs.declared.alloc.Global.{Global}
use Rattle.board_rule.specs.Accounts.{fresh}
use Rattle.era_board.specs.Boards.{IsPassOf}
use Rattle.era_board.specs.Passes.{account}
use Rattle.lit_base.specs.Cnf.{Cnf, IsFormula}
use Rattle.log_merge.specs.declared.stop.Stop.{Stop}
use Rattle.solo_core.specs.declared.sheet.Settings.{Settings}
use Rattle.crew.specs.declared.outcome.Outcome.{Outcome}
use Rattle.crew.specs.declared.party.Party.{Party}
use Rattle.crew.specs.declared.passes.Ready.{Ready}
use Rattle.crew.specs.Groups.{AreDealt, list_of, lists_of}
use Rattle.crew.specs.Parties.{Posts, PassOf, PartyAt}
use Rattle.crew.specs.Scribing.{ScribeAt}

-- it is the pass of the party of this number, as it was made for the formula and the settings
pub record IsMadeFor (board : Posts) (cnf : Cnf) (settings : Settings) (number : ℕ) (pass : PassOf) : Type 0 where
  pub given : IsPassOf board pass
  pub unused : account pass ≡ fresh (account pass).occasion board.parties number
  pub formula : (account pass).occasion.formula.value ≡ cnf
  pub range : (account pass).occasion.settings ≡ settings

-- these are the passes of a board with a party for each core and one for the scribe, in their order, and nobody has used one
pub record ArePassesOf (board : Posts) (cnf : Cnf) (settings : Settings) (passes : List PassOf) : Type 0 where
  pub parties : board.parties ≡ settings.cores + 1
  pub all : length passes ≡ settings.cores + 1
  pub each : (i : ℕ) (pass : PassOf) → slice_get passes i ≡ Some pass → IsMadeFor board cnf settings i pass

-- a pass has become this one by so many eras: in each of them it arrived once, and took a post from each other party
pub record IsUsed (board : Posts) (eras : ℕ) (before after : PassOf) : Type 0 where
  pub given : IsPassOf board after
  pub number : (account after).number ≡ (account before).number
  pub arrivals : (account after).arrivals ≡ eras
  pub taken : (from : ℕ) → from < board.parties → from ≢ (account after).number → slice_index (account after).taken from ≡ eras

-- the pass of a party
abbrev pub pass_of : Party → PassOf
pass_of party = party.pass

-- what a run begins with that has these passes: its cores are dealt, the scribe has the last pass, and both are at the start
pub record IsReady (board : Posts) (cnf : Cnf) (settings : Settings) (log : Bool) (passes : List PassOf) (ready : Ready) : Type 0 where
  pub formula : IsFormula cnf
  pub cores : List Party
  pub dealt : AreDealt 0 cores (lists_of ready.groups.items)
  pub whole : map pass_of cores ++ ready.scribe.pass ∷ [] ≡ passes
  pub some : 1 ≤ length ready.groups.items
  pub begun : All (λ group. All (PartyAt board cnf settings 0) (list_of group)) ready.groups.items
  pub scribe : ScribeAt board cnf settings log 0 ready.scribe
  pub runs : ready.scribe.stop ≡ None
  pub no_parties : ready.parties.items ≡ []
  pub no_passes : ready.passes.items ≡ []

-- how a run ended, without the passes
abbrev pub without_passes : Result (Outcome × Vec PassOf Global) Stop → Result Outcome Stop
without_passes (Ok run) = Ok run.0
without_passes (Err stop) = Err stop
