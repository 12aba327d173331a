-- What a run on a board leaves: the passes that are given back, and what stands of the log where it stopped.
use Rattle.std.proofs.Common.{◌≡◌, ℕ, ◌≤◌, Bool, true, false, List, [], ◌∷◌, ◌++◌, length, map, append-nil, length-append, refl, ap, sym, subst, All, Vec, Global, arith}
use Rattle.std.specs.Prelude.{Option, Some, None, Result, Ok, Err, IsErrAnd}
use Rattle.std.specs.Io.KnownBytes.{append_known}
use Rattle.std.proofs.lemmas.List.{length-map}
use Rattle.std.proofs.lemmas.List.Elements.{All-map}
use Rattle.desk_io.specs.declared.Port.TheVariants.{Log}
use Rattle.desk_io.specs.Told.{OutputsTold}
use Rattle.desk_io.proofs.Written.{WritesWhole-front}
use Rattle.lit_base.specs.Cnf.{Cnf}
use Rattle.log_merge.specs.declared.stop.Stop.{Stop}
use Rattle.log_merge.specs.declared.stop.Stop.TheVariants.{NoMemory as WantOfMemory}
use Rattle.solo_core.specs.declared.sheet.Settings.{Settings}
use Rattle.crew.specs.declared.caller.Ran.{Ran}
use Rattle.crew.specs.declared.outcome.Outcome.{Outcome}
use Rattle.crew.specs.declared.party.Party.{Party}
use Rattle.crew.specs.declared.passes.Ready.{Ready}
use Rattle.crew.specs.Run.{last_era}
use Rattle.crew.specs.Groups.{AreEach, AreDealt, list_of, lists_of}
use Rattle.crew.specs.Turns.{WritesLog, without_outcome}
use Rattle.crew.specs.Parties.{Posts, PassOf, PartyDone}
use Rattle.crew.specs.Working.{numbers_of}
use Rattle.crew.specs.Places.{HasRun}
use Rattle.crew.specs.Passes.{ArePassesOf, IsReady, IsUsed, pass_of, without_passes}
use Rattle.crew.proofs.Groups.{dealt_each, length-lists}
use Rattle.crew.proofs.Handing.{HasRunTo, groups_agree, all_used}

module _ (board : Posts) (cnf : Cnf) (settings : Settings) (log : Bool) (passes : List PassOf) (ready : Ready) (ran : Ran)
    (is : IsReady board cnf settings log passes ready) (has : HasRun board cnf settings (map numbers_of (lists_of ready.groups.items)) ran) where
  -- there are as many groups as before
  pub some_groups : 1 ≤ length ran.groups.items
  some_groups =
      omega (
        arith,
        is.some,
        ap length has.numbers_kept,
        length-map (lists_of ran.groups.items) numbers_of,
        length-map (lists_of ready.groups.items) numbers_of,
        length-lists ran.groups.items,
        length-lists ready.groups.items,
      )

  -- the cores in them are those that were dealt, after the run
  gone : (cores : List Party) × AreDealt 0 cores (lists_of ran.groups.items) × AreEach (HasRunTo board cnf settings) is.cores cores
  gone =
      dealt_each (HasRunTo board cnf settings) 0 is.cores (lists_of ready.groups.items) (lists_of ran.groups.items) is.dealt
      (groups_agree board cnf settings (lists_of ready.groups.items) (lists_of ran.groups.items) has.numbers_kept
      (All-map (All (PartyDone board cnf settings (last_era cnf settings))) list_of ran.groups.items has.groups))

  -- so each pass that is given back is used
  pub all_given_back : (given : List PassOf) → ArePassesOf board cnf settings passes →
      ((dealt : List Party) → length dealt ≡ settings.cores → AreDealt 0 dealt (lists_of ran.groups.items) → given ≡ map pass_of dealt ++ ran.scribe.pass ∷ []) →
      AreEach (IsUsed board ran.outcome.eras) passes given
  all_given_back given are gathered =
      all_used board cnf settings passes given (map pass_of is.cores) ready.scribe.pass is.cores gone.0 ran.scribe ran.outcome (sym is.whole) refl
      (gathered gone.0 (omega (arith, gone.2.same_length, are.all, ap length is.whole, length-append (map pass_of is.cores) (ready.scribe.pass ∷ []), length-map is.cores pass_of)) gone.1)
      gone.2 has.scribe is.scribe.last has.outcome

append_none : (known : Option (List ℕ)) → known ≡ append_known known []
append_none None = refl
append_none (Some bytes) = ap Some (sym (append-nil bytes))

-- where memory is refused before anything is written, nothing stands
pub none_written : (log : Bool) (text : List ℕ) (now : OutputsTold) → WritesLog log text now now (Err WantOfMemory)
none_written true text now =
    WritesWhole-front text refl
    (record { creates = refl; names = refl; written = append_none (now.at Log).written; later = omega arith; failed = tt; others = (refl, refl) }) tt
none_written false text now = (refl, λ same. cc)

-- a run that stopped so leaves what stands then
pub stop_told : (log : Bool) (text : List ℕ) (start now : OutputsTold) (stop : Stop) (result : Result (Outcome × Vec PassOf Global) Stop) → IsErrAnd result (λ why. why ≡ stop) →
    WritesLog log text start now (Err stop) → WritesLog log text start now (without_outcome (without_passes result))
stop_told log text start now stop (Ok run) same written = absurd same
stop_told log text start now stop (Err why) same written = subst (λ (other : Stop). WritesLog log text start now (Err other)) (sym same) written
