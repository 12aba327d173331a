-- The cores for which the caller's thread works, and the scribe beside them, from one era to the next.
use Rattle.std.proofs.Common.{◌≡◌, ℕ, ◌+◌, ◌≤◌, ◌<◌, Bool, true, false, List, [], ◌∷◌, length, set, get_or, refl, ap, sym, ◌∙◌, subst, All, arith}
use Rattle.std.specs.Prelude.{Option, Some, None, Result, Ok, Err}
use Rattle.std.proofs.lemmas.Bool.{both_ways}
use Rattle.std.proofs.lemmas.List.Elements.{All-weaker}
use Rattle.lit_base.specs.Cnf.{Cnf}
use Rattle.desk_io.specs.Told.{OutputsTold}
use Rattle.log_merge.specs.declared.stop.Stop.{Stop}
use Rattle.log_merge.specs.declared.stop.Stop.TheVariants.{NoMemory as WantOfMemory}
use Rattle.solo_core.specs.declared.sheet.Settings.{Settings}
use Rattle.crew.specs.declared.outcome.Outcome.{Outcome}
use Rattle.crew.specs.declared.party.Party.{Party}
use Rattle.crew.specs.declared.party.Step.{Step}
use Rattle.crew.specs.declared.party.Step.TheVariants as cores
use Rattle.crew.specs.declared.scribe.Scribe.{Scribe}
use Rattle.crew.specs.declared.scribe.Written.{Written}
use Rattle.crew.specs.declared.scribe.Written.TheVariants.{GoesOn, Over, Stopped}
use Rattle.crew.specs.declared.worker.Place.{Place}
use Rattle.crew.specs.declared.worker.Place.TheVariants.{Away, Here, Through}
use Rattle.crew.specs.Era.{is_over}
use Rattle.crew.specs.Run.{mails_at, last_era}
use Rattle.crew.specs.Log.{log_text}
use Rattle.crew.specs.Outcome.{outcome_at}
use Rattle.crew.specs.Groups.{list_of}
use Rattle.crew.specs.Turns.{IsEra, WritesLog, text_before}
use Rattle.crew.specs.Parties.{Posts, PartyAt, PartyDone}
use Rattle.crew.specs.Scribing.{ScribeAt, ScribeReceives, LogStands, LogLeft}
use Rattle.crew.specs.Working.{PlaceAt, joint_of}
use Rattle.crew.specs.Places.{AfterEra, PlaceReceives, PlacesReceive, EraEnds, agreed_of, joint_place, why_of}
use Rattle.crew.proofs.LastEra.{has_more}
use Rattle.crew.proofs.Texts.{front-same, text_is_front}
use Rattle.crew.proofs.Writings.{fine, log_refused}
use Rattle.crew.proofs.Working.{Before, none_before, before_more, all_before}

module _ (board : Posts) (cnf : Cnf) (settings : Settings) where
  -- == one place ==

  -- where no cores are here, anything holds of those that are
  pub nobody_here : (P : Party → Type 0) (place : Place) → PlaceAt board cnf settings (λ party. ⊥) place → PlaceAt board cnf settings P place
  nobody_here P (Away handle) held = held
  nobody_here P (Here group) held = All-weaker (λ party. ⊥) P (λ party none. absurd none) (list_of group) held
  nobody_here P (Through group) held = held

  -- == some places ==

  -- what holds of the places before one, for which an era ended so
  abbrev pub HaveReceived : ℕ → ℕ → List Place → Option Step → Type 0
  HaveReceived past i places came = AfterEra board cnf settings past (λ P. Before (PlaceAt board cnf settings P) i places) came

  pub none_received : (past : ℕ) (places : List Place) → HaveReceived past 0 places None
  none_received past places = none_before (PlaceAt board cnf settings (λ party. ⊥)) places

  weaker_before : (P : Party → Type 0) (i : ℕ) (places : List Place) → Before (PlaceAt board cnf settings (λ party. ⊥)) i places → Before (PlaceAt board cnf settings P) i places
  weaker_before P i places held j d below = nobody_here P (get_or places j d) (held j d below)

  -- one place more
  pub received_more : (past i : ℕ) (places : List Place) (place : Place) (came step : Option Step) → i < length places → HaveReceived past i places came → PlaceReceives board cnf settings past place step →
      HaveReceived past (i + 1) (set places i place) (joint_place came step)
  received_more past i places place None None within before here = before_more (PlaceAt board cnf settings (λ party. ⊥)) i places place within here before
  received_more past i places place None (Some cores.GoesOn) within before (on, here) =
      (on, before_more (PlaceAt board cnf settings (PartyAt board cnf settings (past + 1))) i places place within here (weaker_before (PartyAt board cnf settings (past + 1)) i places before))
  received_more past i places place None (Some cores.Over) within before (over, here) =
      (over, before_more (PlaceAt board cnf settings (PartyDone board cnf settings past)) i places place within here (weaker_before (PartyDone board cnf settings past) i places before))
  received_more past i places place None (Some cores.Broken) within before here = tt
  received_more past i places place (Some cores.GoesOn) None within (on, before) here =
      (on, before_more (PlaceAt board cnf settings (PartyAt board cnf settings (past + 1))) i places place within (nobody_here (PartyAt board cnf settings (past + 1)) place here) before)
  received_more past i places place (Some cores.GoesOn) (Some cores.GoesOn) within (on, before) (also, here) =
      (on, before_more (PlaceAt board cnf settings (PartyAt board cnf settings (past + 1))) i places place within here before)
  received_more past i places place (Some cores.GoesOn) (Some cores.Over) within (on, before) (over, here) = absurd (both_ways (is_over (mails_at cnf settings past)) on over)
  received_more past i places place (Some cores.GoesOn) (Some cores.Broken) within before here = tt
  received_more past i places place (Some cores.Over) None within (over, before) here =
      (over, before_more (PlaceAt board cnf settings (PartyDone board cnf settings past)) i places place within (nobody_here (PartyDone board cnf settings past) place here) before)
  received_more past i places place (Some cores.Over) (Some cores.GoesOn) within (over, before) (on, here) = absurd (both_ways (is_over (mails_at cnf settings past)) on over)
  received_more past i places place (Some cores.Over) (Some cores.Over) within (over, before) (also, here) =
      (over, before_more (PlaceAt board cnf settings (PartyDone board cnf settings past)) i places place within here before)
  received_more past i places place (Some cores.Over) (Some cores.Broken) within before here = tt
  received_more past i places place (Some cores.Broken) None within before here = tt
  received_more past i places place (Some cores.Broken) (Some step) within before here = tt

  -- all places
  pub all_received : (past i : ℕ) (places : List Place) (came : Option Step) → length places ≤ i → HaveReceived past i places came → PlacesReceive board cnf settings past places came
  all_received past i places None long each = all_before (PlaceAt board cnf settings (λ party. ⊥)) i places long each
  all_received past i places (Some cores.GoesOn) long (on, each) = (on, all_before (PlaceAt board cnf settings (PartyAt board cnf settings (past + 1))) i places long each)
  all_received past i places (Some cores.Over) long (over, each) = (over, all_before (PlaceAt board cnf settings (PartyDone board cnf settings past)) i places long each)
  all_received past i places (Some cores.Broken) long each = tt

  -- == the scribe beside them ==

  pub era_ends : (log : Bool) (past : ℕ) (places : List Place) (scribe : Scribe) (came : Option Step) (stop : Option Stop) (written : Written) → PlacesReceive board cnf settings past places came →
      ScribeReceives board cnf settings log past scribe written → EraEnds board cnf settings log past places scribe (agreed_of came stop written)
  era_ends log past places scribe came stop (Stopped why) here there = tt
  era_ends log past places scribe None stop GoesOn here (on, there) =
      (on, All-weaker (PlaceAt board cnf settings (λ party. ⊥)) (PlaceAt board cnf settings (PartyAt board cnf settings (past + 1))) (nobody_here (PartyAt board cnf settings (past + 1))) places here, there)
  era_ends log past places scribe (Some cores.GoesOn) stop GoesOn here (on, there) = (on, here.1, there)
  era_ends log past places scribe (Some cores.Over) stop GoesOn here there = tt
  era_ends log past places scribe (Some cores.Broken) stop GoesOn here there = tt
  era_ends log past places scribe None stop (Over outcome) here (over, is, there) =
      (over, is, All-weaker (PlaceAt board cnf settings (λ party. ⊥)) (PlaceAt board cnf settings (PartyDone board cnf settings past)) (nobody_here (PartyDone board cnf settings past)) places here, there)
  era_ends log past places scribe (Some cores.GoesOn) stop (Over outcome) here there = tt
  era_ends log past places scribe (Some cores.Over) stop (Over outcome) here (over, is, there) = (over, is, here.1, there)
  era_ends log past places scribe (Some cores.Broken) stop (Over outcome) here there = tt

  -- what stands of the log where the scribe went on and the cores did not
  stopped_front : (log : Bool) (past : ℕ) (start now : OutputsTold) (stop : Option Stop) → IsEra cnf settings past → is_over (mails_at cnf settings past) ≡ false →
      LogStands log cnf settings (past + 1) start now stop → WritesLog log (log_text cnf settings) start now (Err (why_of stop))
  stopped_front log past start now None era on stands =
      log_refused log (text_before cnf settings (past + 1)) (log_text cnf settings) start now
      (text_is_front cnf settings (past + 1) era.formula era.range (has_more cnf settings past era.has on)) stands
  stopped_front log past start now (Some why) era on stands = stands

  -- and where the run is over for the scribe and not for the cores
  pub whole_front : (log : Bool) (start now : OutputsTold) → WritesLog log (log_text cnf settings) start now fine → WritesLog log (log_text cnf settings) start now (Err WantOfMemory)
  whole_front log start now written = log_refused log (log_text cnf settings) (log_text cnf settings) start now (front-same (log_text cnf settings)) written

  pub log_agrees : (log : Bool) (past : ℕ) (start now : OutputsTold) (scribe : Scribe) (came : Option Step) (written : Written) → IsEra cnf settings past →
      ScribeReceives board cnf settings log past scribe written → LogLeft log cnf settings past start now scribe.stop written →
      LogLeft log cnf settings past start now scribe.stop (agreed_of came scribe.stop written)
  log_agrees log past start now scribe came (Stopped why) era there left = left
  log_agrees log past start now scribe None GoesOn era there left = left
  log_agrees log past start now scribe (Some cores.GoesOn) GoesOn era there left = left
  log_agrees log past start now scribe (Some cores.Over) GoesOn era (on, there) left = stopped_front log past start now scribe.stop era on left
  log_agrees log past start now scribe (Some cores.Broken) GoesOn era (on, there) left = stopped_front log past start now scribe.stop era on left
  log_agrees log past start now scribe None (Over outcome) era there left = left
  log_agrees log past start now scribe (Some cores.GoesOn) (Over outcome) era there left = whole_front log start now left
  log_agrees log past start now scribe (Some cores.Over) (Over outcome) era there left = left
  log_agrees log past start now scribe (Some cores.Broken) (Over outcome) era there left = whole_front log start now left
