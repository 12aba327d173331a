-- What a run writes, and what its cores are in turn.
use Rattle.std.specs.Prelude.{ℕ, ◌≡◌, ◌≢◌, ◌≤◌, Bool, true, false, List, [], length, Option, Some, None, slice_get, Result, Ok, Err, OnOk, Vec, map, if◌then◌else◌}
use Rattle.std.specs.Borrow.{MutBor}
use Rattle.std.specs.declared.alloc.Global.{Global}
use Rattle.lit_base.specs.Cnf.{Cnf, IsFormula}
use Rattle.lit_base.specs.declared.NoMemory.{NoMemory}
use Rattle.desk_io.specs.Told.{OutputsTold}
use Rattle.solo_core.specs.State.{CoreValue}
use Rattle.solo_core.specs.First.{AreInRange}
use Rattle.solo_core.specs.Calls.{after_stretch, after_sheet}
use Rattle.solo_core.specs.declared.lemma.Lemma.{Lemma}
use Rattle.solo_core.specs.declared.sheet.Settings.{Settings}
use Rattle.log_merge.specs.Part.{part_text}
use Rattle.log_merge.specs.Writing.{WritesPart}
use Rattle.log_merge.specs.declared.stop.Stop.{Stop}
use Rattle.log_merge.specs.declared.stop.Stop.TheVariants.{WriteFault}
use Rattle.crew.specs.declared.outcome.Outcome.{Outcome}
use Rattle.crew.specs.declared.searcher.Searcher.{Searcher}
use Rattle.crew.specs.declared.logged.Logged.{Logged}
use Rattle.crew.specs.declared.trace.TraceRow.{TraceRow}
use Rattle.crew.specs.Groups.{AreEach}
use Rattle.crew.specs.Era.{Member}
use Rattle.crew.specs.Run.{members_at, HasEra}
use Rattle.crew.specs.Log.{parts_before, parts_at, era_parts, joined, all_joined, numbering_at}
use Rattle.crew.specs.Trace.{trace_before}

-- == what is written ==

-- how a run ended, without its outcome
abbrev pub without_outcome : Result Outcome Stop → Result (Unit {0}) Stop
without_outcome (Ok outcome) = Ok tt
without_outcome (Err stop) = Err stop

-- a log that is wanted is written as a part of it is: whole, and after a stop a front of it; where none is wanted the
-- outputs stay as they are, and no write can fail
abbrev pub WritesLog : Bool → List ℕ → OutputsTold → OutputsTold → Result (Unit {0}) Stop → Type 0
WritesLog true text before after result = WritesPart text before after result
WritesLog false text before after result = (after ≡ before) × (result ≢ Err WriteFault)

-- the text of the lemmas of the eras past, of which there are so many
abbrev pub text_before : Cnf → Settings → ℕ → List ℕ
text_before cnf settings past = part_text (numbering_at cnf settings (parts_before cnf settings past)) (all_joined (parts_before cnf settings past))

-- the text of the parts of the next era that stand
abbrev pub era_text : Cnf → Settings → ℕ → List ℕ
era_text cnf settings past = part_text (numbering_at cnf settings (parts_at cnf settings past)) (joined (era_parts cnf settings past))

-- the log of these parts, beside this trace: their numbers, which are kept only where the log is wanted, and how many lemmas there are
abbrev pub logged_of : Cnf → Settings → Bool → List (List (List Lemma)) → List TraceRow → Logged
logged_of cnf settings log eras trace =
    record { numbers = numbering_at cnf settings (if log then eras else []); lemmas = length (all_joined eras); trace = trace }

-- the log and the trace when so many eras are past, and the log with what stands of the next one
abbrev pub logged_before : Cnf → Settings → Bool → ℕ → Logged
logged_before cnf settings log past = logged_of cnf settings log (parts_before cnf settings past) (trace_before cnf settings past)

abbrev pub logged_at : Cnf → Settings → Bool → ℕ → Logged
logged_at cnf settings log past = logged_of cnf settings log (parts_at cnf settings past) (trace_before cnf settings past)

-- how an era ended, without what it came to
abbrev pub without_answer : Result (Option Outcome) Stop → Result (Unit {0}) Stop
without_answer (Ok answer) = Ok tt
without_answer (Err stop) = Err stop

-- == the cores in turn ==

-- an era of a run of this formula with these settings
pub record IsEra (cnf : Cnf) (settings : Settings) (past : ℕ) : Type 0 where
  pub formula : IsFormula cnf
  pub range : AreInRange settings
  pub has : HasEra cnf settings past

-- a core at the start of its era
abbrev pub core_begun : Member → CoreValue
core_begun m = record { frame = m.frame; state = m.state; ended = None; is_handed = false; is_broken = false }

abbrev pub begun : Member → Searcher
begun m = record { number = m.frame.core; core = core_begun m; quota = m.quota }

-- after its stretch
abbrev pub core_worked : Member → CoreValue
core_worked m = after_stretch m.quota (core_begun m)

abbrev pub worked : Member → Searcher
worked m = record { number = m.frame.core; core = core_worked m; quota = m.quota }

-- and after it gave its sheet
abbrev pub at_rest : Member → Searcher
at_rest m = record { number = m.frame.core; core = after_sheet (core_worked m); quota = m.quota }

-- a core may make the stretch of its era, if it isn't broken
pub record MayWork (searcher : Searcher) : Type 0 where
  pub some : 1 ≤ searcher.quota
  pub begun : searcher.core.is_broken ≡ false → searcher.core.ended ≡ None

-- it has made its stretch, or is broken
abbrev pub HasWorked : Searcher → Searcher → Type 0
HasWorked before after = after.core.is_broken ≡ false → after ≡ record before { core = after_stretch before.quota before.core }

-- each core of this era has made its stretch, or is broken
abbrev pub HaveWorked : Cnf → Settings → ℕ → List Searcher → Type 0
HaveWorked cnf settings past searchers = AreEach (λ m s. s.core.is_broken ≡ false → s ≡ worked m) (members_at cnf settings past) searchers

-- what holds of the core at this place of this era
abbrev pub AtMember : Cnf → Settings → ℕ → ℕ → (Member → Type 0) → Type 0
AtMember cnf settings past i P = (m : Member) → slice_get (members_at cnf settings past) i ≡ Some m → P m

-- cores that a call may change
abbrev pub Cores : Type 0
Cores = MutBor (Vec Searcher Global)

-- a call with these conditions and these results, which is told how many eras are past, makes the stretches of each era of
-- this run
pub record Stretches (cnf : Cnf) (settings : Settings) (pre : Cores → ℕ → Type 0) (post : Cores → ℕ → Result (Unit {0}) NoMemory → Cores → Type 0) : Type 0 where
  pub may : (cores : Cores) (past : ℕ) → IsEra cnf settings past → cores.now.items ≡ map begun (members_at cnf settings past) → pre cores past
  pub worked : (before : Cores) (past : ℕ) (result : Result (Unit {0}) NoMemory) (after : Cores) → IsEra cnf settings past →
      before.now.items ≡ map begun (members_at cnf settings past) → post before past result after → OnOk result (HaveWorked cnf settings past after.now.items)
