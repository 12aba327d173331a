-- A log that is created and then written.
use Rattle.std.proofs.Common.{◌≡◌, ◌⊎◌, true, ℕ, ◌≤◌, List, [], ◌∷◌, ◌++◌, ◌∙◌, ap, refl, inl, inr, arith, Option, Some, None, Result, Ok, Err}
use Rattle.std.specs.Prelude.{is_some}
use Rattle.std.specs.Io.KnownBytes.{append_known}
use Rattle.desk_io.specs.Told.{PortTold, OutputsTold}
use Rattle.desk_io.specs.Outputs.{GrowsByFront}
use Rattle.desk_io.specs.declared.Port.TheVariants.{Log}
use Rattle.log_merge.specs.declared.stop.Stop.{Stop}
use Rattle.log_merge.specs.declared.stop.Stop.TheVariants.{WriteFault, NoMemory as WantOfMemory}
use Rattle.crew.specs.Turns.{WritesLog}
use Rattle.dp2ll.specs.declared.ending.WriteStop.{WriteStop}
use Rattle.dp2ll.specs.declared.ending.WriteStop.TheVariants.{LogFault, AnswerFault, NoMemory}
use Rattle.dp2ll.specs.Running.{stop_of}
use Rattle.dp2ll.specs.Logging.{LogTold, log_told, rewritten, HoldsLog, HoldsFront, CutsLog, LogsWhole, KeepsLog}

-- what is written to an emptied log is all that stands there
written_anew : (known : Option (List ℕ)) (text : List ℕ) → append_known (rewritten known []) text ≡ rewritten known text
written_anew None text = refl
written_anew (Some bytes) text = refl

-- an append that is empty has an empty front
front_of_nothing : (done rest : List ℕ) → done ++ rest ≡ [] → done ≡ []
front_of_nothing [] rest none = refl
front_of_nothing (byte ∷ done) rest none = cc

-- a front of nothing is one of any text
front_of_any : (text : List ℕ) (before after : PortTold) → HoldsFront [] before after → HoldsFront text before after
front_of_any text before after h = record {
  done = [];
  rest = text;
  parts = refl;
  written = h.written ∙ ap (rewritten before.written) (front_of_nothing h.done h.rest h.parts);
}

-- so a log that is cut short before anything is written is cut short in any text
cut_before : (name text : List ℕ) (before after : LogTold) → CutsLog name [] before after → CutsLog name text before after
cut_before name text before after h = record { creates = h.creates; names = h.names; written = by h.written }
  where
    by : (after.port.written ≡ before.port.written) ⊎ HoldsFront [] before.port after.port
        → (after.port.written ≡ before.port.written) ⊎ HoldsFront text before.port after.port
    by (inl same) = inl same
    by (inr front) = inr (front_of_any text before.port after.port front)

-- where creating the log stopped, nothing of its text is written
pub uncreated : (log : Option (List ℕ)) (text : List ℕ) (before after : LogTold) (stop : WriteStop) → KeepsLog log [] before after (Err stop)
    → KeepsLog log text before after (Err stop)
uncreated None text before after LogFault kept = kept
uncreated (Some name) text before after LogFault kept =
    record { part = cut_before name text before after kept.part; rose = kept.rose }
uncreated log text before after AnswerFault kept = kept
uncreated None text before after NoMemory kept = kept
uncreated (Some name) text before after NoMemory (inl cut) = inl (cut_before name text before after cut)
uncreated (Some name) text before after NoMemory (inr lacks) = inr lacks

-- how a run's writes ended, as the program has it
abbrev pub with_stop : Result (Unit {0}) Stop → Result (Unit {0}) WriteStop
with_stop (Ok done) = Ok done
with_stop (Err stop) = Err (stop_of stop)

-- the created log was written whole
held : (name text : List ℕ) (before now after : OutputsTold) → HoldsLog name [] (log_told before) (log_told now)
    → WritesLog true text now after (Ok tt) → HoldsLog name text (log_told before) (log_told after)
held name text before now after h w = record {
  creates = w.creates ∙ h.creates;
  names = w.names ∙ h.names;
  written = w.written ∙ ap (λ known. append_known known text) h.written ∙ written_anew (before.at Log).written text;
}

-- a front of it was written
written_front : (text : List ℕ) (before now after : PortTold) → now.written ≡ rewritten before.written []
    → GrowsByFront text now.written after.written → HoldsFront text before after
written_front text before now after empty front = record {
  done = front.done;
  rest = front.rest;
  parts = front.parts;
  written = front.bytes ∙ ap (λ known. append_known known front.done) empty ∙ written_anew before.written front.done;
}

-- so the created log was cut short
cut : (name text : List ℕ) (before now after : OutputsTold) → HoldsLog name [] (log_told before) (log_told now)
    → after.creates ≡ now.creates → after.names ≡ now.names → GrowsByFront text (now.at Log).written (after.at Log).written
    → CutsLog name text (log_told before) (log_told after)
cut name text before now after h creates names front = record {
  creates = creates ∙ h.creates;
  names = names ∙ h.names;
  written = inr (written_front text (before.at Log) (now.at Log) (after.at Log) h.written front);
}

-- a log that was created, where one is named, and then written
pub logged_on : (log : Option (List ℕ)) (text : List ℕ) (before now after : OutputsTold) (result : Result (Unit {0}) Stop)
    → LogsWhole log [] (log_told before) (log_told now) → (before.at Log).faults ≤ (now.at Log).faults
    → WritesLog (is_some log) text now after result → KeepsLog log text (log_told before) (log_told after) (with_stop result)
logged_on None text before now after (Ok done) whole later (same, never) = ap log_told same ∙ whole
logged_on None text before now after (Err WriteFault) whole later (same, never) = absurd (never refl)
logged_on None text before now after (Err WantOfMemory) whole later (same, never) = ap log_told same ∙ whole
logged_on (Some name) text before now after (Ok done) whole later writes = held name text before now after whole writes
logged_on (Some name) text before now after (Err WriteFault) whole later writes =
    record { part = cut name text before now after whole writes.creates writes.names writes.written; rose = omega (arith, later, writes.failed) }
logged_on (Some name) text before now after (Err WantOfMemory) whole later writes =
    inl (cut name text before now after whole writes.creates writes.names writes.written)
