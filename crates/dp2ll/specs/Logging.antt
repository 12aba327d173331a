-- What becomes of the log port.
use Rattle.std.specs.Prelude.{◌≡◌, ◌⊎◌, ℕ, List, [], ◌∷◌, ◌++◌, Option, Some, None, option_map, Result, Ok, Err}
use Rattle.desk_io.specs.Told.{PortTold, OutputsTold, raised, Rose}
use Rattle.desk_io.specs.declared.Port.TheVariants.{Log}
use Rattle.dp2ll.specs.declared.ending.WriteStop.{WriteStop}
use Rattle.dp2ll.specs.declared.ending.WriteStop.TheVariants.{LogFault, AnswerFault, NoMemory}

-- what the outputs tell of logs: the log port, the names that were created, and how many calls of `create` there were
pub record LogTold : Type 0 where
  pub port : PortTold
  pub names : Option (List (List ℕ))
  pub creates : ℕ

-- the same of all that outputs tell
abbrev pub log_told : OutputsTold → LogTold
log_told outputs = record { port = outputs.at Log; names = outputs.names; creates = outputs.creates }

-- the known names with one more
abbrev pub names_with : Option (List (List ℕ)) → List ℕ → Option (List (List ℕ))
names_with names name = option_map (λ all. all ++ name ∷ []) names

-- known bytes that were emptied and then written with this text
abbrev pub rewritten : Option (List ℕ) → List ℕ → Option (List ℕ)
rewritten written text = option_map (λ _. text) written

-- the log was created once under this name, and holds exactly this text
pub record HoldsLog (name text : List ℕ) (before after : LogTold) : Type 0 where
  pub creates : after.creates ≡ raised before.creates
  pub names : after.names ≡ names_with before.names name
  pub written : after.port.written ≡ rewritten before.port.written text

-- a created log holds a front of the text
pub record HoldsFront (text : List ℕ) (before after : PortTold) : Type 0 where
  pub done : List ℕ
  pub rest : List ℕ
  pub parts : done ++ rest ≡ text
  pub written : after.written ≡ rewritten before.written done

-- the log was to be created once under this name: it holds a front of the text, or what it held where it could not be emptied
pub record CutsLog (name text : List ℕ) (before after : LogTold) : Type 0 where
  pub creates : after.creates ≡ raised before.creates
  pub names : after.names ≡ names_with before.names name
  pub written : (after.port.written ≡ before.port.written) ⊎ HoldsFront text before.port after.port

-- memory was refused to the log's creation, which changed nothing but the count of such calls
pub record LacksLog (before after : LogTold) : Type 0 where
  pub creates : after.creates ≡ raised before.creates
  pub names : after.names ≡ before.names
  pub written : after.port.written ≡ before.port.written

-- a call on the log port failed, which left the log cut short
pub record FailsLog (name text : List ℕ) (before after : LogTold) : Type 0 where
  pub part : CutsLog name text before after
  pub rose : Rose before.port.faults after.port.faults

-- the log holds this text where one is named, and else nothing of logs changed
abbrev pub LogsWhole : Option (List ℕ) → List ℕ → LogTold → LogTold → Type 0
LogsWhole None text before after = after ≡ before
LogsWhole (Some name) text before after = HoldsLog name text before after

-- a named log failed
abbrev pub LogsFault : Option (List ℕ) → List ℕ → LogTold → LogTold → Type 0
LogsFault None text before after = ⊥
LogsFault (Some name) text before after = FailsLog name text before after

-- a named log was cut short, or is not there; without one nothing of logs changed
abbrev pub LogsPart : Option (List ℕ) → List ℕ → LogTold → LogTold → Type 0
LogsPart None text before after = after ≡ before
LogsPart (Some name) text before after = CutsLog name text before after ⊎ LacksLog before after

-- what creating a log and writing this text to it leaves, by how it ended
abbrev pub KeepsLog : Option (List ℕ) → List ℕ → LogTold → LogTold → Result (Unit {0}) WriteStop → Type 0
KeepsLog log text before after (Ok done) = LogsWhole log text before after
KeepsLog log text before after (Err LogFault) = LogsFault log text before after
KeepsLog log text before after (Err AnswerFault) = ⊥
KeepsLog log text before after (Err NoMemory) = LogsPart log text before after
