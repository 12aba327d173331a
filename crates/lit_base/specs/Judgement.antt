-- Proofs in LRAT form, judged line by line (LRAT: Cruz-Filipe, Heule, Hunt, Kaufmann and Schneider-Kamp 2017).
use Rattle.std.specs.Prelude.{ℕ, ◌+◌, ◌≡◌, ◌==◌, nat_le, Bool, true, false, not, ◌&&◌, if◌then◌else◌}
use Rattle.std.specs.Prelude.{List, [], ◌∷◌, length, map, filter, fold, find, Option, option_map, is_some, Result, Ok, Err, is_ok}
use Rattle.std.specs.List.{list_any}
use Rattle.lit_base.specs.Literal.{Literal}
use Rattle.lit_base.specs.Cnf.{Cnf}
use Rattle.lit_base.specs.Truth.{Satisfies}
use Rattle.lit_base.specs.Walk.{judgement_of}
use Rattle.lit_base.specs.declared.proof.Line.{Line}
use Rattle.lit_base.specs.declared.proof.LineStep.{LineStep}
use Rattle.lit_base.specs.declared.proof.LineStep.TheVariants.{Add, Delete}
use Rattle.lit_base.specs.declared.proof.Judged.{Judged}
use Rattle.lit_base.specs.declared.proof.Judged.TheVariants as judged
use Rattle.lit_base.specs.declared.proof.ProofFault.{ProofFault}
use Rattle.lit_base.specs.declared.proof.ProofFault.TheVariants as fault

-- a clause and its id
pub record LiveClause : Type 0 where
  pub id : ℕ
  pub lits : List Literal

-- what stands after some lines: the greatest id that an original or an addition has, and the clauses that aren't deleted
pub record Live : Type 0 where
  pub last : ℕ
  pub clauses : List LiveClause

-- clauses under the ids from this one on
abbrev pub numbered_from : ℕ → List (List Literal) → List LiveClause
numbered_from id [] = []
numbered_from id (lits ∷ others) = record { id = id; lits = lits } ∷ numbered_from (id + 1) others

-- at first the clauses of the formula are live, under the ids from 1 on
abbrev pub first_live : Cnf → Live
first_live cnf = record { last = length cnf.clauses; clauses = numbered_from 1 cnf.clauses }

-- the literals of the live clause with this id
abbrev pub live_lits : List LiveClause → ℕ → Option (List Literal)
live_lits clauses id = option_map (λ c. c.lits) (find (λ c. c.id == id) clauses)

-- a lemma that follows becomes live under its id
abbrev pub with_lemma : ℕ → List Literal → Live → Live
with_lemma id lits live = record { last = id; clauses = record { id = id; lits = lits } ∷ live.clauses }

-- the clauses but the one with this id
abbrev pub without_id : ℕ → Live → Live
without_id id live = record { last = live.last; clauses = filter (λ c. not (c.id == id)) live.clauses }

-- an addition whose lemma was judged so
abbrev pub added : ℕ → ℕ → List Literal → Live → Judged → Result Live ProofFault
added line id lits live judged.Follows = Ok (with_lemma id lits live)
added line id lits live (judged.UnknownHint place) = Err (fault.UnknownHint line place)
added line id lits live (judged.NotUnit place) = Err (fault.NotUnit line place)
added line id lits live judged.NotFalsified = Err (fault.NotFalsified line)

-- the ids are deleted in order, from this place on; each has to be live at its turn
abbrev pub deleted : ℕ → ℕ → List ℕ → Live → Result Live ProofFault
deleted line place [] live = Ok live
deleted line place (id ∷ ids) live =
    if is_some (live_lits live.clauses id)
    then deleted line (place + 1) ids (without_id id live)
    else Err (fault.UnknownDelete line place)

-- one step: the id of an addition has to be above those of all originals and earlier additions,
-- and its lemma to follow from the live clauses that its hints name
abbrev pub judged_step : ℕ → LineStep → Live → Result Live ProofFault
judged_step line (Add id lits hints) live =
    if nat_le id live.last
    then Err (fault.IdNotRising line)
    else added line id lits live (judgement_of lits (map (live_lits live.clauses) hints))
judged_step line (Delete id ids) live = deleted line 1 ids live

-- one line more; the first fault stays
abbrev pub judged_line : Result Live ProofFault → Line → Result Live ProofFault
judged_line (Err found) line = Err found
judged_line (Ok live) line = judged_step line.line line.step live

-- the live clauses after these lines, or the first fault with its line and place
abbrev pub judge : Cnf → List Line → Result Live ProofFault
judge cnf lines = fold judged_line (Ok (first_live cnf)) lines

-- whether a step adds the empty lemma
abbrev pub adds_empty : LineStep → Bool
adds_empty (Add id lits hints) = length lits == 0
adds_empty (Delete id ids) = false

-- whether some line adds the empty lemma
abbrev pub add_empty : List Line → Bool
add_empty lines = list_any (λ line. adds_empty line.step) lines

-- the lines up to the first that adds the empty lemma, that one included
abbrev pub up_to_empty : List Line → List Line
up_to_empty [] = []
up_to_empty (line ∷ later) = line ∷ (if adds_empty line.step then [] else up_to_empty later)

-- whether some line adds the empty lemma, and none up to the first such line, that one included, has a fault
abbrev pub checks : Cnf → List Line → Bool
checks cnf lines = add_empty lines && is_ok (judge cnf (up_to_empty lines))

-- the lines are a proof that the formula has no model
abbrev pub Checks : Cnf → List Line → Type 0
Checks cnf lines = checks cnf lines ≡ true

-- no model satisfies the formula
abbrev pub HasNoModel : Cnf → Type 0
HasNoModel cnf = (model : List Bool) → Satisfies model cnf → ⊥
