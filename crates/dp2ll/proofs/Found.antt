-- What is found of a front of a proof stays, whatever follows.
use Rattle.std.proofs.Common.{◌≡◌, ◌||◌, ◌&&◌, cond, ℕ, List, [], ◌∷◌, ◌++◌, Bool, true, false, refl, ap, sym, ◌∙◌, append_assoc, take-append-drop, take, drop, Option, Some, None, Ok}
use Rattle.std.specs.Prelude.{is_ok}
use Rattle.std.proofs.lemmas.Bool.{and_from, or_left}
use Rattle.std.proofs.lemmas.List.Folds.{list_any-append}
use Rattle.lit_base.specs.Cnf.{Cnf}
use Rattle.lit_base.specs.Judgement.{judge, adds_empty, add_empty, up_to_empty, checks, Checks}
use Rattle.lit_base.specs.declared.proof.Line.{Line}
use Rattle.lit_base.proofs.ProofEnds.{checks-none_empty}
use Rattle.lrat_text.specs.declared.fault.LineFault.{LineFault}
use Rattle.lrat_text.specs.declared.fault.LineFault.TheVariants as reader
use Rattle.lrat_text.specs.Faults.{OnFault}
use Rattle.lrat_text.specs.State.{ReaderState}
use Rattle.lrat_text.specs.Reading.{Steps, early_steps, early_proof_fault, proof_steps}
use Rattle.lrat_text.specs.Reader.{HasRead}
use Rattle.lrat_text.specs.Laws.{EarlyFaultStays, EndedLinesStay, ReadBytesAreSound}
use Rattle.lrat_check.specs.declared.checker.Checker.{Checker}
use Rattle.lrat_check.specs.Checking.{HasJudged}
use Rattle.lrat_check.specs.Laws.{JudgedLinesAreSound, FaultRefuses}
use Rattle.dp2ll.specs.declared.finding.Flaw.{Flaw}
use Rattle.dp2ll.specs.declared.finding.Flaw.TheVariants.{Misread, Misjudged, NoEmptyClause}
use Rattle.dp2ll.specs.declared.finding.Finding.{Finding}
use Rattle.dp2ll.specs.declared.finding.Finding.TheVariants.{Verified, Flawed}
use Rattle.dp2ll.specs.Judging.{IsFlaw, IsFinding, FindsEarly, FindsLine, FindsByFault, JudgesLine, JudgesNext, IsOfProof}

-- behind the first empty lemma nothing counts
up_to_more : (lines later : List Line) → add_empty lines ≡ true → up_to_empty (lines ++ later) ≡ up_to_empty lines
up_to_more [] later some = cc
up_to_more (line ∷ more) later some = step (adds_empty line.step) refl (up_to_more more later)
  where
    step : (b : Bool) → adds_empty line.step ≡ b → (add_empty more ≡ true → up_to_empty (more ++ later) ≡ up_to_empty more)
        → (line ∷ cond b [] (up_to_empty (more ++ later))) ≡ (line ∷ cond b [] (up_to_empty more))
    step true is same = refl
    step false is same = ap (λ t. line ∷ t) (same (ap (λ b. b || add_empty more) (sym is) ∙ some))

-- so a proof that checks does with more lines behind it
pub checks_more : (cnf : Cnf) (lines later : List Line) → Checks cnf lines → Checks cnf (lines ++ later)
checks_more cnf lines later checked = by (add_empty lines) refl (is_ok (judge cnf (up_to_empty lines))) refl
  where
    by : (e : Bool) → add_empty lines ≡ e → (o : Bool) → is_ok (judge cnf (up_to_empty lines)) ≡ o → Checks cnf (lines ++ later)
    by true ends true sound =
        and_from (add_empty (lines ++ later)) (is_ok (judge cnf (up_to_empty (lines ++ later))))
        (list_any-append (λ l. adds_empty l.step) lines later ∙ or_left (add_empty lines) (add_empty later) ends)
        (ap (λ all. is_ok (judge cnf all)) (up_to_more lines later ends) ∙ sound)
    by true ends false sound = let not : checks cnf lines ≡ false = ap (λ b. b && is_ok (judge cnf (up_to_empty lines))) ends ∙ sound in cc
    by false ends o sound = let not : checks cnf lines ≡ false = checks-none_empty cnf lines ends in cc

-- a piece and what follows it, by how much of the piece was taken
split_text : (bytes text rest : List ℕ) (taken : ℕ) → (bytes ++ text) ++ rest ≡ (bytes ++ take taken text) ++ (drop taken text ++ rest)
split_text bytes text rest taken =
    ap (λ t. (bytes ++ t) ++ rest) (sym (take-append-drop taken text))
    ∙ (ap (λ t. t ++ rest) (sym (append_assoc bytes (take taken text) (drop taken text)))
    ∙ append_assoc (bytes ++ take taken text) (drop taken text) rest)

-- the lines that a reader has handed out are the first of the whole, whatever follows
record BeginsWith (bytes text rest : List ℕ) (lines : List Line) : Type 0 where
  later : List Line
  begins : (proof_steps ((bytes ++ text) ++ rest)).lines ≡ lines ++ later

begins_with : EndedLinesStay → ReadBytesAreSound → (reader : ReaderState) (bytes text rest : List ℕ) (taken : ℕ) (lines : List Line)
    → HasRead reader (bytes ++ take taken text) lines → BeginsWith bytes text rest lines
unfolding early_proof_fault
begins_with stay sound reader bytes text rest taken lines read =
    let steps = sound reader (bytes ++ take taken text) lines read in
    let more = stay (bytes ++ take taken text) (drop taken text ++ rest) (ap (λ (s : Steps). s.fault) steps) in
    record {
      later = more.0;
      begins = ap (λ t. (proof_steps t).lines) (split_text bytes text rest taken) ∙ more.1 ∙ ap (λ (s : Steps). s.lines ++ more.0) steps;
    }

-- what is found at a line stays
pub line_found : EndedLinesStay → ReadBytesAreSound → (cnf : Cnf) (reader : ReaderState) (bytes text : List ℕ) (taken : ℕ) (lines : List Line)
    (line : Line) (finding : Finding) → HasRead reader (bytes ++ take taken text) (lines ++ line ∷ []) → add_empty lines ≡ false
    → FindsLine cnf (lines ++ line ∷ []) finding → FindsEarly cnf (bytes ++ text) finding
line_found stay sound cnf reader bytes text taken lines line Verified read unended found = λ rest.
    let more = begins_with stay sound reader bytes text rest taken (lines ++ line ∷ []) read in
    rw more.begins (checks_more cnf (lines ++ line ∷ []) more.later found)
line_found stay sound cnf reader bytes text taken lines line (Flawed (Misjudged fault)) read unended found = λ rest.
    let more = begins_with stay sound reader bytes text rest taken (lines ++ line ∷ []) read in
    record {
      earlier = lines;
      line = line;
      later = more.later;
      split = more.begins ∙ append_assoc lines (line ∷ []) more.later;
      unended = unended;
      fails = found;
    }
line_found stay sound cnf reader bytes text taken lines line (Flawed (Misread fault)) read unended found = absurd found
line_found stay sound cnf reader bytes text taken lines line (Flawed NoEmptyClause) read unended found = absurd found

-- the same at the end of a proof
pub last_found : (cnf : Cnf) (bytes : List ℕ) (lines : List Line) (line : Line) (finding : Finding)
    → proof_steps bytes ≡ record { lines = lines ++ line ∷ []; fault = None } → add_empty lines ≡ false
    → FindsLine cnf (lines ++ line ∷ []) finding → IsFinding cnf (proof_steps bytes) finding
last_found cnf bytes lines line Verified steps unended found = rw steps found
last_found cnf bytes lines line (Flawed (Misjudged fault)) steps unended found =
    record { earlier = lines; line = line; later = []; split = ap (λ (s : Steps). s.lines) steps; unended = unended; fails = found }
last_found cnf bytes lines line (Flawed (Misread fault)) steps unended found = absurd found
last_found cnf bytes lines line (Flawed NoEmptyClause) steps unended found = absurd found

-- one more line that goes on
pub goes_on : (lines : List Line) (line : Line) → add_empty lines ≡ false → adds_empty line.step ≡ false → add_empty (lines ++ line ∷ []) ≡ false
goes_on lines line none passes = list_any-append (λ l. adds_empty l.step) lines (line ∷ []) ∙ rw (none, passes) refl

-- nothing is wrong but that no line adds the empty lemma
pub lacks_empty : JudgedLinesAreSound → (cnf : Cnf) (checker : Checker) (bytes : List ℕ) (lines : List Line)
    → proof_steps bytes ≡ record { lines = lines; fault = None } → HasJudged cnf checker lines → add_empty lines ≡ false
    → IsFinding cnf (proof_steps bytes) (Flawed NoEmptyClause)
lacks_empty sound cnf checker bytes lines steps judged unended =
    rw steps (record { no_fault = refl; sound = sound cnf checker lines judged; unended = unended })

-- a fact that an answer owes for a fault of the proof
pub owed : (fault : LineFault) (P : Type 0) → IsOfProof fault → OnFault fault P → P
owed reader.NoMemory P of_proof fact = absurd (of_proof refl)
owed fault P of_proof fact = fact

-- a fault of the reader is found
misread : JudgedLinesAreSound → (cnf : Cnf) (checker : Checker) (steps : Steps) (lines : List Line) (fault : LineFault)
    → steps ≡ record { lines = lines; fault = Some fault } → HasJudged cnf checker lines → add_empty lines ≡ false
    → IsFinding cnf steps (Flawed (Misread fault))
misread sound cnf checker steps lines fault is judged unended =
    rw is (record { fault = refl; sound = sound cnf checker lines judged; unended = unended })

-- and stays
pub misread_early : EarlyFaultStays → JudgedLinesAreSound → (cnf : Cnf) (checker : Checker) (bytes : List ℕ) (lines : List Line) (fault : LineFault)
    → early_steps bytes ≡ record { lines = lines; fault = Some fault } → HasJudged cnf checker lines → add_empty lines ≡ false
    → FindsEarly cnf bytes (Flawed (Misread fault))
unfolding early_proof_fault
misread_early stays sound cnf checker bytes lines fault is judged unended = λ rest.
    misread sound cnf checker (proof_steps (bytes ++ rest)) lines fault
    (stays bytes rest fault (ap (λ (s : Steps). s.fault) is) ∙ ap (λ (s : Steps). record { lines = s.lines; fault = Some fault }) is)
    judged unended

-- at the end of a proof
pub misread_whole : JudgedLinesAreSound → (cnf : Cnf) (checker : Checker) (bytes : List ℕ) (lines : List Line) (fault : LineFault)
    → proof_steps bytes ≡ record { lines = lines; fault = Some fault } → HasJudged cnf checker lines → add_empty lines ≡ false
    → IsFinding cnf (proof_steps bytes) (Flawed (Misread fault))
misread_whole sound cnf checker bytes lines fault is judged unended =
    misread sound cnf checker (proof_steps bytes) lines fault is judged unended

-- a proof with a flaw doesn't check
pub flaw_refuses : FaultRefuses → (cnf : Cnf) (steps : Steps) (flaw : Flaw) → IsFlaw cnf steps flaw → checks cnf steps.lines ≡ false
flaw_refuses refuses cnf steps (Misread fault) is = checks-none_empty cnf steps.lines is.unended
flaw_refuses refuses cnf steps (Misjudged fault) is =
    rw is.split (refuses cnf is.earlier is.later is.line is.fails.proof is.unended is.fails.judged)
flaw_refuses refuses cnf steps NoEmptyClause is = checks-none_empty cnf steps.lines is.unended

-- what judging a line that was read gives
pub next_judged : EndedLinesStay → ReadBytesAreSound → (cnf : Cnf) (reader : ReaderState) (checker : Checker) (bytes text : List ℕ) (taken : ℕ)
    (lines : List Line) (line : Line) (found : Option Finding) → HasRead reader (bytes ++ take taken text) (lines ++ line ∷ [])
    → add_empty lines ≡ false → JudgesLine cnf checker (lines ++ line ∷ []) line (Ok found)
    → JudgesNext cnf reader checker bytes text (Ok (taken, found))
next_judged stay sound cnf reader checker bytes text taken lines line None read unended passes =
    (lines ++ line ∷ [], record { read = read; judged = passes.judged; unended = goes_on lines line unended passes.unended })
next_judged stay sound cnf reader checker bytes text taken lines line (Some finding) read unended found =
    line_found stay sound cnf reader bytes text taken lines line finding read unended found

-- what is found by a fault of the reader stays
pub fault_found : EarlyFaultStays → JudgedLinesAreSound → (cnf : Cnf) (checker : Checker) (bytes : List ℕ) (lines : List Line) (fault : LineFault)
    (finding : Finding) → OnFault fault (early_steps bytes ≡ record { lines = lines; fault = Some fault }) → HasJudged cnf checker lines
    → add_empty lines ≡ false → FindsByFault fault (Ok finding) → FindsEarly cnf bytes finding
fault_found stays sound cnf checker bytes lines fault Verified fact judged unended by = absurd by
fault_found stays sound cnf checker bytes lines fault (Flawed (Misread found)) fact judged unended by =
    rw by.0 (misread_early stays sound cnf checker bytes lines fault
    (owed fault (early_steps bytes ≡ record { lines = lines; fault = Some fault }) by.1 fact) judged unended)
fault_found stays sound cnf checker bytes lines fault (Flawed (Misjudged found)) fact judged unended by = absurd by
fault_found stays sound cnf checker bytes lines fault (Flawed NoEmptyClause) fact judged unended by = absurd by
