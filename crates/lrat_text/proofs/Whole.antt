-- Early faults and lines that have ended: what follows changes nothing of them.
use Rattle.std.proofs.Common.{◌≡◌, ℕ, ◌-◌, ◌≤◌, ◌<◌, Bool, true, false, ltb, List, ◌++◌, length, take, refl, sym, ap, ◌∙◌, arith, append_assoc, append-nil, length-append, Option, Some, None, Result, Ok, Err}
use Rattle.std.proofs.lemmas.Bool.{ltb-true, ltb-false}
use Rattle.lit_base.specs.declared.proof.Line.{Line}
use Rattle.lrat_text.specs.declared.fault.LineFault.{LineFault}
use Rattle.lrat_text.specs.declared.fault.LineFault.TheVariants.{ProofTooLong}
use Rattle.lrat_text.specs.declared.scan.Scan.{Scan}
use Rattle.lrat_text.specs.Machine.{start, step, Outcome, read, room_of}
use Rattle.lrat_text.specs.Reading.{Steps, within, steps_of, proof_steps, early_steps, early_proof_fault}
use Rattle.lrat_text.proofs.Fed.{within_more, within_all, within_length, short_steps, said_whole, fault_steps, sound_steps, too_many_steps, last_by}
use Rattle.lrat_text.proofs.Outcomes.{read_behind, read_fault}

-- a text that is too long has no room for more
within_full : (front rest : List ℕ) → 1099511627776 < length front → within (front ++ rest) ≡ within front
within_full front rest long =
    within_more front rest ∙ ap (λ n. within front ++ take n rest) none ∙ append-nil (within front)
  where
    none : 1099511627776 - length (within front) ≡ 0
    none = omega (arith, within_length front)

-- the fault of steps that are known
fault_is : (steps : Steps) (lines : List Line) (o : Option LineFault) (fault : LineFault) → steps ≡ record { lines = lines; fault = o } → steps.fault ≡ Some fault → o ≡ Some fault
fault_is steps lines o fault is some = sym (ap (λ (s : Steps). s.fault) is) ∙ some

-- an early fault is the fault of the whole, behind the same lines, whatever follows
pub early_fault_is_last : (front rest : List ℕ) (fault : LineFault) → early_proof_fault front ≡ Some fault → proof_steps (front ++ rest) ≡ record { lines = (early_steps front).lines; fault = Some fault }
unfolding early_proof_fault early_steps proof_steps
early_fault_is_last front rest fault early = by (read start (within front)).lines (read start (within front)).last refl
  where
    -- both are these lines with one fault
    both : (lines : List Line) (other : LineFault) → steps_of false front ≡ record { lines = lines; fault = Some other } → steps_of true (front ++ rest) ≡ record { lines = lines; fault = Some other }
        → steps_of true (front ++ rest) ≡ record { lines = (steps_of false front).lines; fault = Some fault }
    both lines other first whole =
        whole ∙ ap (λ (ls : List Line). let t : Steps = record { lines = ls; fault = Some other } in t) (sym (ap (λ (s : Steps). s.lines) first))
        ∙ ap (λ (o : Option LineFault). let t : Steps = record { lines = (steps_of false front).lines; fault = o } in t) (fault_is (steps_of false front) lines (Some other) fault first early)

    by_length : (lines : List Line) (s : Scan) → read start (within front) ≡ record { lines = lines; last = Ok s } → (t : Bool) → ltb 1099511627776 (length front) ≡ t
        → steps_of true (front ++ rest) ≡ record { lines = (steps_of false front).lines; fault = Some fault }
    by_length lines s is true longer =
        let long : 1099511627776 < length front = ltb-true 1099511627776 (length front) longer in
        both lines (ProofTooLong s.line) (too_many_steps false front lines s long is)
        (too_many_steps true (front ++ rest) lines s (omega (arith, length-append front rest)) (ap (read start) (within_full front rest long) ∙ is))
    by_length lines s is false shorter =
        let few : length front ≤ 1099511627776 = ltb-false 1099511627776 (length front) shorter in
        let none : None ≡ Some fault = fault_is (early_steps front) lines None fault (sound_steps front lines s few (ap (read start) (sym (within_all front few)) ∙ is)) early in
        cc

    by : (lines : List Line) (last : Result Scan LineFault) → read start (within front) ≡ record { lines = lines; last = last } → steps_of true (front ++ rest) ≡ record { lines = (steps_of false front).lines; fault = Some fault }
    by lines (Ok s) is = by_length lines s is (ltb 1099511627776 (length front)) refl
    by lines (Err other) is =
        both lines other (fault_steps false front lines other is)
        (fault_steps true (front ++ rest) lines other (ap (read start) (within_more front rest) ∙ read_fault start (within front) (room_of (length (within front)) rest) lines other is))

-- where there is no early fault, the text isn't too long, and reading leads on
record IsSoundSoFar (front : List ℕ) : Type 0 where
  lines : List Line
  scan : Scan
  few : length front ≤ 1099511627776
  reads : read start front ≡ record { lines = lines; last = Ok scan }

sound_so_far : (front : List ℕ) → early_proof_fault front ≡ None → IsSoundSoFar front
unfolding early_proof_fault early_steps
sound_so_far front early = by (read start (within front)).lines (read start (within front)).last refl
  where
    by_length : (lines : List Line) (s : Scan) → read start (within front) ≡ record { lines = lines; last = Ok s } → (t : Bool) → ltb 1099511627776 (length front) ≡ t → IsSoundSoFar front
    by_length lines s is true longer =
        let some : Some (ProofTooLong s.line) ≡ None = sym (ap (λ (u : Steps). u.fault) (too_many_steps false front lines s (ltb-true 1099511627776 (length front) longer) is)) ∙ early in
        cc
    by_length lines s is false shorter =
        let few : length front ≤ 1099511627776 = ltb-false 1099511627776 (length front) shorter in
        record { lines = lines; scan = s; few = few; reads = ap (read start) (sym (within_all front few)) ∙ is }

    by : (lines : List Line) (last : Result Scan LineFault) → read start (within front) ≡ record { lines = lines; last = last } → IsSoundSoFar front
    by lines (Ok s) is = by_length lines s is (ltb 1099511627776 (length front)) refl
    by lines (Err other) is =
        let some : Some other ≡ None = sym (ap (λ (u : Steps). u.fault) (fault_steps false front lines other is)) ∙ early in
        cc

-- where there is no early fault, the lines that have ended are the first of the whole, whatever follows
pub ended_lines_are_first : (front rest : List ℕ) → early_proof_fault front ≡ None → (later : List Line) × ((proof_steps (front ++ rest)).lines ≡ (early_steps front).lines ++ later)
unfolding early_steps proof_steps
ended_lines_are_first front rest early = by (read so.scan room).lines (read so.scan room).last refl
  where
    so : IsSoundSoFar front
    so = sound_so_far front early

    room : List ℕ
    room = room_of (length front) rest

    first : (later : List Line) → so.lines ++ later ≡ (steps_of false front).lines ++ later
    first later = ap (λ (ls : List Line). ls ++ later) (sym (ap (λ (u : Steps). u.lines) (sound_steps front so.lines so.scan so.few so.reads)))

    more : (later : List Line) (last : Result Scan LineFault) → read so.scan room ≡ record { lines = later; last = last } → read start (within (front ++ rest)) ≡ record { lines = so.lines ++ later; last = last }
    more later last is =
        ap (read start) (within_more front rest ∙ ap (λ (xs : List ℕ). xs ++ room_of (length xs) rest) (within_all front so.few))
        ∙ read_behind start front room so.lines so.scan so.reads
        ∙ ap (λ (o : Outcome). let u : Outcome = record { lines = so.lines ++ o.lines; last = o.last } in u) is

    by_length : (later : List Line) (s : Scan) → read so.scan room ≡ record { lines = later; last = Ok s } → (t : Bool) → ltb 1099511627776 (length (front ++ rest)) ≡ t
        → (more : List Line) × ((steps_of true (front ++ rest)).lines ≡ (steps_of false front).lines ++ more)
    by_length later s is true longer = (
      later,
      ap (λ (u : Steps). u.lines) (too_many_steps true (front ++ rest) (so.lines ++ later) s (ltb-true 1099511627776 (length (front ++ rest)) longer) (more later (Ok s) is)) ∙ first later,
    )
    by_length later s is false shorter =
        let few : length (front ++ rest) ≤ 1099511627776 = ltb-false 1099511627776 (length (front ++ rest)) shorter in (
          later ++ (last_by (step s 10)).lines,
          ap (λ (u : Steps). u.lines) (short_steps true (front ++ rest) few ∙ said_whole (front ++ rest) (so.lines ++ later) s (ap (read start) (sym (within_all (front ++ rest) few)) ∙ more later (Ok s) is))
              ∙ append_assoc so.lines later (last_by (step s 10)).lines ∙ first (later ++ (last_by (step s 10)).lines),
        )

    by : (later : List Line) (last : Result Scan LineFault) → read so.scan room ≡ record { lines = later; last = last } → (more : List Line) × ((steps_of true (front ++ rest)).lines ≡ (steps_of false front).lines ++ more)
    by later (Ok s) is = by_length later s is (ltb 1099511627776 (length (front ++ rest))) refl
    by later (Err fault) is = (later, ap (λ (u : Steps). u.lines) (fault_steps true (front ++ rest) (so.lines ++ later) fault (more later (Err fault) is)) ∙ first later)
