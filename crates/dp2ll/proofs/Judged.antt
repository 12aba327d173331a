-- Steps of judging a proof's file piece by piece.
use Rattle.std.proofs.Common.{◌≡◌, ◌⊎◌, ℕ, ◌≤◌, ◌+◌, List, [], ◌∷◌, ◌++◌, length, refl, ap, sym, ◌∙◌, inl, inr, append_assoc, append-nil, length-append, arith, Option, Some, None, Result, Ok, Err, take, drop, take-append-drop, ◌-◌, take_all, length-drop, false}
use Rattle.std.specs.Prelude.{is_some}
use Rattle.std.specs.Io.KnownBytes.{prepend_known}
use Rattle.lit_base.specs.Cnf.{Cnf}
use Rattle.lit_base.specs.declared.proof.Line.{Line}
use Rattle.desk_io.specs.Told.{InputsTold, SlotTold, Rose}
use Rattle.desk_io.specs.declared.Slot.TheVariants.{Proof}
use Rattle.lrat_text.specs.State.{ReaderState}
use Rattle.lrat_text.specs.Laws.{ReadBytesAreSound, ReadBytesAreFew}
use Rattle.lrat_check.specs.declared.checker.Checker.{Checker}
use Rattle.lrat_check.specs.Laws.{JudgedLinesAreSound}
use Rattle.dp2ll.specs.declared.finding.Finding.{Finding}
use Rattle.dp2ll.specs.declared.ending.ProofStop.{ProofStop}
use Rattle.dp2ll.specs.declared.ending.ProofStop.TheVariants.{ReadFault, NoMemory}
use Rattle.dp2ll.specs.Reading.{KeepsSlot, TakesPiece}
use Rattle.dp2ll.specs.Judging.{GoesOnProof, IsJudged, StopsJudging, FindsEarly, IsJudging, JudgesNext, HasJudgedTo, JudgesText, JudgesOn, JudgesLast, JudgesWhole, StopsAtRead, JudgesPiece, IsBetween, HasGoneOn}
use Rattle.dp2ll.proofs.ReadingLemmas.{prepend_nothing, taken_on, rose_since, takes_more, takes_judged, kept_twice}

-- where judging stands, one more piece is read
pub open_at : ReadBytesAreSound → JudgedLinesAreSound → (cnf : Cnf) (reader : ReaderState) (checker : Checker) (bytes : List ℕ) (lines : List Line)
    → IsJudging cnf reader checker bytes lines → GoesOnProof cnf bytes
open_at read sound cnf reader checker bytes lines judging =
    (lines, record { steps = read reader bytes lines judging.read; sound = sound cnf checker lines judging.judged; unended = judging.unended })

-- what judging a piece that was read says of that read
pub piece_judged : (cnf : Cnf) (before after : SlotTold) (reader : ReaderState) (checker : Checker) (taken : List ℕ)
    (result : Result (Option Finding) ProofStop) → (takes : TakesPiece before after) → 1 ≤ length takes.bytes
    → JudgesText cnf reader checker taken takes.bytes result → JudgesPiece cnf before after reader checker taken result
piece_judged cnf before after reader checker taken (Ok None) takes some judges =
    record { takes = takes; some = some; lines = judges.0; judging = judges.1 }
piece_judged cnf before after reader checker taken (Ok (Some finding)) takes some judges = inl (record { takes = takes; found = judges })
piece_judged cnf before after reader checker taken (Err ReadFault) takes some judges = absurd judges
piece_judged cnf before after reader checker taken (Err NoMemory) takes some judges = inl takes

-- where judging stands before the first read
between_starts : (cnf : Cnf) (start : InputsTold) (reader : ReaderState) (checker : Checker) → IsJudging cnf reader checker [] []
    → IsBetween cnf start start reader checker 0
between_starts cnf start reader checker judging = record {
  kept = record { held = refl; begun = refl; begins = refl; later = omega arith; others = refl };
  taken = [];
  lines = [];
  judging = judging;
  turns_taken = omega arith;
  rest = sym (prepend_nothing (start.at Proof).left);
}

-- and after one read more
between_goes_on : (cnf : Cnf) (start now next : InputsTold) (reader after_reader : ReaderState) (checker after_checker : Checker) (turns : ℕ)
    → (h : IsBetween cnf start now reader checker turns) → KeepsSlot Proof now next
    → JudgesOn cnf (now.at Proof) (next.at Proof) after_reader after_checker h.taken
    → IsBetween cnf start next after_reader after_checker (turns + 1)
between_goes_on cnf start now next reader after_reader checker after_checker turns h kept t = record {
  kept = kept_twice Proof start now next h.kept kept;
  taken = h.taken ++ t.takes.bytes;
  lines = t.lines;
  judging = t.judging;
  turns_taken = omega (arith, length-append h.taken t.takes.bytes, h.turns_taken, t.some);
  rest = taken_on h.taken t.takes.bytes (start.at Proof).left (now.at Proof).left (next.at Proof).left h.rest t.takes.left;
}

-- a fresh reader and checker have gone on over nothing
pub gone_on_first : (start : InputsTold) (reader : ReaderState) (checker : Checker) → HasGoneOn start start reader checker reader checker 0
gone_on_first start reader checker = record {
  kept = record { held = refl; begun = refl; begins = refl; later = omega arith; others = refl };
  between = λ cnf judging. between_starts cnf start reader checker judging;
}

-- and on over one piece more
pub gone_on : (start now next : InputsTold) (first_reader : ReaderState) (first_checker : Checker) (reader after_reader : ReaderState)
    (checker after_checker : Checker) (turns : ℕ) → HasGoneOn start now first_reader first_checker reader checker turns → KeepsSlot Proof now next
    → ((cnf : Cnf) (taken : List ℕ) (lines : List Line) → IsJudging cnf reader checker taken lines
    → JudgesOn cnf (now.at Proof) (next.at Proof) after_reader after_checker taken)
    → HasGoneOn start next first_reader first_checker after_reader after_checker (turns + 1)
gone_on start now next first_reader first_checker reader after_reader checker after_checker turns h kept piece = record {
  kept = kept_twice Proof start now next h.kept kept;
  between = λ cnf fresh. let b = h.between cnf fresh in
      between_goes_on cnf start now next reader after_reader checker after_checker turns b kept (piece cnf b.taken b.lines b.judging);
}

-- more turns than a proof may have bytes can't be taken
pub between_bounded : ReadBytesAreFew → (cnf : Cnf) (start now : InputsTold) (reader : ReaderState) (checker : Checker) (turns : ℕ)
    → 1099511627777 ≤ turns → IsBetween cnf start now reader checker turns → ⊥
between_bounded few cnf start now reader checker turns over h =
    omega (arith, h.turns_taken, few reader h.taken h.lines h.judging.read)

-- a read that stops the loop
pub between_stops : (cnf : Cnf) (start now next : InputsTold) (reader : ReaderState) (checker : Checker) (turns : ℕ) (stop : ProofStop)
    → (h : IsBetween cnf start now reader checker turns) → GoesOnProof cnf h.taken → StopsAtRead (now.at Proof) (next.at Proof) stop
    → StopsJudging cnf (start.at Proof).left (start.at Proof) (next.at Proof) stop
between_stops cnf start now next reader checker turns ReadFault h goes_on t = record {
  taken = h.taken;
  goes_on = goes_on;
  rest = h.rest ∙ ap (prepend_known h.taken) (sym t.left);
  rose = rose_since (start.at Proof).faults (now.at Proof).faults (next.at Proof).faults h.kept.later t.rose;
}
between_stops cnf start now next reader checker turns NoMemory h goes_on (inl t) =
    takes_more (GoesOnProof cnf) (start.at Proof).left (now.at Proof).left (next.at Proof).left h.taken t.bytes goes_on t.piece h.rest t.left
between_stops cnf start now next reader checker turns NoMemory h goes_on (inr same) =
    takes_judged (GoesOnProof cnf) (start.at Proof).left (next.at Proof).left h.taken goes_on
    (h.rest ∙ ap (prepend_known h.taken) (sym same))

-- a read after which something is found
pub between_finds : (cnf : Cnf) (start now next : InputsTold) (reader : ReaderState) (checker : Checker) (turns : ℕ) (finding : Finding)
    → (h : IsBetween cnf start now reader checker turns) → GoesOnProof cnf h.taken
    → JudgesLast cnf (now.at Proof) (next.at Proof) h.taken finding ⊎ JudgesWhole cnf (now.at Proof) (next.at Proof) h.taken finding
    → IsJudged cnf (start.at Proof).left (next.at Proof).left finding
between_finds cnf start now next reader checker turns finding h goes_on (inl t) = record {
  takes = takes_more (GoesOnProof cnf) (start.at Proof).left (now.at Proof).left (next.at Proof).left h.taken t.takes.bytes goes_on
      t.takes.piece h.rest t.takes.left;
  found = inl t.found;
}
between_finds cnf start now next reader checker turns finding h goes_on (inr t) = record {
  takes = takes_judged (GoesOnProof cnf) (start.at Proof).left (next.at Proof).left h.taken goes_on
      (h.rest ∙ ap (prepend_known h.taken) (sym t.left));
  found = inr (t.at_end, rw (append-nil h.taken) t.found);
}

-- the proof could not be begun
pub unbegun_proof : (cnf : Cnf) (held : Option (List ℕ)) (before now : SlotTold) → GoesOnProof cnf [] → now.left ≡ held
    → Rose before.faults now.faults → StopsJudging cnf held before now ReadFault
unbegun_proof cnf held before now goes_on left rose = record {
  taken = [];
  goes_on = goes_on;
  rest = sym left ∙ sym (prepend_nothing now.left);
  rose = rose;
}

-- memory was refused before the first read
pub unread_proof : (cnf : Cnf) (held : Option (List ℕ)) (before now : SlotTold) → GoesOnProof cnf [] → now.left ≡ held
    → StopsJudging cnf held before now NoMemory
unread_proof cnf held before now goes_on left =
    takes_judged (GoesOnProof cnf) held now.left [] goes_on (sym left ∙ sym (prepend_nothing now.left))

-- nothing of a text is judged yet
pub judged_to_start : (reader : ReaderState) (checker : Checker) (text : List ℕ) → HasJudgedTo reader checker reader checker text text
judged_to_start reader checker text = record {
  done = [];
  parts = refl;
  judges = λ cnf bytes lines judging. (lines, rw (append-nil bytes) judging);
}

-- a text behind its first bytes, as a slice from there on gives it
behind : (text : List ℕ) (taken : ℕ) → take (length text - taken) (drop taken text) ≡ drop taken text
behind text taken = take_all (length text - taken) (drop taken text) (omega (arith, length-drop taken text))

-- one line more
pub judged_to_next : (first_reader : ReaderState) (first_checker : Checker) (reader next_reader : ReaderState) (checker next_checker : Checker)
    (text rest : List ℕ) (taken : ℕ) (found : Option Finding) → HasJudgedTo first_reader first_checker reader checker text rest
    → is_some found ≡ false
    → ((cnf : Cnf) (bytes : List ℕ) (lines : List Line) → IsJudging cnf reader checker bytes lines
    → JudgesNext cnf next_reader next_checker bytes rest (Ok (taken, found)))
    → HasJudgedTo first_reader first_checker next_reader next_checker text (take (length rest - taken) (drop taken rest))
judged_to_next first_reader first_checker reader next_reader checker next_checker text rest taken (Some finding) h none next = cc
judged_to_next first_reader first_checker reader next_reader checker next_checker text rest taken None h none next = record {
  done = h.done ++ take taken rest;
  parts = append_assoc h.done (take taken rest) (take (length rest - taken) (drop taken rest))
      ∙ ap (λ t. h.done ++ (take taken rest ++ t)) (behind rest taken)
      ∙ ap (λ t. h.done ++ t) (take-append-drop taken rest) ∙ h.parts;
  judges = λ cnf bytes lines judging.
      let now = h.judges cnf bytes lines judging in
      let then = next cnf (bytes ++ h.done) now.0 now.1 in
      (then.0, rw (sym (append_assoc bytes h.done (take taken rest))) then.1);
}

-- something is found
pub judged_to_found : (first_reader : ReaderState) (first_checker : Checker) (reader next_reader : ReaderState) (checker next_checker : Checker)
    (text rest : List ℕ) (taken : ℕ) (finding : Finding) → HasJudgedTo first_reader first_checker reader checker text rest
    → ((cnf : Cnf) (bytes : List ℕ) (lines : List Line) → IsJudging cnf reader checker bytes lines
    → JudgesNext cnf next_reader next_checker bytes rest (Ok (taken, Some finding)))
    → (cnf : Cnf) (bytes : List ℕ) (lines : List Line) → IsJudging cnf first_reader first_checker bytes lines
    → FindsEarly cnf (bytes ++ text) finding
judged_to_found first_reader first_checker reader next_reader checker next_checker text rest taken finding h next cnf bytes lines judging =
    let now = h.judges cnf bytes lines judging in
    let found : FindsEarly cnf ((bytes ++ h.done) ++ rest) finding = next cnf (bytes ++ h.done) now.0 now.1 in
    rw (sym h.parts, sym (append_assoc bytes h.done rest)) found

-- the whole text is judged
pub judged_to_end : (first_reader : ReaderState) (first_checker : Checker) (reader : ReaderState) (checker : Checker) (text rest : List ℕ)
    → length rest ≡ 0 → HasJudgedTo first_reader first_checker reader checker text rest
    → (cnf : Cnf) (bytes : List ℕ) (lines : List Line) → IsJudging cnf first_reader first_checker bytes lines
    → (later : List Line) × IsJudging cnf reader checker (bytes ++ text) later
judged_to_end first_reader first_checker reader checker text [] none h cnf bytes lines judging =
    let now = h.judges cnf bytes lines judging in
    (now.0, rw (sym h.parts, append-nil h.done) now.1)
judged_to_end first_reader first_checker reader checker text (byte ∷ rest) none h cnf bytes lines judging = absurd (omega arith)
