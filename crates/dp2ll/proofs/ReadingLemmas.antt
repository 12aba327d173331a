-- Steps of reading a file piece by piece.
use Rattle.std.proofs.Common.{◌≡◌, ◌⊎◌, ℕ, ◌≤◌, ◌+◌, List, [], ◌++◌, length, refl, ap, sym, ◌∙◌, inl, inr, append_assoc, append-nil, length-append, arith, Option, Some, None, Ok, Err, Bool, true, false, take, length-take}
use Rattle.std.specs.Io.KnownBytes.{prepend_known}
use Rattle.lit_base.specs.Cnf.{Cnf}
use Rattle.desk_io.specs.Told.{InputsTold, SlotTold, Rose, KeepsOtherSlots}
use Rattle.desk_io.specs.Inputs.{TakesFirst}
use Rattle.desk_io.specs.declared.Slot.{Slot}
use Rattle.desk_io.specs.declared.Slot.TheVariants.{Formula, Proof}
use Rattle.cnf_text.specs.declared.fault.CnfFault.{CnfFault}
use Rattle.cnf_text.specs.declared.fault.CnfFault.TheVariants as cnf
use Rattle.cnf_text.specs.Faults.{OnFault}
use Rattle.cnf_text.specs.State.{ReaderState}
use Rattle.cnf_text.specs.Reading.{early_fault, is_ended, formula_of}
use Rattle.cnf_text.specs.Reader.{HasRead, Ends}
use Rattle.cnf_text.specs.Laws.{ReadBytesAreSound, ReadBytesAreFew}
use Rattle.dp2ll.specs.declared.ending.ReadStop.{ReadStop}
use Rattle.dp2ll.specs.declared.ending.ReadStop.TheVariants.{NoFormula, ReadFault, NoMemory}
use Rattle.dp2ll.specs.Reading.{KeepsSlot, KeepsBegun, GoesOn, TakesWhile, bytes_taken, IsReading, StopsAtPiece, ReadsPiece, MeetsFault, StopsBy, ReadsOn, ReadsNothing, ReadsLast, TakesPiece, ReadsAll, StopsReading, IsRead, IsOfFile}

-- bytes put before bytes put before the known ones
prepend_twice : (front back : List ℕ) (known : Option (List ℕ)) → prepend_known front (prepend_known back known) ≡ prepend_known (front ++ back) known
prepend_twice front back None = refl
prepend_twice front back (Some bytes) = ap (λ (all : List ℕ). Some all) (sym (append_assoc front back bytes))

-- no bytes put before the known ones
pub prepend_nothing : (known : Option (List ℕ)) → prepend_known [] known ≡ known
prepend_nothing None = refl
prepend_nothing (Some bytes) = refl

-- what was left at first is what was taken and then a piece and then what is left
pub taken_on : (taken piece : List ℕ) (start now next : Option (List ℕ)) → start ≡ prepend_known taken now → now ≡ prepend_known piece next
    → start ≡ prepend_known (taken ++ piece) next
taken_on taken piece start now next rest left = rest ∙ ap (prepend_known taken) left ∙ prepend_twice taken piece next

-- a count that rose from a later moment rose from an earlier one
pub rose_since : (first before after : ℕ) → first ≤ before → Rose before after → Rose first after
rose_since first before after later rose = omega arith

-- the line that ends the input isn't met in nothing
nothing_ended : is_ended [] ≡ false
unfolding is_ended
nothing_ended = refl

-- before anything is taken a first piece is to be read
nothing_goes_on : ReadBytesAreSound → (reader : ReaderState) → HasRead reader [] → GoesOn []
nothing_goes_on sound reader read = record { no_fault = sound reader [] read; not_ended = nothing_ended }

-- judged pieces and one more
abbrev pub takes_more : (goes : List ℕ → Type 0) (held now next : Option (List ℕ)) (taken piece : List ℕ) → goes taken → length piece ≤ 65536
    → held ≡ prepend_known taken now → now ≡ prepend_known piece next → TakesWhile goes held next
takes_more goes held now next taken piece goes_on short rest left = record {
  judged = taken;
  last = piece;
  goes_on = goes_on;
  piece = short;
  rest = taken_on taken piece held now next rest left;
}

-- judged pieces alone
abbrev pub takes_judged : (goes : List ℕ → Type 0) (held left : Option (List ℕ)) (taken : List ℕ) → goes taken → held ≡ prepend_known taken left
    → TakesWhile goes held left
takes_judged goes held left taken goes_on rest = record {
  judged = taken;
  last = [];
  goes_on = goes_on;
  piece = omega arith;
  rest = rest ∙ ap (λ bytes. prepend_known bytes left) (sym (append-nil taken));
}

-- a fault of the file that an answer owes a fact for
owed : (fault : CnfFault) (P : Type 0) → IsOfFile fault → OnFault fault P → P
owed cnf.NoMemory P of_file fact = absurd (of_file refl)
owed fault P of_file fact = fact

-- a front of a short buffer is short
pub piece_short : (buf bytes : List ℕ) (n : ℕ) → length buf ≤ 65536 → bytes ≡ take n buf → length bytes ≤ 65536
piece_short buf bytes n short same = rw same (omega (arith, length-take n buf, short))

-- a read of some bytes took a piece
abbrev pub piece_taken : (before after : SlotTold) (buf bytes : List ℕ) (n : ℕ) → TakesFirst n buf before.left after.left → length buf ≤ 65536
    → bytes ≡ take n buf → TakesPiece before after
piece_taken before after buf bytes n first short same = record {
  bytes = bytes;
  piece = piece_short buf bytes n short same;
  left = first.bytes ∙ ap (λ piece. prepend_known piece after.left) (sym same);
}

-- a piece that the reader has read without a fault
pub piece_fed : (before after : SlotTold) (reader : ReaderState) (taken : List ℕ) (done : Bool) → (takes : TakesPiece before after)
    → 1 ≤ length takes.bytes → HasRead reader (taken ++ takes.bytes) → early_fault (taken ++ takes.bytes) ≡ None
    → done ≡ is_ended (taken ++ takes.bytes) → ReadsPiece before after reader taken (Ok done)
piece_fed before after reader taken true takes some read no_fault ended = inr (record { takes = takes; read = read; ended = sym ended })
piece_fed before after reader taken false takes some read no_fault ended =
    record { takes = takes; some = some; read = read; goes_on = record { no_fault = no_fault; not_ended = sym ended } }

-- a piece by which the reader met a fault
pub piece_stops : (before after : SlotTold) (taken : List ℕ) (fault : CnfFault) (stop : ReadStop) → (takes : TakesPiece before after)
    → OnFault fault (early_fault (taken ++ takes.bytes) ≡ Some fault) → StopsBy fault stop → StopsAtPiece before after taken stop
piece_stops before after taken fault (NoFormula found) takes met by =
    let meets : MeetsFault before after taken fault =
    record { takes = takes; of_file = by.1; found = owed fault (early_fault (taken ++ takes.bytes) ≡ Some fault) by.1 met } in
    rw by.0 meets
piece_stops before after taken fault ReadFault takes met by = absurd by
piece_stops before after taken fault NoMemory takes met by = takes

-- what belongs to the other slot stays over two calls
kept_others : (slot : Slot) (start now next : InputsTold) → KeepsOtherSlots slot start.at now.at → KeepsOtherSlots slot now.at next.at
    → KeepsOtherSlots slot start.at next.at
kept_others Formula start now next first second = second ∙ first
kept_others Proof start now next first second = second ∙ first

-- what a call that keeps the slot keeps over two calls
pub kept_twice : (slot : Slot) (start now next : InputsTold) → KeepsSlot slot start now → KeepsSlot slot now next → KeepsSlot slot start next
kept_twice slot start now next first second = record {
  held = second.held ∙ first.held;
  begun = second.begun ∙ first.begun;
  begins = second.begins ∙ first.begins;
  later = omega (arith, first.later, second.later);
  others = kept_others slot start now next first.others second.others;
}

-- where reading stands before the first read
pub reading_starts : ReadBytesAreSound → (start : InputsTold) (reader : ReaderState) → HasRead reader [] → IsReading start start reader 0
reading_starts sound start reader read = record {
  kept = record { held = refl; begun = refl; begins = refl; later = omega arith; others = refl };
  taken = [];
  read = read;
  goes_on = nothing_goes_on sound reader read;
  turns_taken = omega arith;
  rest = sym (prepend_nothing (start.at Formula).left);
}

-- and after one read more
pub reading_goes_on : (start now next : InputsTold) (reader after : ReaderState) (turns : ℕ) → (h : IsReading start now reader turns)
    → KeepsBegun now next → ReadsOn (now.at Formula) (next.at Formula) after h.taken → IsReading start next after (turns + 1)
reading_goes_on start now next reader after turns h kept t = record {
  kept = kept_twice Formula start now next h.kept kept;
  taken = h.taken ++ t.takes.bytes;
  read = t.read;
  goes_on = t.goes_on;
  turns_taken = omega (arith, length-append h.taken t.takes.bytes, h.turns_taken, t.some);
  rest = taken_on h.taken t.takes.bytes (start.at Formula).left (now.at Formula).left (next.at Formula).left h.rest t.takes.left;
}

-- more turns than a formula may have bytes can't be taken
pub turns_bounded : ReadBytesAreFew → (start now : InputsTold) (reader : ReaderState) (turns : ℕ) → 268435457 ≤ turns
    → IsReading start now reader turns → ⊥
turns_bounded few start now reader turns over h =
    omega (arith, h.turns_taken, few reader h.taken h.read h.goes_on.not_ended)

-- a read that stops the loop by a refusal
pub pieces_stop : (start now next : InputsTold) (reader : ReaderState) (turns : ℕ) (stop : ReadStop) → (h : IsReading start now reader turns)
    → StopsAtPiece (now.at Formula) (next.at Formula) h.taken stop
    → StopsReading (start.at Formula).left (start.at Formula) (next.at Formula) stop
pieces_stop start now next reader turns (NoFormula fault) h t = record {
  takes = takes_more GoesOn (start.at Formula).left (now.at Formula).left (next.at Formula).left h.taken t.takes.bytes h.goes_on t.takes.piece h.rest t.takes.left;
  of_file = t.of_file;
  found = inl t.found;
}
pieces_stop start now next reader turns ReadFault h t = record {
  taken = h.taken;
  goes_on = h.goes_on;
  rest = h.rest ∙ ap (prepend_known h.taken) (sym t.left);
  rose = rose_since (start.at Formula).faults (now.at Formula).faults (next.at Formula).faults h.kept.later t.rose;
}
pieces_stop start now next reader turns NoMemory h t =
    takes_more GoesOn (start.at Formula).left (now.at Formula).left (next.at Formula).left h.taken t.bytes h.goes_on t.piece h.rest t.left

-- a read that ends the loop
pub pieces_end : (start now next : InputsTold) (reader after : ReaderState) (turns : ℕ) → (h : IsReading start now reader turns)
    → ReadsNothing (now.at Formula) (next.at Formula) after h.taken ⊎ ReadsLast (now.at Formula) (next.at Formula) after h.taken
    → ReadsAll (start.at Formula).left (next.at Formula).left after
pieces_end start now next reader after turns h (inl t) = record {
  takes = takes_judged GoesOn (start.at Formula).left (next.at Formula).left h.taken h.goes_on (h.rest ∙ ap (prepend_known h.taken) (sym t.left));
  read = rw (append-nil h.taken) (t.read);
  whole = inl t.at_end;
}
pieces_end start now next reader after turns h (inr t) = record {
  takes = takes_more GoesOn (start.at Formula).left (now.at Formula).left (next.at Formula).left h.taken t.takes.bytes h.goes_on t.takes.piece h.rest t.takes.left;
  read = t.read;
  whole = inr t.ended;
}

-- the name could not be begun
pub unbegun : ReadBytesAreSound → (held : Option (List ℕ)) (before now : SlotTold) (reader : ReaderState) → HasRead reader []
    → now.left ≡ held → Rose before.faults now.faults → StopsReading held before now ReadFault
unbegun sound held before now reader read left rose = record {
  taken = [];
  goes_on = nothing_goes_on sound reader read;
  rest = sym left ∙ sym (prepend_nothing now.left);
  rose = rose;
}

-- memory was refused before the first read
pub unread : ReadBytesAreSound → (held : Option (List ℕ)) (before now : SlotTold) (reader : ReaderState) → HasRead reader []
    → now.left ≡ held → StopsReading held before now NoMemory
unread sound held before now reader read left =
    takes_judged GoesOn held now.left [] (nothing_goes_on sound reader read) (sym left ∙ sym (prepend_nothing now.left))

-- the whole file is this formula
pub all_read : (held : Option (List ℕ)) (start after : SlotTold) (reader : ReaderState) (cnf : Cnf) → start.left ≡ held
    → ReadsAll start.left after.left reader → ((bytes : List ℕ) → HasRead reader bytes → formula_of bytes ≡ Ok cnf) → IsRead held after.left cnf
all_read held start after reader cnf left all ends =
    let found : IsRead start.left after.left cnf = record { takes = all.takes; whole = all.whole; formula = ends (bytes_taken all.takes) all.read } in
    rw (sym left) found

-- the whole file is no formula
pub all_stop : (held : Option (List ℕ)) (before start after : SlotTold) (reader : ReaderState) (fault : CnfFault) (stop : ReadStop) → start.left ≡ held
    → ReadsAll start.left after.left reader → ((bytes : List ℕ) → HasRead reader bytes → Ends bytes (Err fault)) → StopsBy fault stop
    → StopsReading held before after stop
all_stop held before start after reader fault (NoFormula found) left all ends by =
    let gives : StopsReading start.left before after (NoFormula fault) = record {
      takes = all.takes;
      of_file = by.1;
      found = inr (all.whole, owed fault (formula_of (bytes_taken all.takes) ≡ Err fault) by.1 (ends (bytes_taken all.takes) all.read));
    } in
    rw (by.0, sym left) gives
all_stop held before start after reader fault ReadFault left all ends by = absurd by
all_stop held before start after reader fault NoMemory left all ends by = rw (sym left) all.takes
