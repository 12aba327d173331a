-- Lemmas on a text that goes through a buffer to the answer port.
use Rattle.std.proofs.Common.{◌≡◌, ℕ, ◌+◌, ◌<◌, List, [], ◌∷◌, ◌++◌, Option, Some, None, length, get_or, drop, sym, ap, refl, ◌∙◌, append_assoc, append-nil, add-one, drop-cons, subst, arith}
use Rattle.std.specs.Prelude.{Result, Ok, Err, IsErrAnd, flat_map}
use Rattle.std.specs.Io.KnownBytes.{append_known}
use Rattle.desk_io.specs.declared.Port.TheVariants.{Answer}
use Rattle.desk_io.specs.declared.PortFault.{PortFault}
use Rattle.desk_io.specs.declared.PortFault.TheVariants.{NoMemory}
use Rattle.desk_io.specs.Told.{OutputsTold}
use Rattle.desk_io.specs.Outputs.{WritesWhole}
use Rattle.desk_io.proofs.Written.{WritesWhole-then, WritesWhole-front, OnFailed-later}
use Rattle.answer_text.specs.Gathering.{IsUnderway, Passes}

-- the answer of a call that went well
abbrev fine : Result (Unit {0}) PortFault
fine = Ok tt

-- known bytes and none more
append_known-none : (known : Option (List ℕ)) → known ≡ append_known known []
append_known-none None = refl
append_known-none (Some bytes) = ap Some (sym (append-nil bytes))

-- where nothing was written yet all is still to come
pub IsUnderway-started : (held rest : List ℕ) (now : OutputsTold) → IsUnderway (held ++ rest) held rest now now
IsUnderway-started held rest now = record {
  done = [];
  parts = refl;
  wrote = record {
    creates = refl;
    names = refl;
    written = append_known-none (now.at Answer).written;
    later = omega arith;
    failed = tt;
    others = (refl, refl);
  };
}

-- what was held and what was added to it, regrouped
regrouped : (done first held text added rest more : List ℕ) → first ++ (held ++ []) ≡ more → more ≡ text ++ added →
    (done ++ first) ++ (held ++ rest) ≡ done ++ (text ++ (added ++ rest))
regrouped done first held text added rest more parts is =
    append_assoc done first (held ++ rest)
    ∙ ap (λ xs. done ++ xs)
    (sym (append_assoc first held rest) ∙ ap (λ xs. xs ++ rest) (ap (λ xs. first ++ xs) (sym (append-nil held)) ∙ (parts ∙ is)) ∙ append_assoc text added rest)

-- what comes next was added to what is held, and went through the buffer
pub IsUnderway-passed : {text held rest : List ℕ} {before mid after : OutputsTold} (added rest' more held' : List ℕ) →
    IsUnderway text held rest before mid → rest ≡ added ++ rest' → more ≡ held ++ added → Passes more held' mid after fine → IsUnderway text held' rest' before after
IsUnderway-passed {text} {held} {rest} added rest' more held' front next is back = record {
  done = front.done ++ back.done;
  parts = regrouped front.done back.done held' held added rest' more back.parts is ∙ (ap (λ xs. front.done ++ (held ++ xs)) (sym next) ∙ front.parts);
  wrote = WritesWhole-then front.wrote back.wrote;
}

-- what comes next was added to what is held
pub IsUnderway-pushed : {text held rest : List ℕ} {before now : OutputsTold} (added rest' more : List ℕ) →
    IsUnderway text held rest before now → rest ≡ added ++ rest' → more ≡ held ++ added → IsUnderway text more rest' before now
IsUnderway-pushed {held = held} added rest' more front next is = record {
  done = front.done;
  parts = ap (λ xs. front.done ++ (xs ++ rest')) is ∙ (ap (λ xs. front.done ++ xs) (append_assoc held added rest' ∙ ap (λ xs. held ++ xs) (sym next)) ∙ front.parts);
  wrote = front.wrote;
}

-- where nothing was written yet a first part was added
pub IsUnderway-begun : (held added rest more : List ℕ) (now : OutputsTold) → more ≡ held ++ added → IsUnderway (held ++ (added ++ rest)) more rest now now
IsUnderway-begun held added rest more now is = IsUnderway-pushed added rest more (IsUnderway-started held (added ++ rest) now) refl is

-- a text whose front was written, of which then a part stopped
stopped_in : {text : List ℕ} {before mid after : OutputsTold} {fault : PortFault} (done part rest : List ℕ) →
    WritesWhole Answer done before mid fine → done ++ (part ++ rest) ≡ text → WritesWhole Answer part mid after (Err fault) → WritesWhole Answer text before after (Err fault)
stopped_in {text} {before} {mid} {after} {fault} done part rest front parts back =
    let cut = back.written in
    let some : WritesWhole Answer cut.done mid after fine = record {
      creates = back.creates;
      names = back.names;
      written = cut.bytes;
      later = back.later;
      failed = tt;
      others = back.others;
    } in
    WritesWhole-front {text = text} (cut.rest ++ rest)
    (append_assoc done cut.done (cut.rest ++ rest) ∙ ap (λ xs. done ++ xs) (sym (append_assoc cut.done cut.rest rest) ∙ ap (λ xs. xs ++ rest) cut.parts) ∙ parts)
    (WritesWhole-then front some)
    (OnFailed-later (Err fault) (before.at Answer).faults (mid.at Answer).faults (after.at Answer).faults front.later back.failed)

-- a call passes on why it stopped
passed_on : {text : List ℕ} {before after : OutputsTold} {fault : PortFault} (held : List ℕ) (result : Result (Unit {0}) PortFault) → IsErrAnd result (λ y. y ≡ fault) →
    WritesWhole Answer text before after (Err fault) → Passes text held before after result
passed_on held (Ok done) same wrote = absurd same
passed_on {text} {before} {after} held (Err y) same wrote = subst (λ (z : PortFault). WritesWhole Answer text before after (Err z)) (sym same) wrote

-- what comes next was added to what is held, and stopped on its way through the buffer
pub IsUnderway-stopped : {text held rest : List ℕ} {before mid after : OutputsTold} {fault : PortFault} (added rest' more other held' : List ℕ) (result : Result (Unit {0}) PortFault) →
    IsErrAnd result (λ y. y ≡ fault) → IsUnderway text held rest before mid → rest ≡ added ++ rest' → more ≡ held ++ added → Passes more other mid after (Err fault) →
    Passes text held' before after result
IsUnderway-stopped added rest' more other held' result same front next is back =
    let now = IsUnderway-pushed added rest' more front next is in
    passed_on held' result same (stopped_in now.done more rest' now.wrote now.parts back)

-- memory ran out
pub IsUnderway-refused : {text held rest : List ℕ} {before now : OutputsTold} (held' : List ℕ) (result : Result (Unit {0}) PortFault) →
    IsErrAnd result (λ y. y ≡ NoMemory) → IsUnderway text held rest before now → Passes text held' before now result
IsUnderway-refused {held = held} {rest = rest} held' result same front = passed_on held' result same (WritesWhole-front (held ++ rest) front.parts front.wrote tt)

-- all that was still to come was added, and went through the buffer or stopped there
pub IsUnderway-last : {text held rest : List ℕ} {before mid : OutputsTold} (held' : List ℕ) (after : OutputsTold) (result : Result (Unit {0}) PortFault) →
    IsUnderway text held rest before mid → Passes (held ++ rest) held' mid after result → Passes text held' before after result
IsUnderway-last {held = held} {rest = rest} held' after (Ok tt) front back =
    IsUnderway-passed rest [] (held ++ rest) held' front (sym (append-nil rest)) refl back
IsUnderway-last {held = held} {rest = rest} held' after (Err fault) front back =
    IsUnderway-stopped rest [] (held ++ rest) held' held' (Err fault) refl front (sym (append-nil rest)) refl back

-- what is still held at the end is written
pub IsUnderway-ended : {text held : List ℕ} {before mid after : OutputsTold} (result : Result (Unit {0}) PortFault) →
    IsUnderway text held [] before mid → WritesWhole Answer held mid after result → WritesWhole Answer text before after result
IsUnderway-ended {held = held} {before = before} {after = after} (Ok tt) front back =
    subst (λ xs. WritesWhole Answer xs before after fine) (ap (λ xs. front.done ++ xs) (sym (append-nil held)) ∙ front.parts) (WritesWhole-then front.wrote back)
IsUnderway-ended {held = held} (Err fault) front back = stopped_in front.done held [] front.wrote front.parts back

-- of a text in parts, the part of the item at this place comes next
pub part_comes : {X : Type 0} (f : X → List ℕ) (xs : List X) (x : X) (i : ℕ) → i < length xs → x ≡ get_or xs i x → flat_map f (drop i xs) ≡ f x ++ flat_map f (drop (i + 1) xs)
part_comes f xs x i below is =
    ap (λ ys. flat_map f ys) (drop-cons xs i x below ∙ ap (λ k. get_or xs i x ∷ drop k xs) (sym (add-one i))) ∙ ap (λ y. f y ++ flat_map f (drop (i + 1) xs)) (sym is)

-- nothing was written yet, and memory ran out
pub nothing_written : (text : List ℕ) (now : OutputsTold) → WritesWhole Answer text now now (Err NoMemory)
nothing_written text now = let front = IsUnderway-started [] text now in WritesWhole-front text front.parts front.wrote tt
