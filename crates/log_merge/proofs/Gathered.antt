-- Lemmas on a text that is gathered piece by piece.
use Rattle.std.proofs.Common.{◌≡◌, ℕ, ◌+◌, ◌<◌, List, [], ◌∷◌, ◌++◌, length, take, drop, get_or, sym, ap, ◌∙◌, append_assoc, append-nil, subst}
use Rattle.std.specs.Prelude.{Result, Ok, Err, OnOk, IsErrAnd, flat_map}
use Rattle.std.proofs.lemmas.List.{take-append-drop, take_more}
use Rattle.std.proofs.lemmas.Grind.{flat_map-append}
use Rattle.desk_io.specs.declared.Port.TheVariants.{Log}
use Rattle.desk_io.specs.declared.PortFault.{PortFault}
use Rattle.desk_io.specs.declared.PortFault.TheVariants.{NoMemory}
use Rattle.desk_io.specs.Told.{OutputsTold, Rose}
use Rattle.desk_io.specs.Outputs.{WritesWhole, OnFailed}
use Rattle.desk_io.proofs.Written.{WritesWhole-then, WritesWhole-front, OnFailed-later}
use Rattle.log_merge.specs.Writing.{Gathers}

-- the answer of a call that went well
abbrev pub fine : Result (Unit {0}) PortFault
fine = Ok tt

-- a text may be written in another way
pub Gathers-same : {text other held kept : List ℕ} {before after : OutputsTold} {result : Result (Unit {0}) PortFault} → text ≡ other →
    Gathers text held kept before after result → Gathers other held kept before after result
Gathers-same {held = held} {kept = kept} {before = before} {after = after} {result = result} same = subst (λ text. Gathers text held kept before after result) same

-- a text and then another are gathered as one
pub Gathers-then : {first second held mid_held kept : List ℕ} {before mid after : OutputsTold} {result : Result (Unit {0}) PortFault} →
    Gathers first held mid_held before mid fine → Gathers second mid_held kept mid after result → Gathers (first ++ second) held kept before after result
Gathers-then {first} {second} {held} {before = before} {mid = mid} {after = after} {result = result} front back = record {
  done = front.done ++ back.done;
  rest = back.rest;
  parts = append_assoc front.done back.done back.rest ∙ ap (λ xs. front.done ++ xs) (back.parts ∙ ap (λ xs. xs ++ second) front.keeps)
      ∙ sym (append_assoc front.done front.rest second) ∙ ap (λ xs. xs ++ second) front.parts ∙ append_assoc held first second;
  keeps = back.keeps;
  wrote = WritesWhole-then front.wrote back.wrote;
  failed = OnFailed-later result (before.at Log).faults (mid.at Log).faults (after.at Log).faults front.wrote.later back.failed;
}

-- where the gathering stopped, it stopped in any longer text too
pub Gathers-longer : {text held kept : List ℕ} {before after : OutputsTold} {fault : PortFault} (more : List ℕ) → Gathers text held kept before after (Err fault) →
    Gathers (text ++ more) held kept before after (Err fault)
Gathers-longer {text} {held} more front = record {
  done = front.done;
  rest = front.rest ++ more;
  parts = sym (append_assoc front.done front.rest more) ∙ ap (λ xs. xs ++ more) front.parts ∙ append_assoc held text more;
  keeps = tt;
  wrote = front.wrote;
  failed = front.failed;
}

-- a call passes on why it stopped
Gathers-passed_on : {text held kept : List ℕ} {before after : OutputsTold} {fault : PortFault} (other : List ℕ) (result : Result (Unit {0}) PortFault) →
    IsErrAnd result (λ y. y ≡ fault) → Gathers text held kept before after (Err fault) → Gathers text held other before after result
Gathers-passed_on other (Ok done) same front = absurd same
Gathers-passed_on {before = before} {after = after} other (Err y) same front = record {
  done = front.done;
  rest = front.rest;
  parts = front.parts;
  keeps = tt;
  wrote = front.wrote;
  failed = subst (λ (z : PortFault). OnFailed {T = Unit {0}} (Err z) (Rose (before.at Log).faults (after.at Log).faults)) (sym same) front.failed;
}

pub Gathers-stopped : {text held kept : List ℕ} {before after : OutputsTold} {fault : PortFault} (more other : List ℕ) (result : Result (Unit {0}) PortFault) →
    IsErrAnd result (λ y. y ≡ fault) → Gathers text held kept before after (Err fault) → Gathers (text ++ more) held other before after result
Gathers-stopped more other result same front = Gathers-passed_on other result same (Gathers-longer more front)

-- what was gathered without a fault stays gathered where memory runs out
out_of_memory : {text held kept : List ℕ} {before after : OutputsTold} → Gathers text held kept before after fine → Gathers text held kept before after (Err NoMemory)
out_of_memory front = record { done = front.done; rest = front.rest; parts = front.parts; keeps = tt; wrote = front.wrote; failed = tt }

pub Gathers-refused : {text held kept : List ℕ} {before after : OutputsTold} (more other : List ℕ) (result : Result (Unit {0}) PortFault) →
    IsErrAnd result (λ y. y ≡ NoMemory) → Gathers text held kept before after fine → Gathers (text ++ more) held other before after result
Gathers-refused more other result same front = Gathers-stopped more other result same (out_of_memory front)

-- the texts of a list, up to one of them and with it
texts_to : {A : Type 0} (f : A → List ℕ) (xs : List A) (i : ℕ) (x : A) → i < length xs → x ≡ get_or xs i x →
    flat_map f (take (i + 1) xs) ≡ flat_map f (take i xs) ++ f x
texts_to f xs i x within is =
    ap (flat_map f) (take_more xs i x within) ∙ flat_map-append f (take i xs) (get_or xs i x ∷ []) ∙ ap (λ ys. flat_map f (take i xs) ++ ys) (append-nil (f (get_or xs i x)) ∙ ap f (sym is))

-- and with those behind it
texts_behind : {A : Type 0} (f : A → List ℕ) (xs : List A) (i : ℕ) (x : A) → i < length xs → x ≡ get_or xs i x →
    (flat_map f (take i xs) ++ f x) ++ flat_map f (drop (i + 1) xs) ≡ flat_map f xs
texts_behind f xs i x within is =
    ap (λ ys. ys ++ flat_map f (drop (i + 1) xs)) (sym (texts_to f xs i x within is)) ∙ sym (flat_map-append f (take (i + 1) xs) (drop (i + 1) xs)) ∙ ap (flat_map f) (take-append-drop (i + 1) xs)

-- one more text of a list is gathered
pub Gathers-more : {A : Type 0} {held mid_held kept : List ℕ} {before mid after : OutputsTold} (f : A → List ℕ) (xs : List A) (i : ℕ) (x : A) → i < length xs → x ≡ get_or xs i x →
    Gathers (flat_map f (take i xs)) held mid_held before mid fine → Gathers (f x) mid_held kept mid after fine → Gathers (flat_map f (take (i + 1) xs)) held kept before after fine
Gathers-more f xs i x within is front back = Gathers-same (sym (texts_to f xs i x within is)) (Gathers-then front back)

-- the gathering stopped at one of the texts
pub Gathers-stopped_at : {A : Type 0} {held mid_held kept : List ℕ} {before mid after : OutputsTold} {fault : PortFault} (f : A → List ℕ) (xs : List A) (i : ℕ) (x : A) (other : List ℕ)
    (result : Result (Unit {0}) PortFault) → i < length xs → x ≡ get_or xs i x → IsErrAnd result (λ y. y ≡ fault) →
    Gathers (flat_map f (take i xs)) held mid_held before mid fine → Gathers (f x) mid_held kept mid after (Err fault) → Gathers (flat_map f xs) held other before after result
Gathers-stopped_at f xs i x other result within is same front back =
    Gathers-same (texts_behind f xs i x within is) (Gathers-stopped (flat_map f (drop (i + 1) xs)) other result same (Gathers-then front back))

-- what a buffer gathered that is empty before and after is written
pub WritesWhole-gathered : {text held kept : List ℕ} {before after : OutputsTold} (result : Result (Unit {0}) PortFault) → held ≡ [] →
    Gathers text held kept before after result → OnOk result (kept ≡ []) → WritesWhole Log text before after result
WritesWhole-gathered {text} {before = before} {after = after} (Ok done) fresh all emptied =
    subst (λ xs. WritesWhole Log xs before after fine)
    (sym (append-nil all.done) ∙ ap (λ xs. all.done ++ xs) (sym emptied ∙ all.keeps) ∙ all.parts ∙ ap (λ xs. xs ++ text) fresh) all.wrote
WritesWhole-gathered {text} (Err fault) fresh part emptied = WritesWhole-front part.rest (part.parts ∙ ap (λ xs. xs ++ text) fresh) part.wrote part.failed
