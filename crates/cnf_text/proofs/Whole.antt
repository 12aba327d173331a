-- Early faults and the end of the input: what follows changes nothing.
use Rattle.std.proofs.Common.{Option, [], ◌≡◌, ℕ, ◌-◌, ◌≤◌, ◌<◌, Bool, true, false, not, ◌&&◌, cond, ltb, List, ◌++◌, length, take, refl, sym, ap, ◌∙◌, arith, append-nil, length-append, Some, None, Result, Ok, Err}
use Rattle.std.proofs.lemmas.Bool.{ltb-true, ltb-false}
use Rattle.cnf_text.specs.declared.fault.CnfFault.{CnfFault}
use Rattle.cnf_text.specs.declared.fault.CnfFault.TheVariants.{OverLimit}
use Rattle.cnf_text.specs.declared.fault.Which.TheVariants.{Bytes}
use Rattle.cnf_text.specs.declared.scan.Scan.{Scan}
use Rattle.lit_base.specs.Results.{on_ok}
use Rattle.cnf_text.specs.Machine.{start, steps, is_ended_at, room_of}
use Rattle.cnf_text.specs.Reading.{within, is_ended, end_line_of, byte_fault, early_fault, formula_of}
use Rattle.cnf_text.proofs.Fed.{no_fault, steps_append, ended_stays, ended_here, within_more, within_all, within_length, steps_more, early_err, early_ok, byte_some, formula_is, formula_early}

-- what `byte_fault` says where there is one
record IsTooMany (bytes : List ℕ) (fault : CnfFault) : Type 0 where
  long : 268435456 < length bytes
  going : is_ended (within bytes) ≡ false
  is : fault ≡ OverLimit Bytes (end_line_of (within bytes))

too_many : (bytes : List ℕ) (fault : CnfFault) → byte_fault bytes ≡ Some fault → IsTooMany bytes fault
unfolding byte_fault
too_many bytes fault is = by (ltb 268435456 (length bytes)) (is_ended (within bytes)) refl refl is
  where
    by : (t u : Bool) → ltb 268435456 (length bytes) ≡ t → is_ended (within bytes) ≡ u → cond (t && not u) (Some (OverLimit Bytes (end_line_of (within bytes)))) None ≡ Some fault → IsTooMany bytes fault
    by false u long going some = cc
    by true true long going some = cc
    by true false long going some = record { long = ltb-true 268435456 (length bytes) long; going = going; is = cc }

-- a text that is too long has no room for more
within_full : (front rest : List ℕ) → 268435456 < length front → within (front ++ rest) ≡ within front
within_full front rest long =
    within_more front rest ∙ ap (λ n. within front ++ take n rest) none ∙ append-nil (within front)
  where
    none : 268435456 - length (within front) ≡ 0
    none = omega (arith, within_length front)

-- an early fault stays early
pub early_stays : (front rest : List ℕ) (fault : CnfFault) → early_fault front ≡ Some fault → early_fault (front ++ rest) ≡ Some fault
early_stays front rest fault early = by (steps start (within front)) refl
  where
    by : (r : Result Scan CnfFault) → steps start (within front) ≡ r → early_fault (front ++ rest) ≡ Some fault
    by (Err other) is =
        let same : Some other ≡ Some fault = sym (early_err front other is) ∙ early in
        early_err (front ++ rest) other (ap (steps start) (within_more front rest) ∙ steps_append start (within front) (room_of (length (within front)) rest) ∙ ap (λ r. on_ok r (λ t. steps t (room_of (length (within front)) rest))) is)
        ∙ same
    by (Ok s) is =
        let over = too_many front fault (sym (early_ok front s is) ∙ early) in
        let full : within (front ++ rest) ≡ within front = within_full front rest over.long in
        early_ok (front ++ rest) s (ap (steps start) full ∙ is)
        ∙ byte_some (front ++ rest) (omega (arith, over.long, length-append front rest)) (ap is_ended full ∙ over.going)
        ∙ ap (λ (xs : List ℕ). Some (OverLimit Bytes (end_line_of xs))) full ∙ ap (λ (f : CnfFault). Some f) (sym over.is)

-- an early fault is the fault of the whole, whatever follows
pub early_fault_is_last : (front rest : List ℕ) (fault : CnfFault) → early_fault front ≡ Some fault → formula_of (front ++ rest) ≡ Err fault
early_fault_is_last front rest fault early = formula_early (front ++ rest) fault (early_stays front rest fault early)

-- where there is an early fault, more changes nothing
both_early : (front rest : List ℕ) (fault : CnfFault) → early_fault front ≡ Some fault → formula_of (front ++ rest) ≡ formula_of front
both_early front rest fault early = early_fault_is_last front rest fault early ∙ sym (formula_early front fault early)

-- what follows the line that ends the input changes nothing
pub end_is_last : (front rest : List ℕ) → is_ended front ≡ true → formula_of (front ++ rest) ≡ formula_of front
end_is_last front rest ended = by (steps start (within front)) refl
  where
    by_length : (s : Scan) → steps start (within front) ≡ Ok s → is_ended_at s.place ≡ false → (t : Bool) → ltb 268435456 (length front) ≡ t → formula_of (front ++ rest) ≡ formula_of front
    by_length s is going true long =
        both_early front rest (OverLimit Bytes (end_line_of (within front)))
        (early_ok front s is ∙ byte_some front (ltb-true 268435456 (length front) long) (ended_here (within front) s is ∙ going))
    by_length s is going false short =
        let all : within front ≡ front = within_all front (ltb-false 268435456 (length front) short) in
        let open_still : is_ended front ≡ false = ap is_ended (sym all) ∙ ended_here (within front) s is ∙ going in
        cc

    by_end : (s : Scan) → steps start (within front) ≡ Ok s → (t : Bool) → is_ended_at s.place ≡ t → formula_of (front ++ rest) ≡ formula_of front
    by_end s is true at =
        let room : (bytes : List ℕ) → is_ended_at s.place ≡ false → length bytes ≤ 268435456 = λ bytes going. cc in
        let more : steps start (within (front ++ rest)) ≡ Ok s = steps_more front rest s is ∙ ended_stays s (room_of (length (within front)) rest) at in
        formula_is (front ++ rest) s more (room (front ++ rest)) ∙ sym (formula_is front s is (room front))
    by_end s is false at = by_length s is at (ltb 268435456 (length front)) refl

    by : (r : Result Scan CnfFault) → steps start (within front) ≡ r → formula_of (front ++ rest) ≡ formula_of front
    by (Ok s) is = by_end s is (is_ended_at s.place) refl
    by (Err fault) is = both_early front rest fault (early_err front fault is)

-- no early fault, and none before
pub no_early_fault_before : (front rest : List ℕ) → early_fault (front ++ rest) ≡ None → early_fault front ≡ None
no_early_fault_before front rest none = by (early_fault front) refl
  where
    by : (o : Option CnfFault) → early_fault front ≡ o → o ≡ None
    by None is = refl
    by (Some fault) is = let stays : early_fault (front ++ rest) ≡ Some fault = early_stays front rest fault is in cc

-- nothing has no early fault
pub no_early_fault_yet : early_fault [] ≡ None
no_early_fault_yet = no_fault [] start (ap (steps start) (within_all [] (omega arith))) (λ going. omega arith)
