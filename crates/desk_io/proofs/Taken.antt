-- Lemmas on the files in memory.
use Rattle.std.proofs.Common.{◌≡◌, ℕ, ◌+◌, ◌<◌, ◌≤◌, List, [], ◌++◌, Some, length, take, drop, min, sym, ap, ◌∙◌, subst, arith}
use Rattle.std.proofs.lemmas.List.{take-append-drop, drop_all, drop-drop}
use Rattle.desk_io.specs.Inputs.{TakesFirst}

-- a list with no element is empty
empty : (xs : List ℕ) → length xs ≤ 0 → xs ≡ []
empty xs none = drop_all 0 xs none

-- the front of the bytes, copied to the front of the buffer, is what a read takes
pub TakesFirst-copied : (bytes buf : List ℕ) (grain n : ℕ) → 0 < grain → 0 < length buf → n ≡ min (min (length bytes) grain) (length buf) → take n buf ≡ take n bytes
    → TakesFirst n buf (Some bytes) (Some (drop n bytes))
TakesFirst-copied bytes buf grain n some room count same = record {
  within = omega arith;
  bytes = ap Some (sym (ap (λ xs. xs ++ drop n bytes) same ∙ take-append-drop n bytes));
  end = λ none. (empty bytes (omega arith), drop_all n bytes (omega arith));
}

-- the same from a place on
pub TakesFirst-from : (bytes left buf : List ℕ) (grain place n : ℕ) → left ≡ drop place bytes → 0 < grain → 0 < length buf → n ≡ min (min (length left) grain) (length buf)
    → take n buf ≡ take n left → TakesFirst n buf (Some (drop place bytes)) (Some (drop (place + n) bytes))
TakesFirst-from bytes left buf grain place n is some room count same =
    let taken = TakesFirst-copied left buf grain n some room count same in
    let rest : drop n left ≡ drop (place + n) bytes = ap (drop n) is ∙ drop-drop n place bytes in
    subst (λ from. TakesFirst n buf (Some from) (Some (drop (place + n) bytes))) is (subst (λ to. TakesFirst n buf (Some left) (Some to)) rest taken)
