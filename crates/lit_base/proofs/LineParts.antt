-- The parts of a text, one byte more in front, and what its bytes are.
use Rattle.std.proofs.Common.{◌≡◌, ℕ, zero, suc, ◌+◌, ◌-◌, ◌==◌, Bool, true, false, ◌||◌, cond, List, [], ◌∷◌, ◌++◌, length, take, drop, refl, ap, ◌∙◌, arith, Some}
use Rattle.lit_base.specs.Parts.{Parts, parts_of}
use Rattle.lit_base.specs.Lines.{is_line_feed, is_blank, mark_of}

-- the parts of a byte and a text, by whether the byte cuts
abbrev pub with_byte : Bool → ℕ → Parts → Parts
with_byte true b parts = record { first = []; others = parts.first ∷ parts.others }
with_byte false b parts = record { first = b ∷ parts.first; others = parts.others }

parts_of-cons : (cuts : ℕ → Bool) (b : ℕ) (bs : List ℕ) → parts_of cuts (b ∷ bs) ≡ with_byte (cuts b) b (parts_of cuts bs)
parts_of-cons cuts b bs = by (cuts b)
  where
    by : (t : Bool) → cond t (record { first = []; others = (parts_of cuts bs).first ∷ (parts_of cuts bs).others }) (record { first = b ∷ (parts_of cuts bs).first; others = (parts_of cuts bs).others }) ≡ with_byte t b (parts_of cuts bs)
    by true = refl
    by false = refl

pub parts_of_is : (cuts : ℕ → Bool) (b : ℕ) (bs : List ℕ) (t : Bool) → cuts b ≡ t → parts_of cuts (b ∷ bs) ≡ with_byte t b (parts_of cuts bs)
parts_of_is cuts b bs t is = parts_of-cons cuts b bs ∙ ap (λ u. with_byte u b (parts_of cuts bs)) is

-- a byte that is no blank is no LF
pub solid_no_feed : (b : ℕ) → is_blank b ≡ false → is_line_feed b ≡ false
solid_no_feed b solid = by (b == 32) (b == 10) refl solid
  where
    by : (t u : Bool) → (b == 10) ≡ u → (t || (u || ((b == 9) || (b == 13)))) ≡ false → (b == 10) ≡ false
    by true u feed h = cc
    by false true feed h = cc
    by false false feed h = feed

pub mark_blank : (b : ℕ) (bytes : List ℕ) → is_blank b ≡ true → mark_of (b ∷ bytes) ≡ mark_of bytes
mark_blank b bytes is = ap (λ t. cond t (mark_of bytes) (Some b)) is

pub mark_other : (b : ℕ) (bytes : List ℕ) → is_blank b ≡ false → mark_of (b ∷ bytes) ≡ Some b
mark_other b bytes is = ap (λ t. cond t (mark_of bytes) (Some b)) is

-- the front of two texts, one behind the other
pub take_both : (n : ℕ) (xs ys : List ℕ) → take n (xs ++ ys) ≡ take n xs ++ take (n - length (take n xs)) ys
take_both zero [] ys = refl
take_both zero (x ∷ xs) ys = refl
take_both (suc n) [] ys = ap (λ m. take m ys) (let e : suc n ≡ suc n - 0 = omega arith in e)
take_both (suc n) (x ∷ xs) ys =
    ap (λ (zs : List ℕ). x ∷ zs) (take_both n xs ys ∙ ap (λ m. take n xs ++ take m ys) (let e : n - length (take n xs) ≡ suc n - length (x ∷ take n xs) = omega arith in e))

-- what is left behind a text and a byte
pub drop_behind : (xs : List ℕ) (b : ℕ) (rest : List ℕ) → drop (length xs + 1) (xs ++ b ∷ rest) ≡ rest
drop_behind [] b rest = refl
drop_behind (x ∷ xs) b rest = ap (λ n. drop n (x ∷ (xs ++ b ∷ rest))) same ∙ drop_behind xs b rest
  where
    same : length (x ∷ xs) + 1 ≡ suc (length xs + 1)
    same = omega arith

-- a text and a byte, in front of others
pub take_behind : (xs : List ℕ) (b : ℕ) (rest : List ℕ) → take (length xs + 1) (xs ++ b ∷ rest) ≡ xs ++ b ∷ []
take_behind [] b [] = refl
take_behind [] b (c ∷ rest) = refl
take_behind (x ∷ xs) b rest = ap (λ n. take n (x ∷ (xs ++ b ∷ rest))) same ∙ ap (λ (ys : List ℕ). x ∷ ys) (take_behind xs b rest)
  where
    same : length (x ∷ xs) + 1 ≡ suc (length xs + 1)
    same = omega arith
