-- The row of a clause that is linked for the first time.
use Rattle.std.proofs.Common.{◌≡◌, ◌⊎◌, ℕ, ◌+◌, ◌<◌, ◌≤◌, Bool, true, false, ◌||◌, List, [], ◌∷◌, ◌++◌, length, get_or, inl, inr, ap, sym, subst, arith, All}
use Rattle.std.specs.Prelude.{Some, None}
use Rattle.std.specs.List.{list_any, IsDistinct}
use Rattle.std.proofs.lemmas.Bool.{cases_Bool}
use Rattle.std.proofs.lemmas.List.{length-append}
use Rattle.std.proofs.lemmas.List.Elements.{All-head, All-tail}
use Rattle.std.proofs.lemmas.List.Folds.{list_any_at}
use Rattle.std.proofs.lemmas.Map.Keys.{IsDistinct-head}
use Rattle.lit_base.specs.Literal.{Literal, same}
use Rattle.lit_base.specs.Trail.{is_false}
use Rattle.lit_base.specs.Named.{lits_at}
use Rattle.lit_base.specs.Rounds.{NamedClause}
use Rattle.lit_base.specs.Fits.{HasDistinctVariables}
use Rattle.lit_base.specs.Quiet.{IsOneOf}
use Rattle.lit_base.specs.declared.trail.Entry.{Entry}
use Rattle.lit_base.specs.declared.name.Name.{Name}
use Rattle.lit_base.proofs.DistinctLits.{same-true}
use Rattle.lit_base.proofs.Known.{same_itself}
use Rattle.round_prop.specs.declared.note.Note.{Note}
use Rattle.round_prop.specs.Linked.{IsBeside, IsLatest, IsOther}
use Rattle.round_prop.specs.Noting.{IsNoteOf, IsNoted, clear_count, load_of}
use Rattle.round_prop.specs.Readied.{IsRow}
use Rattle.round_prop.proofs.FirstLinks.{first_pair, first_linked, first_noted, second_noted}
use Rattle.round_prop.proofs.RowSteps.{clear-append}

-- literals of the clause by their places
pub one_at : (lits : List Literal) (i : ℕ) (l : Literal) → i < length lits → l ≡ get_or lits i l → IsOneOf lits l
one_at lits i l inside is = list_any_at (λ m. same m l) lits i l inside (subst (λ m. same m l ≡ true) is (same_itself l))

pub two_apart : (lits : List Literal) (x y : Literal) → 2 ≤ length lits → IsDistinct same lits → x ≡ get_or lits 0 x → y ≡ get_or lits 1 y → same x y ≡ false
two_apart [] x y two distinct first second = absurd (omega (arith, two))
two_apart (a ∷ []) x y two distinct first second = absurd (omega (arith, two))
two_apart (a ∷ b ∷ later) x y two distinct first second =
    subst (λ z. same z y ≡ false) (sym first) (subst (λ z. same a z ≡ false) (sym second) (IsDistinct-head same a (b ∷ later) distinct).0)

pub all_one : (P : Literal → Type 0) (lits : List Literal) (l : Literal) → All P lits → IsOneOf lits l → P l
all_one P [] l all held = cc
all_one P (m ∷ later) l all held = by_test (cases_Bool (same m l)) (all_one P later l (All-tail P m later all))
  where
    skip : (a b : Bool) → a ≡ false → (a || b) ≡ true → b ≡ true
    skip true b is either = cc
    skip false b is either = either

    by_test : (same m l ≡ true) ⊎ (same m l ≡ false) → (IsOneOf later l → P l) → P l
    by_test (inl is) rest = subst P (same-true m l is) (All-head P m later all)
    by_test (inr apart) rest = rest (skip (same m l) (list_any (λ k. same k l) later) apart held)

-- a literal beside another
pub beside_found : (trail : List Entry) (lits : List Literal) (other l : Literal) → IsOther trail lits other (Some l) → IsBeside trail lits other l
beside_found trail lits other l is = record { held = is.0; apart = is.1; choice = inl is.2 }

pub beside_latest : (trail : List Entry) (lits : List Literal) (other l : Literal) → IsOther trail lits other None → IsLatest trail lits other l → IsBeside trail lits other l
beside_latest trail lits other l none latest = record { held = latest.held; apart = latest.apart; choice = inr (none, latest) }

-- the row is right, noted or not
module _ (clauses : List NamedClause) (trail done : List Entry) (notes : List Note) (name : Name) (lits : List Literal) (x a b : Literal) (distinct : HasDistinctVariables trail) (held : IsOneOf lits x) (one : IsBeside trail lits x a) (two : IsBeside trail lits a b)
    (found : lits_at clauses name ≡ Some lits) where
  pub row_noted : IsNoted notes name → IsRow clauses trail done notes name a b
  row_noted noted = record { lits = lits; found = found; pair = first_pair trail lits x a b distinct held one two; met = inl (first_linked trail lits x a b distinct held one two, inr noted) }

  pub row_open : is_false trail a ≡ false → is_false trail b ≡ false → IsRow clauses trail done notes name a b
  row_open lives too = record { lits = lits; found = found; pair = first_pair trail lits x a b distinct held one two; met = inl (first_linked trail lits x a b distinct held one two, inl (inr (inr (lives, too)))) }

  pub note_first : (row : ℕ) → is_false trail b ≡ true → IsNoteOf trail clauses (record { name = name; lit = Some a; row = row })
  note_first row lost = record { lits = lits; found = found; tells = first_noted trail lits x a b distinct held one two lost }

  pub note_second : (row : ℕ) → is_false trail a ≡ true → is_false trail b ≡ false → IsNoteOf trail clauses (record { name = name; lit = Some b; row = row })
  note_second row lost lives = record { lits = lits; found = found; tells = second_noted trail lits x a b distinct held one two lost lives }

-- the load with a row more
pub load_noted : (notes more : List Note) (flags more_flags : List Bool) (note : Note) → more ≡ notes ++ note ∷ [] → more_flags ≡ flags ++ true ∷ [] → load_of more more_flags ≡ load_of notes flags + 1
load_noted notes more flags more_flags note is are =
    let a = ap length is in let b = ap clear_count are in omega (arith, a, b, length-append notes (note ∷ []), clear-append flags true)

pub load_open : (notes : List Note) (flags more_flags : List Bool) → more_flags ≡ flags ++ false ∷ [] → load_of notes more_flags ≡ load_of notes flags + 1
load_open notes flags more_flags are = let b = ap clear_count are in omega (arith, b, clear-append flags false)
