-- Notes that come in, and notes that go.
use Rattle.std.proofs.Common.{◌≡◌, ◌⊎◌, ℕ, zero, suc, ◌+◌, ◌<◌, ◌≤◌, ◌==◌, Bool, true, false, not, ◌&&◌, ◌||◌, List, [], ◌∷◌, ◌++◌, length, set, get_or, replicate, refl, inl, inr, ap, sym, ◌∙◌, subst, arith}
use Rattle.std.specs.Prelude.{Some, None, slice_get, if◌then◌else◌}
use Rattle.std.specs.List.{list_any}
use Rattle.std.proofs.lemmas.Bool.{cases_Bool, eq-eqb, ne_eqb}
use Rattle.std.proofs.lemmas.List.{length-append, length-set}
use Rattle.std.proofs.lemmas.List.Folds.{list_any-append}
use Rattle.std.proofs.lemmas.Option.{same_Some, slice_get_within, slice_get-get_or}
use Rattle.lit_base.specs.Rounds.{NamedClause}
use Rattle.lit_base.specs.Named.{same_name}
use Rattle.lit_base.specs.declared.trail.Entry.{Entry}
use Rattle.lit_base.specs.declared.name.Name.{Name}
use Rattle.lit_base.proofs.HeldClauses.{same_name-itself}
use Rattle.lit_base.proofs.Known.{any_when}
use Rattle.lit_base.proofs.Lists.{one_more}
use Rattle.round_prop.specs.declared.note.Note.{Note}
use Rattle.round_prop.specs.Noting.{IsNoteOf, AreNotesOf, IsNoted, is_of_row, HasNote, AreFlagged, clear_count, load_of, is_lost, IsAdded, flags_after, flags_without, lost_notes}

-- what stands at a place after a write
pub slice_get-set : {X : Type 0} (xs : List X) (i j : ℕ) (y x : X) → slice_get (set xs i y) j ≡ Some x → ((j ≡ i) × (x ≡ y)) ⊎ ((j ≡ i → ⊥) × (slice_get xs j ≡ Some x))
slice_get-set [] i j y x is = absurd (none is)
  where
    none : {X : Type 0} {x : X} → None ≡ Some x → ⊥
    none same = cc
slice_get-set (first ∷ later) zero zero y x is = inl (refl, sym (same_Some y x is))
slice_get-set (first ∷ later) zero (suc j) y x is = inr ((λ same. absurd (omega (arith, same))), is)
slice_get-set (first ∷ later) (suc i) zero y x is = inr ((λ same. absurd (omega (arith, same))), is)
slice_get-set (first ∷ later) (suc i) (suc j) y x is = step (slice_get-set later i j y x is)
  where
    step : ((j ≡ i) × (x ≡ y)) ⊎ ((j ≡ i → ⊥) × (slice_get later j ≡ Some x)) → ((suc j ≡ suc i) × (x ≡ y)) ⊎ ((suc j ≡ suc i → ⊥) × (slice_get later j ≡ Some x))
    step (inl (here, one)) = inl (ap suc here, one)
    step (inr (other, one)) = inr ((λ same. other (omega (arith, same))), one)

pub slice_get-append : {X : Type 0} (xs ys : List X) (i : ℕ) (x : X) → slice_get xs i ≡ Some x → slice_get (xs ++ ys) i ≡ Some x
slice_get-append [] ys i x is = absurd (none is)
  where
    none : {X : Type 0} {x : X} → None ≡ Some x → ⊥
    none same = cc
slice_get-append (first ∷ later) ys zero x is = is
slice_get-append (first ∷ later) ys (suc i) x is = slice_get-append later ys i x is

-- what was there is in the longer list, or behind it
pub slice_get-parts : {X : Type 0} (xs ys : List X) (i : ℕ) (x : X) → slice_get (xs ++ ys) i ≡ Some x → (slice_get xs i ≡ Some x) ⊎ ((k : ℕ) × ((i ≡ length xs + k) × (slice_get ys k ≡ Some x)))
slice_get-parts [] ys i x is = inr (i, (omega arith, is))
slice_get-parts (first ∷ later) ys zero x is = inl is
slice_get-parts (first ∷ later) ys (suc i) x is = step (slice_get-parts later ys i x is)
  where
    step : (slice_get later i ≡ Some x) ⊎ ((k : ℕ) × ((i ≡ length later + k) × (slice_get ys k ≡ Some x))) → (slice_get later i ≡ Some x) ⊎ ((k : ℕ) × ((suc i ≡ length (first ∷ later) + k) × (slice_get ys k ≡ Some x)))
    step (inl here) = inl here
    step (inr (k, (at, one))) = inr (k, (omega (arith, at), one))

-- one note more
pub noted_more : (notes more : List Note) (name : Name) → IsNoted notes name → IsNoted (notes ++ more) name
noted_more notes more name noted = list_any-append (λ (n : Note). same_name n.name name) notes more ∙ ap (λ b. b || list_any (λ (n : Note). same_name n.name name) more) noted

pub noted_last : (notes : List Note) (note : Note) → IsNoted (notes ++ note ∷ []) note.name
noted_last notes note =
    list_any-append (λ (n : Note). same_name n.name note.name) notes (note ∷ [])
    ∙ (ap (λ b. list_any (λ (n : Note). same_name n.name note.name) notes || (b || false)) (same_name-itself note.name) ∙ last (list_any (λ (n : Note). same_name n.name note.name) notes))
  where
    last : (b : Bool) → (b || true) ≡ true
    last true = refl
    last false = refl

pub has_more : (notes more : List Note) (row : ℕ) (name : Name) → HasNote notes row name → HasNote (notes ++ more) row name
has_more notes more row name has = list_any-append (is_of_row row name) notes more ∙ ap (λ b. b || list_any (is_of_row row name) more) has

pub has_last : (notes : List Note) (note : Note) (row : ℕ) → row ≡ note.row → HasNote (notes ++ note ∷ []) row note.name
has_last notes note row is =
    list_any-append (is_of_row row note.name) notes (note ∷ [])
    ∙ (ap (λ b. list_any (is_of_row row note.name) notes || (b || false)) (ap (λ b. b && same_name note.name note.name) (eq-eqb note.row row (sym is)) ∙ same_name-itself note.name) ∙ last (list_any (is_of_row row note.name) notes))
  where
    last : (b : Bool) → (b || true) ≡ true
    last true = refl
    last false = refl

-- the note of a row is one of its name
pub has_noted : (notes : List Note) (row : ℕ) (name : Name) → HasNote notes row name → IsNoted notes name
has_noted notes row name has = any_when (is_of_row row name) (λ (n : Note). same_name n.name name) (λ n both. second (n.row == row) (same_name n.name name) both) notes has
  where
    second : (a b : Bool) → (a && b) ≡ true → b ≡ true
    second true b is = is
    second false b is = cc

-- flags that are clear
pub clear_set : (flags : List Bool) (row : ℕ) → slice_get flags row ≡ Some false → clear_count (set flags row true) + 1 ≡ clear_count flags
clear_set [] row is = absurd (none is)
  where
    none : {X : Type 0} {x : X} → None ≡ Some x → ⊥
    none same = cc
clear_set (flag ∷ later) zero is = let e : (if flag then 0 else 1) ≡ 1 = ap (λ (b : Bool). let k : ℕ = if b then 0 else 1 in k) (same_Some flag false is) in omega (arith, e)
clear_set (flag ∷ later) (suc row) is = let rest = clear_set later row is in omega (arith, rest)

clear_unset : (flags : List Bool) (row : ℕ) → clear_count (set flags row false) ≤ clear_count flags + 1
clear_unset [] row = omega arith
clear_unset (true ∷ later) zero = omega arith
clear_unset (false ∷ later) zero = omega arith
clear_unset (flag ∷ later) (suc row) = let rest = clear_unset later row in omega (arith, rest)

pub added_kept : (flags : List Bool) (notes : List Note) (flags-after : List Bool) (notes-after : List Note) (note : Note) (name : Name) → IsAdded flags notes flags-after notes-after note → IsNoted notes name → IsNoted notes-after name
added_kept flags notes flags-after notes-after note name (inl old) noted = subst (λ ns. IsNoted ns name) (sym old.1) noted
added_kept flags notes flags-after notes-after note name (inr new) noted = subst (λ ns. IsNoted ns name) (sym new.1) (noted_more notes (note ∷ []) name noted)

pub added_sound : (trail : List Entry) (clauses : List NamedClause) (flags : List Bool) (notes : List Note) (flags-after : List Bool) (notes-after : List Note) (note : Note) →
    IsAdded flags notes flags-after notes-after note → IsNoteOf trail clauses note → AreNotesOf trail clauses notes → AreNotesOf trail clauses notes-after
added_sound trail clauses flags notes flags-after notes-after note (inl old) sound all = subst (λ ns. AreNotesOf trail clauses ns) (sym old.1) all
added_sound trail clauses flags notes flags-after notes-after note (inr new) sound all = subst (λ ns. AreNotesOf trail clauses ns) (sym new.1) (one_more (IsNoteOf trail clauses) notes note all sound)

pub added_flagged : (names : List Name) (flags : List Bool) (notes : List Note) (flags-after : List Bool) (notes-after : List Note) (note : Note) → slice_get names note.row ≡ Some note.name →
    IsAdded flags notes flags-after notes-after note → AreFlagged names flags notes → AreFlagged names flags-after notes-after
added_flagged names flags notes flags-after notes-after note named (inl old) flagged row name at set_now =
    subst (λ ns. HasNote ns row name) (sym old.1) (flagged row name at (subst (λ fs. slice_get fs row ≡ Some true) old.2 set_now))
added_flagged names flags notes flags-after notes-after note named (inr new) flagged row name at set_now =
    subst (λ ns. HasNote ns row name) (sym new.1) (by_case (slice_get-set flags note.row row true true (subst (λ fs. slice_get fs row ≡ Some true) new.2 set_now)))
  where
    by_case : ((row ≡ note.row) × (true ≡ true)) ⊎ ((row ≡ note.row → ⊥) × (slice_get flags row ≡ Some true)) → HasNote (notes ++ note ∷ []) row name
    by_case (inl (is, _)) =
        let same : note.name ≡ name = same_Some note.name name (sym named ∙ (ap (λ r. slice_get names r) (sym is) ∙ at)) in
        subst (λ n. HasNote (notes ++ note ∷ []) row n) same (has_last notes note row is)
    by_case (inr (other, before)) = has_more notes (note ∷ []) row name (flagged row name at before)

pub added_noted : (names : List Name) (flags : List Bool) (notes : List Note) (flags-after : List Bool) (notes-after : List Note) (note : Note) → slice_get names note.row ≡ Some note.name →
    IsAdded flags notes flags-after notes-after note → AreFlagged names flags notes → IsNoted notes-after note.name
added_noted names flags notes flags-after notes-after note named (inl old) flagged =
    subst (λ ns. IsNoted ns note.name) (sym old.1) (has_noted notes note.row note.name (flagged note.row note.name named old.0))
added_noted names flags notes flags-after notes-after note named (inr new) flagged = subst (λ ns. IsNoted ns note.name) (sym new.1) (noted_last notes note)

pub added_load : (flags : List Bool) (notes : List Note) (flags-after : List Bool) (notes-after : List Note) (note : Note) → IsAdded flags notes flags-after notes-after note →
    (load_of notes-after flags-after ≤ load_of notes flags) × (length flags-after ≡ length flags)
added_load flags notes flags-after notes-after note (inl old) =
    let count = ap clear_count old.2 in let long = ap length old.1 in let same = ap length old.2 in (omega (arith, count, long), same)
added_load flags notes flags-after notes-after note (inr new) =
    let count = ap clear_count new.2 in let less = clear_set flags note.row new.0 in let long = ap length new.1 in let more = length-append notes (note ∷ []) in
    let same = ap length new.2 in (omega (arith, count, less, long, more), omega (arith, same, length-set flags note.row true))

-- a flag that is still set was so, and of no note that is dropped
module _ (trail : List Entry) where
  after_set : (notes : List Note) (flags : List Bool) (row : ℕ) → slice_get (flags_after trail notes flags) row ≡ Some true →
      (slice_get flags row ≡ Some true) × (list_any (λ (n : Note). (n.row == row) && not (is_lost trail n.lit)) notes ≡ false)
  after_set [] flags row is = (is, refl)
  after_set (n ∷ later) flags row is = by_test (is_lost trail n.lit) refl (after_set later (if is_lost trail n.lit then flags else set flags n.row false) row is)
    where
      and_false : (a : Bool) → (a && false) ≡ false
      and_false true = refl
      and_false false = refl

      by_test : (b : Bool) → is_lost trail n.lit ≡ b →
          (slice_get (if is_lost trail n.lit then flags else set flags n.row false) row ≡ Some true) × (list_any (λ (m : Note). (m.row == row) && not (is_lost trail m.lit)) later ≡ false) →
          (slice_get flags row ≡ Some true) × (list_any (λ (m : Note). (m.row == row) && not (is_lost trail m.lit)) (n ∷ later) ≡ false)
      by_test true lost (here, rest) = (
        subst (λ b. slice_get (if b then flags else set flags n.row false) row ≡ Some true) lost here,
        ap (λ b. ((n.row == row) && not b) || list_any (λ (m : Note). (m.row == row) && not (is_lost trail m.lit)) later) lost
            ∙ (ap (λ b. b || list_any (λ (m : Note). (m.row == row) && not (is_lost trail m.lit)) later) (and_false (n.row == row)) ∙ rest),
      )
      by_test false lives (here, rest) = by_set (slice_get-set flags n.row row false true (subst (λ b. slice_get (if b then flags else set flags n.row false) row ≡ Some true) lives here))
        where
          by_set : ((row ≡ n.row) × (true ≡ false)) ⊎ ((row ≡ n.row → ⊥) × (slice_get flags row ≡ Some true)) →
              (slice_get flags row ≡ Some true) × (list_any (λ (m : Note). (m.row == row) && not (is_lost trail m.lit)) (n ∷ later) ≡ false)
          by_set (inl (is, wrong)) = absurd (never wrong)
            where
              never : true ≡ false → ⊥
              never same = cc
          by_set (inr (other, before)) =
              (before, ap (λ b. (b && not (is_lost trail n.lit)) || list_any (λ (m : Note). (m.row == row) && not (is_lost trail m.lit)) later) (ne_eqb n.row row (λ same. other (sym same))) ∙ rest)

  -- a note of such a row is kept
  has_kept : (notes : List Note) (row : ℕ) (name : Name) → HasNote notes row name → list_any (λ (n : Note). (n.row == row) && not (is_lost trail n.lit)) notes ≡ false → HasNote (lost_notes trail notes) row name
  has_kept [] row name has none = has
  has_kept (n ∷ later) row name has none = by_tests (cases_Bool (is_of_row row name n)) (cases_Bool (is_lost trail n.lit)) (has_kept later row name)
    where
      none_first : ((n.row == row) && not (is_lost trail n.lit)) ≡ false
      none_first = first ((n.row == row) && not (is_lost trail n.lit)) (list_any (λ (m : Note). (m.row == row) && not (is_lost trail m.lit)) later) none
        where
          first : (a b : Bool) → (a || b) ≡ false → a ≡ false
          first true b is = is
          first false b is = refl

      none_later : list_any (λ (m : Note). (m.row == row) && not (is_lost trail m.lit)) later ≡ false
      none_later = second ((n.row == row) && not (is_lost trail n.lit)) (list_any (λ (m : Note). (m.row == row) && not (is_lost trail m.lit)) later) none
        where
          second : (a b : Bool) → (a || b) ≡ false → b ≡ false
          second true b is = cc
          second false b is = is

      skip : (a b : Bool) → a ≡ false → (a || b) ≡ true → b ≡ true
      skip true b is either = cc
      skip false b is either = either

      contradiction : is_of_row row name n ≡ true → is_lost trail n.lit ≡ false → ⊥
      contradiction of_row lives = both (n.row == row) (same_name n.name name) (is_lost trail n.lit) of_row lives none_first
        where
          both : (a b c : Bool) → (a && b) ≡ true → c ≡ false → (a && not c) ≡ false → ⊥
          both true b true one two three = cc
          both true b false one two three = cc
          both false b c one two three = cc

      by_tests : (is_of_row row name n ≡ true) ⊎ (is_of_row row name n ≡ false) → (is_lost trail n.lit ≡ true) ⊎ (is_lost trail n.lit ≡ false) →
          (HasNote later row name → list_any (λ (m : Note). (m.row == row) && not (is_lost trail m.lit)) later ≡ false → HasNote (lost_notes trail later) row name) → HasNote (lost_notes trail (n ∷ later)) row name
      by_tests (inl of_row) (inl lost) rest = subst (λ b. HasNote (if b then n ∷ lost_notes trail later else lost_notes trail later) row name) (sym lost) (ap (λ b. b || list_any (is_of_row row name) (lost_notes trail later)) of_row)
      by_tests (inl of_row) (inr lives) rest = absurd (contradiction of_row lives)
      by_tests (inr not_of) (inl lost) rest =
          subst (λ b. HasNote (if b then n ∷ lost_notes trail later else lost_notes trail later) row name) (sym lost)
          (ap (λ b. b || list_any (is_of_row row name) (lost_notes trail later)) not_of ∙ rest (skip (is_of_row row name n) (list_any (is_of_row row name) later) not_of has) none_later)
      by_tests (inr not_of) (inr lives) rest =
          subst (λ b. HasNote (if b then n ∷ lost_notes trail later else lost_notes trail later) row name) (sym lives) (rest (skip (is_of_row row name n) (list_any (is_of_row row name) later) not_of has) none_later)

  pub flagged_after : (names : List Name) (flags : List Bool) (notes : List Note) → AreFlagged names flags notes → AreFlagged names (flags_after trail notes flags) (lost_notes trail notes)
  flagged_after names flags notes flagged row name at set_now =
      let before = after_set notes flags row set_now in has_kept notes row name (flagged row name at before.0) before.1

  pub load_after : (notes : List Note) (flags : List Bool) → load_of (lost_notes trail notes) (flags_after trail notes flags) ≤ load_of notes flags
  load_after [] flags = omega arith
  load_after (n ∷ later) flags = by_test (is_lost trail n.lit) refl (load_after later (if is_lost trail n.lit then flags else set flags n.row false))
    where
      by_test : (b : Bool) → is_lost trail n.lit ≡ b → load_of (lost_notes trail later) (flags_after trail later (if is_lost trail n.lit then flags else set flags n.row false)) ≤ load_of later (if is_lost trail n.lit then flags else set flags n.row false) →
          load_of (if is_lost trail n.lit then n ∷ lost_notes trail later else lost_notes trail later) (flags_after trail later (if is_lost trail n.lit then flags else set flags n.row false)) ≤ load_of (n ∷ later) flags
      by_test true lost rest =
          let long : length (if is_lost trail n.lit then n ∷ lost_notes trail later else lost_notes trail later) ≡ 1 + length (lost_notes trail later) = (let e = ap (λ b. length (if b then n ∷ lost_notes trail later else lost_notes trail later)) lost in omega (arith, e)) in
          let clear : clear_count (if is_lost trail n.lit then flags else set flags n.row false) ≡ clear_count flags = ap (λ b. clear_count (if b then flags else set flags n.row false)) lost in
          omega (arith, rest, long, clear)
      by_test false lives rest =
          let long : length (if is_lost trail n.lit then n ∷ lost_notes trail later else lost_notes trail later) ≡ length (lost_notes trail later) = ap (λ b. length (if b then n ∷ lost_notes trail later else lost_notes trail later)) lives in
          let clear : clear_count (if is_lost trail n.lit then flags else set flags n.row false) ≡ clear_count (set flags n.row false) = ap (λ b. clear_count (if b then flags else set flags n.row false)) lives in
          omega (arith, rest, long, clear, clear_unset flags n.row)

  pub length_after : (notes : List Note) (flags : List Bool) → length (flags_after trail notes flags) ≡ length flags
  length_after [] flags = refl
  length_after (n ∷ later) flags = length_after later (if is_lost trail n.lit then flags else set flags n.row false) ∙ by_test (is_lost trail n.lit)
    where
      by_test : (b : Bool) → length (if b then flags else set flags n.row false) ≡ length flags
      by_test true = refl
      by_test false = length-set flags n.row false

-- where each flag that is set is of a note, none is left without the notes
without_set : (notes : List Note) (flags : List Bool) (row : ℕ) → slice_get (flags_without notes flags) row ≡ Some true → (slice_get flags row ≡ Some true) × (list_any (λ (n : Note). n.row == row) notes ≡ false)
without_set [] flags row is = (is, refl)
without_set (n ∷ later) flags row is = step (without_set later (set flags n.row false) row is)
  where
    step : (slice_get (set flags n.row false) row ≡ Some true) × (list_any (λ (m : Note). m.row == row) later ≡ false) → (slice_get flags row ≡ Some true) × (list_any (λ (m : Note). m.row == row) (n ∷ later) ≡ false)
    step (here, rest) = by_set (slice_get-set flags n.row row false true here)
      where
        by_set : ((row ≡ n.row) × (true ≡ false)) ⊎ ((row ≡ n.row → ⊥) × (slice_get flags row ≡ Some true)) → (slice_get flags row ≡ Some true) × (list_any (λ (m : Note). m.row == row) (n ∷ later) ≡ false)
        by_set (inl (is_row, wrong)) = absurd (never wrong)
          where
            never : true ≡ false → ⊥
            never same = cc
        by_set (inr (other, before)) = (before, ap (λ b. b || list_any (λ (m : Note). m.row == row) later) (ne_eqb n.row row (λ same. other (sym same))) ∙ rest)

length_without : (notes : List Note) (flags : List Bool) → length (flags_without notes flags) ≡ length flags
length_without [] flags = refl
length_without (n ∷ later) flags = length_without later (set flags n.row false) ∙ length-set flags n.row false

all_false : (flags : List Bool) → ((row : ℕ) → slice_get flags row ≡ Some true → ⊥) → flags ≡ replicate (length flags) false
all_false [] none = refl
all_false (flag ∷ later) none = by_flag flag refl ∙ ap (λ fs. false ∷ fs) (all_false later (λ row is. none (suc row) is))
  where
    by_flag : (b : Bool) → flag ≡ b → flag ∷ later ≡ false ∷ later
    by_flag true is = absurd (none 0 (ap (λ b. Some b) is))
    by_flag false is = ap (λ b. b ∷ later) is

pub flags_gone : (notes : List Note) (flags : List Bool) → ((row : ℕ) → slice_get flags row ≡ Some true → (name : Name) × HasNote notes row name) → flags_without notes flags ≡ replicate (length flags) false
flags_gone notes flags flagged = all_false (flags_without notes flags) none ∙ ap (λ k. replicate k false) (length_without notes flags)
  where
    none : (row : ℕ) → slice_get (flags_without notes flags) row ≡ Some true → ⊥
    none row is =
        let before = without_set notes flags row is in
        let has = flagged row before.0 in
        never (sym before.1 ∙ any_when (is_of_row row has.0) (λ (n : Note). n.row == row) (λ n both. first (n.row == row) (same_name n.name has.0) both) notes has.1)
      where
        never : false ≡ true → ⊥
        never same = cc

        first : (a b : Bool) → (a && b) ≡ true → a ≡ true
        first true b both = refl
        first false b both = cc

-- the flags of a table are of notes
pub flagged_any : (names : List Name) (flags : List Bool) (notes : List Note) → length flags ≡ length names → AreFlagged names flags notes → (row : ℕ) → slice_get flags row ≡ Some true → (name : Name) × HasNote notes row name
flagged_any names flags notes sized flagged row is =
    let any : Name = record { period = 0; core = 0; index = 0 } in
    let inside : row < length names = omega (arith, slice_get_within flags row true is, sized) in
    (get_or names row any, flagged row (get_or names row any) (slice_get-get_or names row any inside) is)
