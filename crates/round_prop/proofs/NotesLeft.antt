-- What holds of the notes that are left, and of the flags, when rows have left.
use Rattle.std.proofs.Common.{◌≡◌, ◌⊎◌, inl, inr, ℕ, zero, suc, ◌+◌, ◌<◌, ◌≤◌, ◌==◌, ◌||◌, ◌&&◌, Bool, true, false, cond, not, List, [], ◌∷◌, length, refl, ap, sym, ◌∙◌, subst, arith}
use Rattle.std.specs.Prelude.{⊤, Option, Some, None, slice_get, map, filter, nat_lt, if◌then◌else◌}
use Rattle.std.specs.List.{list_any}
use Rattle.std.proofs.lemmas.Bool.{cases_Bool, both_ways, cond_both, and_parts, and_from, eq-eqb, eqb-true, lt-ltb, not-true}
use Rattle.std.proofs.lemmas.List.{length-map}
use Rattle.std.proofs.lemmas.Option.{same_Some, slice_get_within}
use Rattle.lit_base.specs.Literal.{Literal}
use Rattle.lit_base.specs.Named.{same_name, lits_at}
use Rattle.lit_base.specs.Held.{is_among, clauses_without}
use Rattle.lit_base.specs.Rounds.{NamedClause}
use Rattle.lit_base.specs.declared.trail.Entry.{Entry}
use Rattle.lit_base.specs.declared.name.Name.{Name}
use Rattle.lit_base.proofs.HeldClauses.{same_name-itself, same_name-true}
use Rattle.lit_base.proofs.Known.{any_when}
use Rattle.round_prop.specs.declared.note.Note.{Note}
use Rattle.round_prop.specs.declared.row.Row.{Row}
use Rattle.round_prop.specs.Noting.{Tells, IsNoted, AreNotesOf, HasNote, is_of_row, AreFlagged, clear_count, load_of}
use Rattle.round_prop.specs.Readied.{row_names, AreNamedApart}
use Rattle.round_prop.specs.Removal.{stays, kept_rows, kept_items, row_of, placed}
use Rattle.round_prop.proofs.Removed.{found_still}

none-some : {X : Type 0} {x : X} → None ≡ Some x → ⊥
none-some is = cc

-- the notes of other names than these, each with its row among those that are left
abbrev pub notes_left : List Name → List Row → ℕ → List Note → List Note
notes_left names rows count notes = map (placed rows count) (filter (λ (n : Note). not (is_among names n.name)) notes)

placed_name : (rows : List Row) (count : ℕ) (n : Note) → (placed rows count n).name ≡ n.name
placed_name rows count n = by_test (nat_lt n.row count)
  where
    by_test : (b : Bool) → (cond b (record n { row = row_of n.name 0 rows }) n).name ≡ n.name
    by_test true = refl
    by_test false = refl

placed_lit : (rows : List Row) (count : ℕ) (n : Note) → (placed rows count n).lit ≡ n.lit
placed_lit rows count n = by_test (nat_lt n.row count)
  where
    by_test : (b : Bool) → (cond b (record n { row = row_of n.name 0 rows }) n).lit ≡ n.lit
    by_test true = refl
    by_test false = refl

placed_row : (rows : List Row) (count : ℕ) (n : Note) → nat_lt n.row count ≡ true → (placed rows count n).row ≡ row_of n.name 0 rows
placed_row rows count n inside = ap (λ (b : Bool). let m : Note = if b then record n { row = row_of n.name 0 rows } else n in m.row) inside

-- a test that a note of a name that stays passes is passed still
any_left : (names : List Name) (rows : List Row) (count : ℕ) (p q : Note → Bool) → ((n : Note) → p n ≡ true → (is_among names n.name ≡ false) × (q (placed rows count n) ≡ true)) → (notes : List Note) →
    list_any p notes ≡ true → list_any q (notes_left names rows count notes) ≡ true
any_left names rows count p q step [] some = absurd (both_ways false refl some)
any_left names rows count p q step (n ∷ later) some = by_test (any_left names rows count p q step later) (cases_Bool (p n))
  where
    rest_of : list_any q (notes_left names rows count later) ≡ true → list_any q (notes_left names rows count (n ∷ later)) ≡ true
    rest_of rest =
        cond_both (not (is_among names n.name)) (n ∷ filter (λ (m : Note). not (is_among names m.name)) later) (filter (λ (m : Note). not (is_among names m.name)) later)
        (λ ns. list_any q (map (placed rows count) ns) ≡ true) (λ kept. either (q (placed rows count n)) (list_any q (notes_left names rows count later)) rest) (λ left. rest)
      where
        either : (a b : Bool) → b ≡ true → (a || b) ≡ true
        either true b is = refl
        either false b is = is

    by_test : (list_any p later ≡ true → list_any q (notes_left names rows count later) ≡ true) → (p n ≡ true) ⊎ (p n ≡ false) → list_any q (notes_left names rows count (n ∷ later)) ≡ true
    by_test rest (inl here) =
        let is = step n here in
        ap (λ (b : Bool). list_any q (map (placed rows count) (cond (not b) (n ∷ filter (λ (m : Note). not (is_among names m.name)) later) (filter (λ (m : Note). not (is_among names m.name)) later)))) is.0
        ∙ ap (λ b. b || list_any q (notes_left names rows count later)) is.1
    by_test rest (inr other) = rest_of (rest (sym (ap (λ b. b || list_any p later) other) ∙ some))

-- what was noted under a name that stays is noted still
pub noted_left : (names : List Name) (rows : List Row) (count : ℕ) (notes : List Note) (name : Name) → is_among names name ≡ false → IsNoted notes name → IsNoted (notes_left names rows count notes) name
noted_left names rows count notes name kept noted =
    any_left names rows count (λ (n : Note). same_name n.name name) (λ (n : Note). same_name n.name name)
    (λ n is. (subst (λ m. is_among names m ≡ false) (sym (same_name-true n.name name is)) kept, ap (λ m. same_name m name) (placed_name rows count n) ∙ is)) notes noted

-- the notes that are left are true of the clauses that are left
pub sound_left : (trail : List Entry) (clauses : List NamedClause) (names : List Name) (rows : List Row) (count : ℕ) (notes : List Note) → AreNotesOf trail clauses notes →
    AreNotesOf trail (clauses_without names clauses) (notes_left names rows count notes)
sound_left trail clauses names rows count [] sound = tt
sound_left trail clauses names rows count (n ∷ later) sound =
    cond_both (not (is_among names n.name)) (n ∷ filter (λ (m : Note). not (is_among names m.name)) later) (filter (λ (m : Note). not (is_among names m.name)) later)
    (λ ns. AreNotesOf trail (clauses_without names clauses) (map (placed rows count) ns))
    (λ kept. (
      record {
        lits = sound.0.lits;
        found = ap (λ m. lits_at (clauses_without names clauses) m) (placed_name rows count n) ∙ found_still names clauses n.name sound.0.lits (not-true (is_among names n.name) kept) sound.0.found;
        tells = subst (λ (o : Option Literal). Tells trail o sound.0.lits) (sym (placed_lit rows count n)) sound.0.tells;
      },
      sound_left trail clauses names rows count later sound.1,
    ))
    (λ left. sound_left trail clauses names rows count later sound.1)

-- the rows whose flags are set
abbrev EachFlag : (Name → Type 0) → List Row → List Bool → Type 0
EachFlag P [] flags = ⊤
EachFlag P (row ∷ later) [] = ⊤
EachFlag P (row ∷ later) (flag ∷ flags) = (flag ≡ true → P row.name) × EachFlag P later flags

each_flag : (P : Name → Type 0) (rows : List Row) (flags : List Bool) → ((k : ℕ) (name : Name) → slice_get (row_names rows) k ≡ Some name → slice_get flags k ≡ Some true → P name) → EachFlag P rows flags
each_flag P [] flags at = tt
each_flag P (row ∷ later) [] at = tt
each_flag P (row ∷ later) (flag ∷ flags) at = (λ is. at 0 row.name refl (ap (λ b. Some b) is), each_flag P later flags (λ k name named is. at (suc k) name named is))

flag_at : (P : Name → Type 0) (rows : List Row) (flags : List Bool) → EachFlag P rows flags → (k : ℕ) (name : Name) → slice_get (row_names rows) k ≡ Some name → slice_get flags k ≡ Some true → P name
flag_at P [] flags each k name named is = absurd (none-some named)
flag_at P (row ∷ later) [] each k name named is = absurd (none-some is)
flag_at P (row ∷ later) (flag ∷ flags) each zero name named is = subst P (same_Some row.name name named) (each.0 (same_Some flag true is))
flag_at P (row ∷ later) (flag ∷ flags) each (suc k) name named is = flag_at P later flags each.1 k name named is

flags_kept : (P Q : Name → Type 0) (names : List Name) → ((name : Name) → is_among names name ≡ false → P name → Q name) → (rows : List Row) (flags : List Bool) → EachFlag P rows flags →
    EachFlag Q (kept_rows names rows) (kept_items names rows flags)
flags_kept P Q names step [] flags each = tt
flags_kept P Q names step (row ∷ later) [] each = none_set (kept_rows names (row ∷ later))
  where
    none_set : (rows : List Row) → EachFlag Q rows []
    none_set [] = tt
    none_set (r ∷ rs) = tt
flags_kept P Q names step (row ∷ later) (flag ∷ flags) each = by_test (stays names row) refl (flags_kept P Q names step later flags each.1)
  where
    by_test : (d : Bool) → stays names row ≡ d → EachFlag Q (kept_rows names later) (kept_items names later flags) →
        EachFlag Q (cond d (row ∷ kept_rows names later) (kept_rows names later)) (cond d (flag ∷ kept_items names later flags) (kept_items names later flags))
    by_test true kept rest = (λ is. step row.name (not-true (is_among names row.name) kept) (each.0 is), rest)
    by_test false left rest = rest

-- a name that stands at a row is first found at one of that name
row_found : (name : Name) (at k : ℕ) (rows : List Row) → slice_get (row_names rows) k ≡ Some name → (j : ℕ) × ((row_of name at rows ≡ at + j) × (slice_get (row_names rows) j ≡ Some name))
row_found name at k [] named = absurd (none-some named)
row_found name at zero (row ∷ later) named =
    (0, (ap (λ (b : Bool). let r : ℕ = if b then at else row_of name (at + 1) later in r) (subst (λ m. same_name row.name m ≡ true) (same_Some row.name name named) (same_name-itself row.name)) ∙ omega arith, named))
row_found name at (suc k) (row ∷ later) named = by_test (same_name row.name name) refl (row_found name (at + 1) k later named)
  where
    by_test : (b : Bool) → same_name row.name name ≡ b → (j : ℕ) × ((row_of name (at + 1) later ≡ at + 1 + j) × (slice_get (row_names later) j ≡ Some name)) →
        (j : ℕ) × ((cond b at (row_of name (at + 1) later) ≡ at + j) × (slice_get (row_names (row ∷ later)) j ≡ Some name))
    by_test true here rest = (0, (omega arith, ap (λ m. Some m) (same_name-true row.name name here)))
    by_test false other (j, (is, there)) = (suc j, (omega (arith, is), there))

row_is : (name : Name) (k : ℕ) (rows : List Row) → AreNamedApart (row_names rows) → slice_get (row_names rows) k ≡ Some name → row_of name 0 rows ≡ k
row_is name k rows apart named =
    let found = row_found name 0 k rows named in
    let same = apart found.0 k name found.1.1 named in
    omega (arith, found.1.0, same)

-- a note of one of so many rows is there, under this name
abbrev HasPlace : List Note → ℕ → Name → Type 0
HasPlace notes count name = list_any (λ (n : Note). nat_lt n.row count && same_name n.name name) notes ≡ true

has_place : (notes : List Note) (row count : ℕ) (name : Name) → row < count → HasNote notes row name → HasPlace notes count name
has_place notes row count name inside has =
    any_when (is_of_row row name) (λ (n : Note). nat_lt n.row count && same_name n.name name)
    (λ n is. let both = and_parts (n.row == row) (same_name n.name name) is in
    and_from (nat_lt n.row count) (same_name n.name name) (lt-ltb n.row count (let e = eqb-true n.row row both.0 in omega (arith, e, inside))) both.1) notes has

-- each flag that is kept has its note
pub flagged_left : (names : List Name) (rows : List Row) (flags : List Bool) (notes : List Note) (count : ℕ) → length rows ≡ count → AreNamedApart (row_names (kept_rows names rows)) →
    AreFlagged (row_names rows) flags notes → AreFlagged (row_names (kept_rows names rows)) (kept_items names rows flags) (notes_left names (kept_rows names rows) count notes)
flagged_left names rows flags notes count long apart flagged k name named is =
    let both = flag_at Both (kept_rows names rows) (kept_items names rows flags) kept k name named is in
    any_left names (kept_rows names rows) count (λ (n : Note). nat_lt n.row count && same_name n.name name) (is_of_row k name)
    (λ n test.
    let parts = and_parts (nat_lt n.row count) (same_name n.name name) test in
    let same = same_name-true n.name name parts.1 in
    let at : (placed (kept_rows names rows) count n).row ≡ k = placed_row (kept_rows names rows) count n parts.0 ∙ (ap (λ m. row_of m 0 (kept_rows names rows)) same ∙ row_is name k (kept_rows names rows) apart named) in (
      subst (λ m. is_among names m ≡ false) (sym same) both.0,
      and_from ((placed (kept_rows names rows) count n).row == k) (same_name (placed (kept_rows names rows) count n).name name) (eq-eqb (placed (kept_rows names rows) count n).row k at)
          (ap (λ m. same_name m name) (placed_name (kept_rows names rows) count n) ∙ parts.1),
    ))
    notes both.1
  where
    Both : Name → Type 0
    Both m = (is_among names m ≡ false) × HasPlace notes count m

    within : (j : ℕ) (m : Name) → slice_get (row_names rows) j ≡ Some m → j < count
    within j m there = omega (arith, slice_get_within (row_names rows) j m there, length-map rows (λ (r : Row). r.name), long)

    kept : EachFlag Both (kept_rows names rows) (kept_items names rows flags)
    kept =
        flags_kept (HasPlace notes count) Both names (λ m stay has. (stay, has)) rows flags
        (each_flag (HasPlace notes count) rows flags (λ j m there set_now. has_place notes j count m (within j m there) (flagged j m there set_now)))

clear_kept : (names : List Name) (rows : List Row) (flags : List Bool) → clear_count (kept_items names rows flags) ≤ clear_count flags
clear_kept names [] flags = omega arith
clear_kept names (row ∷ later) [] = omega arith
clear_kept names (row ∷ later) (flag ∷ flags) = by_test (stays names row) (clear_kept names later flags)
  where
    by_test : (b : Bool) → clear_count (kept_items names later flags) ≤ clear_count flags → clear_count (cond b (flag ∷ kept_items names later flags) (kept_items names later flags)) ≤ clear_count (flag ∷ flags)
    by_test true rest = omega (arith, rest)
    by_test false rest = omega (arith, rest)

notes_fewer : (names : List Name) (notes : List Note) → length (filter (λ (n : Note). not (is_among names n.name)) notes) ≤ length notes
notes_fewer names [] = omega arith
notes_fewer names (n ∷ later) = by_test (not (is_among names n.name)) (notes_fewer names later)
  where
    by_test : (b : Bool) → length (filter (λ (m : Note). not (is_among names m.name)) later) ≤ length later →
        length (cond b (n ∷ filter (λ (m : Note). not (is_among names m.name)) later) (filter (λ (m : Note). not (is_among names m.name)) later)) ≤ length (n ∷ later)
    by_test true rest = omega (arith, rest)
    by_test false rest = omega (arith, rest)

-- for no more notes there has to be room
pub load_left : (names : List Name) (before rows : List Row) (count : ℕ) (notes : List Note) (flags : List Bool) → load_of (notes_left names rows count notes) (kept_items names before flags) ≤ load_of notes flags
load_left names before rows count notes flags =
    let long : length (notes_left names rows count notes) ≡ length (filter (λ (n : Note). not (is_among names n.name)) notes) =
    length-map (filter (λ (n : Note). not (is_among names n.name)) notes) (placed rows count) in
    omega (arith, long, notes_fewer names notes, clear_kept names before flags)
