-- A round over a table: each clause is noted or quiet, and what is left for the next round.
use Rattle.std.proofs.Common.{◌≡◌, ◌⊎◌, ℕ, zero, suc, ◌*◌, ◌/◌, ◌<◌, ◌≤◌, Bool, true, false, ◌||◌, List, [], ◌∷◌, ◌++◌, length, get_or, refl, inl, inr, ap, sym, ◌∙◌, subst, arith, append_assoc, All}
use Rattle.std.specs.Prelude.{Option, Some, None, IfSome, slice_get, if◌then◌else◌}
use Rattle.std.specs.List.{list_any, AllByRecursion}
use Rattle.std.specs.List.Sorted.{IsPermutation}
use Rattle.std.proofs.lemmas.Bool.{cases_Bool}
use Rattle.std.proofs.lemmas.List.Sorted.{list_any-IsPermutation}
use Rattle.std.proofs.lemmas.Option.{same_Some, slice_get-get_or, slice_get_within}
use Rattle.lit_base.specs.Literal.{Literal, same, IsWithin}
use Rattle.lit_base.specs.Trail.{is_true, is_false, is_free, level_now}
use Rattle.lit_base.specs.Named.{lits_at, same_name}
use Rattle.lit_base.specs.Held.{is_among}
use Rattle.lit_base.specs.Rounds.{NamedClause, with_unit}
use Rattle.lit_base.specs.Fits.{HasDistinctVariables, FindsAll}
use Rattle.lit_base.specs.Quiet.{IsQuiet, IsOneOf}
use Rattle.lit_base.specs.declared.trail.Entry.{Entry}
use Rattle.lit_base.specs.declared.name.Name.{Name}
use Rattle.lit_base.proofs.DistinctLits.{same-true}
use Rattle.lit_base.proofs.HeldClauses.{same_name-true, same_name-itself}
use Rattle.lit_base.proofs.Known.{any_when}
use Rattle.lit_base.proofs.PropagationFits.{implied_extends}
use Rattle.lit_base.proofs.Standing.{Extends}
use Rattle.round_prop.specs.declared.note.Note.{Note}
use Rattle.round_prop.specs.Linked.{IsPart, IsGuarded, IsLinked, IsPending}
use Rattle.round_prop.specs.Noting.{Tells, IsNoteOf, AreNotesOf, IsNoted, is_of_row, AreFlagged, is_lost, with_noted, lost_notes}
use Rattle.round_prop.specs.Readied.{flip, IsRow, AreRows, IsCovered}
use Rattle.round_prop.proofs.LinkSteps.{not_both, guarded_quiet, true_quiet, guarded_later, noted_later, answered}
use Rattle.round_prop.proofs.NotedRound.{AreNotedOrQuiet, with_unit-extends, taken_after, taken_later}
use Rattle.round_prop.proofs.OlderParts.{part_extends, part_itself, true_extends, taken_either}
use Rattle.round_prop.proofs.TableSteps.{lits_within, one_within}
use Rattle.round_prop.proofs.WalkSteps.{flip_within}

-- a name that is among others has a place
pub place_among : (names : List Name) (name : Name) → is_among names name ≡ true → (i : ℕ) × (slice_get names i ≡ Some name)
place_among [] name is = cc
place_among (n ∷ later) name is = by_test (cases_Bool (same_name n name)) (place_among later name)
  where
    second : (a b : Bool) → a ≡ false → (a || b) ≡ true → b ≡ true
    second true b one either = cc
    second false b one either = either

    by_test : (same_name n name ≡ true) ⊎ (same_name n name ≡ false) → (is_among later name ≡ true → (i : ℕ) × (slice_get later i ≡ Some name)) → (i : ℕ) × (slice_get (n ∷ later) i ≡ Some name)
    by_test (inl one) rest = (0, ap (λ m. Some m) (same_name-true n name one))
    by_test (inr other) rest = let found = rest (second (same_name n name) (is_among later name) other is) in (suc found.0, found.1)

pub not_late : (trail : List Entry) (lits : List Literal) (a b : Literal) → IsPending trail trail lits a b → ⊥
not_late trail lits a b (inl one) = not_both (is_false trail a) one.late.now one.late.before
not_late trail lits a b (inr two) = not_both (is_false trail b) two.late.now two.late.before

-- the row of a name
module _ (clauses : List NamedClause) (trail done : List Entry) (notes : List Note) (names : List Name) (lits : List Literal) (sized : length lits ≡ 2 * length names) (rows : AreRows clauses trail done notes names lits) where
  pub record HasRow (name : Name) : Type 0 where
    pub a : Literal
    pub b : Literal
    pub row : IsRow clauses trail done notes name a b

  pub row_named : (name : Name) → is_among names name ≡ true → HasRow name
  row_named name among =
      let place = place_among names name among in
      let any : Literal = record { variable = 0; positive = true } in
      let inside : place.0 < length names = slice_get_within names place.0 name place.1 in
      let half : 2 * place.0 / 2 ≡ place.0 = omega arith in
      let first : 2 * place.0 < length lits = omega (arith, inside, sized) in
      let second : flip (2 * place.0) < length lits = omega (arith, flip_within (2 * place.0) (length names) (omega (arith, inside)), sized) in
      record {
        a = get_or lits (2 * place.0) any;
        b = get_or lits (flip (2 * place.0)) any;
        row = rows (2 * place.0) name (get_or lits (2 * place.0) any) (get_or lits (flip (2 * place.0)) any) (ap (λ i. slice_get names i) half ∙ place.1)
            (slice_get-get_or lits (2 * place.0) any first) (slice_get-get_or lits (flip (2 * place.0)) any second);
      }

-- when all lists were walked each clause is noted or quiet
pub noted_or_quiet : (clauses : List NamedClause) (trail : List Entry) (notes : List Note) (names : List Name) (lits : List Literal) → length lits ≡ 2 * length names → AreRows clauses trail trail notes names lits →
    (some : List NamedClause) → FindsAll (lits_at clauses) some → AllByRecursion (IsCovered trail notes names) some → AreNotedOrQuiet trail notes some
noted_or_quiet clauses trail notes names lits sized rows [] finds covered = tt
noted_or_quiet clauses trail notes names lits sized rows (c ∷ later) finds covered = (by_cover covered.0, noted_or_quiet clauses trail notes names lits sized rows later finds.1 covered.1)
  where
    by_met : (row : HasRow clauses trail trail notes names lits sized rows c.name) → row.row.lits ≡ c.lits →
        (IsLinked trail row.row.lits row.a row.b × (IsGuarded trail row.a row.b ⊎ IsNoted notes c.name)) ⊎ IsPending trail trail row.row.lits row.a row.b → IsNoted notes c.name ⊎ IsQuiet trail c.lits
    by_met row is (inl (linked, inl guarded)) = inr (subst (λ ls. IsQuiet trail ls) is (guarded_quiet trail row.row.lits row.a row.b row.row.pair guarded))
    by_met row is (inl (linked, inr noted)) = inl noted
    by_met row is (inr pending) = absurd (not_late trail row.row.lits row.a row.b pending)

    by_cover : IsCovered trail notes names c → IsNoted notes c.name ⊎ IsQuiet trail c.lits
    by_cover (inl among) =
        let row = row_named clauses trail trail notes names lits sized rows c.name among in
        by_met row (same_Some row.row.lits c.lits (sym row.row.found ∙ finds.0)) row.row.met
    by_cover (inr (inl noted)) = inl noted
    by_cover (inr (inr some)) = inr (true_quiet trail c.lits some)

-- the same notes in another order
module _ (notes sorted : List Note) (permuted : IsPermutation notes sorted) where
  pub noted_sorted : (name : Name) → IsNoted notes name → IsNoted sorted name
  noted_sorted name noted = sym (list_any-IsPermutation (λ (n : Note). same_name n.name name) notes sorted permuted) ∙ noted

  pub flagged_sorted : (names : List Name) (flags : List Bool) → AreFlagged names flags notes → AreFlagged names flags sorted
  flagged_sorted names flags flagged row name at set_now = sym (list_any-IsPermutation (is_of_row row name) notes sorted permuted) ∙ flagged row name at set_now

-- the trail behind a round
pub noted_front : (notes : List Note) (trail : List Entry) → IsPart (with_noted notes trail) trail
noted_front [] trail = part_itself trail
noted_front (n ∷ later) trail = by_unit n.lit (noted_front later)
  where
    one_more : (front : List Entry) (e : Entry) (t : List Entry) → IsPart front (e ∷ t) → IsPart front t
    one_more front e t part = record { newer = part.newer ++ e ∷ []; front = part.front ∙ sym (append_assoc part.newer (e ∷ []) t) }

    by_unit : (o : Option Literal) → ((t : List Entry) → IsPart (with_noted later t) t) → IsPart (with_noted later (with_unit n.name o trail)) trail
    by_unit None rest = rest trail
    by_unit (Some l) rest = by_test (is_free trail l.variable)
      where
        by_test : (b : Bool) → IsPart (with_noted later (if b then (record { lit = l; level = level_now trail; reason = Some n.name }) ∷ trail else trail)) trail
        by_test true = one_more (with_noted later ((record { lit = l; level = level_now trail; reason = Some n.name }) ∷ trail)) (record { lit = l; level = level_now trail; reason = Some n.name }) trail (rest ((record { lit = l; level = level_now trail; reason = Some n.name }) ∷ trail))
        by_test false = rest trail

noted_extends : (notes : List Note) (snapshot trail : List Entry) → Extends snapshot trail → Extends snapshot (with_noted notes trail)
noted_extends [] snapshot trail extends = extends
noted_extends (n ∷ later) snapshot trail extends = noted_extends later snapshot (with_unit n.name n.lit trail) (with_unit-extends n.name n.lit snapshot trail extends)

-- on it the variable of each note has a value
abbrev IsTaken : List Entry → Note → Type 0
IsTaken after n = (l : Literal) → n.lit ≡ Some l → is_free after l.variable ≡ false

all_taken_by : (notes : List Note) (trail after : List Entry) → Extends (with_noted notes trail) after → AllByRecursion (IsTaken after) notes
all_taken_by [] trail after extends = tt
all_taken_by (n ∷ later) trail after extends = (first, all_taken_by later (with_unit n.name n.lit trail) after extends)
  where
    first : IsTaken after n
    first l is =
        let mid = with_unit n.name n.lit trail in
        taken_later mid after l.variable (λ v sign found. extends v sign (noted_extends later mid mid (λ w s f. f) v sign found))
        (subst (λ o. is_free (with_unit n.name o trail) l.variable ≡ false) (sym is) (taken_after n.name l trail))

pub all_taken : (notes : List Note) (trail : List Entry) → AllByRecursion (IsTaken (with_noted notes trail)) notes
all_taken notes trail = all_taken_by notes trail (with_noted notes trail) (λ v sign found. found)

-- a note of the name, with what holds of all, which is kept if its clause is falsified
record NoteFound (P : Note → Type 0) (after : List Entry) (notes : List Note) (name : Name) : Type 0 where
  note : Note
  holds : P note
  named : note.name ≡ name
  kept : is_lost after note.lit ≡ true → IsNoted (lost_notes after notes) name

note_found : (P : Note → Type 0) (after : List Entry) (notes : List Note) (name : Name) → AllByRecursion P notes → IsNoted notes name → NoteFound P after notes name
note_found P after [] name all noted = absurd (never noted)
  where
    never : false ≡ true → ⊥
    never is = cc
note_found P after (n ∷ later) name all noted = by_test (cases_Bool (same_name n.name name)) (note_found P after later name all.1)
  where
    second : (a b : Bool) → a ≡ false → (a || b) ≡ true → b ≡ true
    second true b one either = cc
    second false b one either = either

    right : (b : Bool) → (b || true) ≡ true
    right true = refl
    right false = refl

    by_test : (same_name n.name name ≡ true) ⊎ (same_name n.name name ≡ false) → (IsNoted later name → NoteFound P after later name) → NoteFound P after (n ∷ later) name
    by_test (inl one) rest = record {
      note = n;
      holds = all.0;
      named = same_name-true n.name name one;
      kept = λ lost. subst (λ b. IsNoted (if b then n ∷ lost_notes after later else lost_notes after later) name) (sym lost) (ap (λ b. b || list_any (λ (m : Note). same_name m.name name) (lost_notes after later)) one);
    }
    by_test (inr other) rest = let found = rest (second (same_name n.name name) (list_any (λ (m : Note). same_name m.name name) later) other noted) in record {
      note = found.note;
      holds = found.holds;
      named = found.named;
      kept = λ lost. by_first (is_lost after n.lit) (found.kept lost);
    }
      where
        by_first : (b : Bool) → IsNoted (lost_notes after later) name → IsNoted (if b then n ∷ lost_notes after later else lost_notes after later) name
        by_first true noted_later_on = ap (λ c. same_name n.name name || c) noted_later_on ∙ right (same_name n.name name)
        by_first false noted_later_on = noted_later_on

both_hold : {X : Type 0} (P Q : X → Type 0) (xs : List X) → AllByRecursion P xs → AllByRecursion Q xs → AllByRecursion (λ x. P x × Q x) xs
both_hold P Q [] one two = tt
both_hold P Q (x ∷ later) one two = ((one.0, two.0), both_hold P Q later one.1 two.1)

-- what a round without a conflict leaves for the next
module _ (clauses : List NamedClause) (trail : List Entry) (notes : List Note) (names : List Name) (lits : List Literal) (distinct : HasDistinctVariables (with_noted notes trail)) (sound : AreNotesOf trail clauses notes) where
  abbrev after : List Entry
  after = with_noted notes trail

  extends : Extends trail after
  extends = part_extends after trail distinct (noted_front notes trail)

  found_note : (name : Name) → IsNoted notes name → NoteFound (λ n. IsNoteOf trail clauses n × IsTaken after n) after notes name
  found_note name noted = note_found (λ n. IsNoteOf trail clauses n × IsTaken after n) after notes name (both_hold (IsNoteOf trail clauses) (IsTaken after) notes sound (all_taken notes trail)) noted

  pub rows_after : AreRows clauses trail trail notes names lits → AreRows clauses after trail (lost_notes after notes) names lits
  rows_after rows n name a b named own other = by_row (rows n name a b named own other)
    where
      by_guard : (row : IsRow clauses trail trail notes name a b) → (IsLinked after row.lits a b × IsGuarded after a b) ⊎ IsPending after trail row.lits a b → (IsLinked after row.lits a b × (IsGuarded after a b ⊎ IsNoted (lost_notes after notes) name)) ⊎ IsPending after trail row.lits a b
      by_guard row (inl right) = inl (right.0, inl right.1)
      by_guard row (inr pending) = inr pending

      by_lit : (row : IsRow clauses trail trail notes name a b) → IsLinked trail row.lits a b → (o : Option Literal) → Tells trail o row.lits → ((l : Literal) → o ≡ Some l → is_free after l.variable ≡ false) →
          (is_lost after o ≡ true → IsNoted (lost_notes after notes) name) → (IsLinked after row.lits a b × (IsGuarded after a b ⊎ IsNoted (lost_notes after notes) name)) ⊎ IsPending after trail row.lits a b
      by_lit row linked None tells taken kept = absurd (never (subst (λ ls. IsOneOf ls a) tells row.pair.first))
        where
          never : false ≡ true → ⊥
          never is = cc
      by_lit row linked (Some m) tells taken kept = by_value (taken_either after m (taken m refl))
        where
          still : IsLinked after row.lits a b
          still = noted_later trail after row.lits a b m distinct (noted_front notes trail) row.pair linked tells

          by_value : (is_true after m ≡ true) ⊎ (is_false after m ≡ true) → (IsLinked after row.lits a b × (IsGuarded after a b ⊎ IsNoted (lost_notes after notes) name)) ⊎ IsPending after trail row.lits a b
          by_value (inl holds) = inl (still, inl (answered trail after row.lits a b m distinct (noted_front notes trail) row.pair linked tells holds))
          by_value (inr lost) = inl (still, inr (kept lost))

      by_met : (row : IsRow clauses trail trail notes name a b) → (IsLinked trail row.lits a b × (IsGuarded trail a b ⊎ IsNoted notes name)) ⊎ IsPending trail trail row.lits a b → (IsLinked after row.lits a b × (IsGuarded after a b ⊎ IsNoted (lost_notes after notes) name)) ⊎ IsPending after trail row.lits a b
      by_met row (inl (linked, inl guarded)) = by_guard row (guarded_later trail after row.lits a b distinct (noted_front notes trail) linked guarded)
      by_met row (inl (linked, inr noted)) =
          let found = found_note name noted in
          let of_note : IsNoteOf trail clauses found.note = found.holds.0 in
          let same_lits : of_note.lits ≡ row.lits = same_Some of_note.lits row.lits (sym of_note.found ∙ (ap (λ k. lits_at clauses k) found.named ∙ row.found)) in
          by_lit row linked found.note.lit (subst (λ ls. Tells trail found.note.lit ls) same_lits of_note.tells) found.holds.1 found.kept
      by_met row (inr pending) = absurd (not_late trail row.lits a b pending)

      by_row : IsRow clauses trail trail notes name a b → IsRow clauses after trail (lost_notes after notes) name a b
      by_row row = record { lits = row.lits; found = row.found; pair = row.pair; met = by_met row row.met }

  note_later : (n : Note) → IsNoteOf trail clauses n → IsNoteOf after clauses n
  note_later n note = record { lits = note.lits; found = note.found; tells = by_lit n.lit note.tells }
    where
      by_lit : (o : Option Literal) → Tells trail o note.lits → Tells after o note.lits
      by_lit None tells = tells
      by_lit (Some l) tells = implied_extends trail after l note.lits extends tells

  kept_sound : (some : List Note) → AreNotesOf trail clauses some → AreNotesOf after clauses (lost_notes after some)
  kept_sound [] all = tt
  kept_sound (n ∷ later) all = by_test (is_lost after n.lit) (kept_sound later all.1)
    where
      by_test : (b : Bool) → AreNotesOf after clauses (lost_notes after later) → AreNotesOf after clauses (if b then n ∷ lost_notes after later else lost_notes after later)
      by_test true rest = (note_later n all.0, rest)
      by_test false rest = rest

  pub sound_after : AreNotesOf after clauses (lost_notes after notes)
  sound_after = kept_sound notes sound

  pub covered_after : (some : List NamedClause) → FindsAll (lits_at clauses) some → AllByRecursion (IsCovered trail notes names) some → AllByRecursion (IsCovered after (lost_notes after notes) names) some
  covered_after [] finds covered = tt
  covered_after (c ∷ later) finds covered = (by_cover covered.0, covered_after later finds.1 covered.1)
    where
      by_lit : (o : Option Literal) → Tells trail o c.lits → ((l : Literal) → o ≡ Some l → is_free after l.variable ≡ false) → (is_lost after o ≡ true → IsNoted (lost_notes after notes) c.name) → IsCovered after (lost_notes after notes) names c
      by_lit None tells taken kept = inr (inl (kept refl))
      by_lit (Some m) tells taken kept = by_value (taken_either after m (taken m refl))
        where
          by_value : (is_true after m ≡ true) ⊎ (is_false after m ≡ true) → IsCovered after (lost_notes after notes) names c
          by_value (inl holds) = inr (inr (any_when (λ k. same k m) (λ k. is_true after k) (λ k is. subst (λ j. is_true after j ≡ true) (sym (same-true k m is)) holds) c.lits tells.held))
          by_value (inr lost) = inr (inl (kept lost))

      by_cover : IsCovered trail notes names c → IsCovered after (lost_notes after notes) names c
      by_cover (inl among) = inl among
      by_cover (inr (inl noted)) =
          let found = found_note c.name noted in
          let of_note : IsNoteOf trail clauses found.note = found.holds.0 in
          let same_lits : of_note.lits ≡ c.lits = same_Some of_note.lits c.lits (sym of_note.found ∙ (ap (λ k. lits_at clauses k) found.named ∙ finds.0)) in
          by_lit found.note.lit (subst (λ ls. Tells trail found.note.lit ls) same_lits of_note.tells) found.holds.1 found.kept
      by_cover (inr (inr some_true)) = inr (inr (any_when (λ k. is_true trail k) (λ k. is_true after k) (λ k is. true_extends trail after k extends is) c.lits some_true))

-- notes are within the variables
pub notes_within : (n : ℕ) (trail : List Entry) (clauses : List NamedClause) (notes : List Note) → All (λ (c : NamedClause). All (IsWithin n) c.lits) clauses → AreNotesOf trail clauses notes →
    AllByRecursion (λ (k : Note). IfSome k.lit (λ l. l.variable ≤ n)) notes
notes_within n trail clauses [] within all = tt
notes_within n trail clauses (k ∷ later) within all = (by_lit k.lit note.tells, notes_within n trail clauses later within all.1)
  where
    note : IsNoteOf trail clauses k
    note = all.0

    by_lit : (o : Option Literal) → Tells trail o note.lits → IfSome o (λ l. l.variable ≤ n)
    by_lit None tells = tt
    by_lit (Some l) tells = (one_within n note.lits l (lits_within n clauses k.name note.lits within note.found) tells.held).1

-- the note of a name whose literals are known
pub note_at : (clauses : List NamedClause) (trail : List Entry) (notes : List Note) (name : Name) (lits : List Literal) → AreNotesOf trail clauses notes → IsNoted notes name → lits_at clauses name ≡ Some lits →
    (o : Option Literal) × Tells trail o lits
note_at clauses trail notes name lits sound noted found =
    let one = note_found (IsNoteOf trail clauses) trail notes name sound noted in
    let note : IsNoteOf trail clauses one.note = one.holds in
    (one.note.lit, subst (λ ls. Tells trail one.note.lit ls) (same_Some note.lits lits (sym note.found ∙ (ap (λ k. lits_at clauses k) one.named ∙ found))) note.tells)

-- a name at a place is among the names
pub among_at : (names : List Name) (i : ℕ) (name : Name) → slice_get names i ≡ Some name → is_among names name ≡ true
among_at [] i name is = absurd (none is)
  where
    none : {X : Type 0} {x : X} → None ≡ Some x → ⊥
    none same_option = cc
among_at (n ∷ later) zero name is = ap (λ b. b || is_among later name) (subst (λ k. same_name n k ≡ true) (same_Some n name is) (same_name-itself n))
among_at (n ∷ later) (suc i) name is = right (same_name n name) (is_among later name) (among_at later i name is)
  where
    right : (a b : Bool) → b ≡ true → (a || b) ≡ true
    right true b one = refl
    right false b one = one
