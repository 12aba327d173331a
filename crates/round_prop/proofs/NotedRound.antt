-- A round from its notes: sorted by name, true of their clauses, and one at least for each clause that isn't quiet.
use Rattle.std.proofs.Common.{◌≡◌, ◌⊎◌, ℕ, Bool, true, false, cond, not, ◌&&◌, ◌||◌, List, [], ◌∷◌, ◌++◌, refl, inl, inr, ap, sym, ◌∙◌, subst}
use Rattle.std.specs.Prelude.{Option, Some, None, IsTrue, IsFalse, find, option_map, is_none}
use Rattle.std.specs.List.{list_any, list_all, AllByRecursion}
use Rattle.std.proofs.lemmas.Bool.{eq-eqb, cases_Bool, cond_both}
use Rattle.std.proofs.lemmas.Option.{same_Some}
use Rattle.std.proofs.lemmas.List.Folds.{list_any-append}
use Rattle.lit_base.specs.Literal.{Literal, same}
use Rattle.lit_base.specs.Trail.{is_false, is_free, sign_of, level_now}
use Rattle.lit_base.specs.Rounds.{NamedClause, is_falsified, only_free, unit_of, conflict_of, with_unit, with_units}
use Rattle.lit_base.specs.Named.{same_name, lits_at}
use Rattle.lit_base.specs.Held.{is_before, AreRisingBy}
use Rattle.lit_base.specs.Fits.{IsImplied}
use Rattle.lit_base.specs.Quiet.{IsQuiet}
use Rattle.lit_base.specs.declared.trail.Entry.{Entry}
use Rattle.lit_base.specs.declared.name.Name.{Name}
use Rattle.lit_base.proofs.DistinctLits.{same-true}
use Rattle.clause_pool.proofs.Order.{is_before-trans, is_before-other}
use Rattle.lit_base.proofs.HeldClauses.{same_name-true, lits_at-cons}
use Rattle.lit_base.proofs.NameOrder.{before_differs, not_before_itself}
use Rattle.lit_base.proofs.Standing.{Extends, newest_extends}
use Rattle.round_prop.specs.declared.note.Note.{Note}
use Rattle.round_prop.specs.Noting.{Tells, IsNoteOf, AreNotesOf, IsNoted, is_lost, conflict_in, with_noted, AreInOrder}

-- where all literals but one are false, they all are where that one is
falsified_by : (trail : List Entry) (l : Literal) (lits : List Literal) → is_false trail l ≡ true → list_all (λ m. is_false trail m || same m l) lits ≡ true → is_falsified trail lits ≡ true
falsified_by trail l [] lost others = refl
falsified_by trail l (k ∷ later) lost others = by_test (cases_Bool (is_false trail k)) (falsified_by trail l later lost)
  where
    by_test : (is_false trail k ≡ true) ⊎ (is_false trail k ≡ false) → (list_all (λ m. is_false trail m || same m l) later ≡ true → is_falsified trail later ≡ true) → is_falsified trail (k ∷ later) ≡ true
    by_test (inl is) rest = rw is (rest (and_second (is_false trail k || same k l) (list_all (λ m. is_false trail m || same m l) later) others))
      where
        and_second : (a b : Bool) → (a && b) ≡ true → b ≡ true
        and_second true b both = both
        and_second false b both = cc
    by_test (inr is) rest = absurd (apart (ap (λ m. is_false trail m) (same-true k l (only (is_false trail k) (same k l) (list_all (λ m. is_false trail m || same m l) later) is others))))
      where
        only : (a b rest : Bool) → a ≡ false → ((a || b) && rest) ≡ true → b ≡ true
        only true b rest is both = cc
        only false true rest is both = refl
        only false false rest is both = cc

        apart : is_false trail k ≡ is_false trail l → ⊥
        apart same_value = cc

not_falsified_by : (trail : List Entry) (l : Literal) (lits : List Literal) → is_false trail l ≡ false → list_any (λ m. same m l) lits ≡ true → is_falsified trail lits ≡ false
not_falsified_by trail l [] lives held = cc
not_falsified_by trail l (k ∷ later) lives held = by_test (cases_Bool (same k l)) (not_falsified_by trail l later lives)
  where
    by_test : (same k l ≡ true) ⊎ (same k l ≡ false) → (list_any (λ m. same m l) later ≡ true → is_falsified trail later ≡ false) → is_falsified trail (k ∷ later) ≡ false
    by_test (inl is) rest = ap (λ b. b && is_falsified trail later) (ap (λ m. is_false trail m) (same-true k l is) ∙ lives)
    by_test (inr other) rest = both (is_false trail k) (is_falsified trail later) (rest (second (same k l) (list_any (λ m. same m l) later) other held))
      where
        second : (a b : Bool) → a ≡ false → (a || b) ≡ true → b ≡ true
        second true b is either = cc
        second false b is either = either

        both : (a b : Bool) → b ≡ false → (a && b) ≡ false
        both true b is = is
        both false b is = refl

pub implied_falsified : (trail : List Entry) (l : Literal) (lits : List Literal) → IsImplied trail l lits → is_falsified trail lits ≡ is_false trail l
implied_falsified trail l lits implied = by_test (cases_Bool (is_false trail l))
  where
    by_test : (is_false trail l ≡ true) ⊎ (is_false trail l ≡ false) → is_falsified trail lits ≡ is_false trail l
    by_test (inl lost) = falsified_by trail l lits lost implied.others ∙ sym lost
    by_test (inr lives) = not_falsified_by trail l lits lives implied.held ∙ sym lives

-- it is the first that isn't false
find_only : (trail : List Entry) (l : Literal) (lits : List Literal) → is_false trail l ≡ false → list_any (λ m. same m l) lits ≡ true → list_all (λ m. is_false trail m || same m l) lits ≡ true →
    find (λ m. not (is_false trail m)) lits ≡ Some l
find_only trail l [] lives held others = cc
find_only trail l (k ∷ later) lives held others = by_test (cases_Bool (is_false trail k)) (find_only trail l later lives)
  where
    first_part : (a b rest : Bool) → a ≡ false → ((a || b) && rest) ≡ true → b ≡ true
    first_part true b rest is both = cc
    first_part false true rest is both = refl
    first_part false false rest is both = cc

    second_part : (a b : Bool) → (a && b) ≡ true → b ≡ true
    second_part true b both = both
    second_part false b both = cc

    second : (a b : Bool) → a ≡ false → (a || b) ≡ true → b ≡ true
    second true b is either = cc
    second false b is either = either

    other : is_false trail k ≡ true → (b : Bool) → same k l ≡ b → b ≡ false
    other lost true is = absurd (apart (ap (λ m. is_false trail m) (same-true k l is)))
      where
        apart : is_false trail k ≡ is_false trail l → ⊥
        apart same_value = cc
    other lost false is = refl

    by_test : (is_false trail k ≡ true) ⊎ (is_false trail k ≡ false) → (list_any (λ m. same m l) later ≡ true → list_all (λ m. is_false trail m || same m l) later ≡ true → find (λ m. not (is_false trail m)) later ≡ Some l) →
        find (λ m. not (is_false trail m)) (k ∷ later) ≡ Some l
    by_test (inl lost) rest =
        ap (λ b. cond (not b) (Some k) (find (λ m. not (is_false trail m)) later)) lost
        ∙ rest (second (same k l) (list_any (λ m. same m l) later) (other lost (same k l) refl) held) (second_part (is_false trail k || same k l) (list_all (λ m. is_false trail m || same m l) later) others)
    by_test (inr lives_too) rest =
        ap (λ b. cond (not b) (Some k) (find (λ m. not (is_false trail m)) later)) lives_too
        ∙ ap (λ m. Some m) (same-true k l (first_part (is_false trail k) (same k l) (list_all (λ m. is_false trail m || same m l) later) lives_too others))

pub implied_unit : (trail : List Entry) (l : Literal) (lits : List Literal) → IsImplied trail l lits → is_false trail l ≡ false → unit_of trail lits ≡ cond (is_free trail l.variable) (Some l) None
implied_unit trail l lits implied lives =
    ap (λ o. only_free trail lits o) (find_only trail l lits lives implied.held implied.others)
    ∙ ap (λ b. cond b (Some l) None) (ap (λ b. is_free trail l.variable && b) implied.others ∙ and_true (is_free trail l.variable))
  where
    and_true : (b : Bool) → (b && true) ≡ b
    and_true true = refl
    and_true false = refl

-- notes of one clause
abbrev pub AreOf : List Entry → NamedClause → List Note → Type 0
AreOf trail c notes = AllByRecursion (λ (n : Note). (n.name ≡ c.name) × Tells trail n.lit c.lits) notes

-- the notes fall into those of each clause in turn, and a clause without one is quiet
abbrev pub Spread : List Entry → List NamedClause → List Note → Type 0
Spread trail [] notes = notes ≡ []
Spread trail (c ∷ later) notes =
    (front : List Note) × (rest : List Note) × (notes ≡ front ++ rest) × AreOf trail c front × ((front ≡ [] → IsQuiet trail c.lits)) × Spread trail later rest

tells_falsified : (trail : List Entry) (o : Option Literal) (lits : List Literal) → Tells trail o lits → is_falsified trail lits ≡ is_lost trail o
tells_falsified trail None lits tells = ap (λ ls. is_falsified trail ls) tells
tells_falsified trail (Some l) lits tells = implied_falsified trail l lits tells

conflict_of-cons : (trail : List Entry) (c : NamedClause) (rest : List NamedClause) → conflict_of trail (c ∷ rest) ≡ cond (is_falsified trail c.lits) (Some c.name) (conflict_of trail rest)
conflict_of-cons trail c rest = by_test (is_falsified trail c.lits) (find (λ d. is_falsified trail d.lits) rest)
  where
    by_test : (b : Bool) (o : Option NamedClause) → option_map (λ (d : NamedClause). d.name) (cond b (Some c) o) ≡ cond b (Some c.name) (option_map (λ (d : NamedClause). d.name) o)
    by_test true o = refl
    by_test false o = refl

pub conflict_in-cons : (trail : List Entry) (n : Note) (rest : List Note) → conflict_in trail (n ∷ rest) ≡ cond (is_lost trail n.lit) (Some n.name) (conflict_in trail rest)
conflict_in-cons trail n rest = by_test (is_lost trail n.lit) (find (λ (m : Note). is_lost trail m.lit) rest)
  where
    by_test : (b : Bool) (o : Option Note) → option_map (λ (d : Note). d.name) (cond b (Some n) o) ≡ cond b (Some n.name) (option_map (λ (d : Note). d.name) o)
    by_test true o = refl
    by_test false o = refl

-- the first of these notes that is lost is any of them, where the clause is falsified
conflict_front : (trail : List Entry) (c : NamedClause) (front rest : List Note) → AreOf trail c front → is_falsified trail c.lits ≡ false → conflict_in trail (front ++ rest) ≡ conflict_in trail rest
conflict_front trail c [] rest are lives = refl
conflict_front trail c (n ∷ later) rest are lives =
    conflict_in-cons trail n (later ++ rest)
    ∙ (ap (λ b. cond b (Some n.name) (conflict_in trail (later ++ rest))) (sym (tells_falsified trail n.lit c.lits are.0.1) ∙ lives) ∙ conflict_front trail c later rest are.1 lives)

pub conflict_spread : (trail : List Entry) (clauses : List NamedClause) (notes : List Note) → Spread trail clauses notes → conflict_in trail notes ≡ conflict_of trail clauses
conflict_spread trail [] notes spread = ap (λ ns. conflict_in trail ns) spread
conflict_spread trail (c ∷ later) notes (front, rest, split, are, quiet, further) =
    by_front front split are quiet (conflict_spread trail later rest further)
  where
    by_test : (some : List Note) → notes ≡ some ++ rest → AreOf trail c some → (is_falsified trail c.lits ≡ true → conflict_in trail notes ≡ Some c.name) → conflict_in trail rest ≡ conflict_of trail later →
        (is_falsified trail c.lits ≡ true) ⊎ (is_falsified trail c.lits ≡ false) → conflict_in trail notes ≡ conflict_of trail (c ∷ later)
    by_test some is of here tail (inl lost) = here lost ∙ (sym (ap (λ b. cond b (Some c.name) (conflict_of trail later)) lost) ∙ sym (conflict_of-cons trail c later))
    by_test some is of here tail (inr lives) =
        ap (λ ns. conflict_in trail ns) is
        ∙ (conflict_front trail c some rest of lives ∙ (tail ∙ (sym (ap (λ b. cond b (Some c.name) (conflict_of trail later)) lives) ∙ sym (conflict_of-cons trail c later))))

    by_front : (some : List Note) → notes ≡ some ++ rest → AreOf trail c some → (some ≡ [] → IsQuiet trail c.lits) → conflict_in trail rest ≡ conflict_of trail later → conflict_in trail notes ≡ conflict_of trail (c ∷ later)
    by_front [] is of calm tail = by_test [] is of (λ lost. absurd (never lost (calm refl).not_falsified)) tail (cases_Bool (is_falsified trail c.lits))
      where
        never : is_falsified trail c.lits ≡ true → is_falsified trail c.lits ≡ false → ⊥
        never a b = cc
    by_front (n ∷ more) is of calm tail =
        by_test (n ∷ more) is of
        (λ lost. ap (λ ns. conflict_in trail ns) is ∙ (conflict_in-cons trail n (more ++ rest) ∙ (ap (λ b. cond b (Some n.name) (conflict_in trail (more ++ rest))) (sym (tells_falsified trail n.lit c.lits of.0.1) ∙ lost) ∙ ap (λ m. Some m) of.0.0)))
        tail (cases_Bool (is_falsified trail c.lits))

-- a literal whose variable has a value adds nothing
with_unit-taken : (name : Name) (l : Literal) (trail : List Entry) → is_free trail l.variable ≡ false → with_unit name (Some l) trail ≡ trail
with_unit-taken name l trail taken = ap (λ b. cond b ((record { lit = l; level = level_now trail; reason = Some name }) ∷ trail) trail) taken

-- once it is implied it has a value
pub taken_after : (name : Name) (l : Literal) (trail : List Entry) → is_free (with_unit name (Some l) trail) l.variable ≡ false
taken_after name l trail = by_test (cases_Bool (is_free trail l.variable))
  where
    by_test : (is_free trail l.variable ≡ true) ⊎ (is_free trail l.variable ≡ false) → is_free (with_unit name (Some l) trail) l.variable ≡ false
    by_test (inl free) =
        ap (λ b. is_free (cond b ((record { lit = l; level = level_now trail; reason = Some name }) ∷ trail) trail) l.variable) free
        ∙ ap (λ b. is_none (cond b (Some l.positive) (sign_of trail l.variable))) (eq-eqb l.variable l.variable refl)
    by_test (inr taken) = ap (λ t. is_free t l.variable) (with_unit-taken name l trail taken) ∙ taken

-- what is not free on the snapshot isn't free on a trail that grew from it
pub taken_later : (snapshot trail : List Entry) (v : ℕ) → Extends snapshot trail → is_free snapshot v ≡ false → is_free trail v ≡ false
taken_later snapshot trail v extends taken = by_sign (sign_of snapshot v) refl
  where
    by_sign : (o : Option Bool) → sign_of snapshot v ≡ o → is_free trail v ≡ false
    by_sign None is = absurd (never (ap is_none is))
      where
        never : is_free snapshot v ≡ true → ⊥
        never free = cc
    by_sign (Some sign) is = ap is_none (extends v sign is)

pub with_unit-extends : (name : Name) (o : Option Literal) (snapshot trail : List Entry) → Extends snapshot trail → Extends snapshot (with_unit name o trail)
with_unit-extends name None snapshot trail extends = extends
with_unit-extends name (Some l) snapshot trail extends =
    cond_both (is_free trail l.variable) ((record { lit = l; level = level_now trail; reason = Some name }) ∷ trail) trail (λ t. Extends snapshot t)
    (λ free v sign found. newest_extends (record { lit = l; level = level_now trail; reason = Some name }) trail free v sign (extends v sign found)) (λ taken. extends)

-- a note whose literal has a value adds nothing
notes_taken : (snapshot : List Entry) (c : NamedClause) (front : List Note) (trail : List Entry) → AreOf snapshot c front → is_falsified snapshot c.lits ≡ false →
    ((l : Literal) → IsImplied snapshot l c.lits → is_false snapshot l ≡ false → is_free trail l.variable ≡ false) → with_noted front trail ≡ trail
notes_taken snapshot c [] trail are lives taken = refl
notes_taken snapshot c (n ∷ later) trail are lives taken = by_lit n.lit are.0.1 (notes_taken snapshot c later trail are.1 lives taken)
  where
    by_lit : (o : Option Literal) → Tells snapshot o c.lits → with_noted later trail ≡ trail → with_noted later (with_unit n.name o trail) ≡ trail
    by_lit None tells rest = rest
    by_lit (Some l) tells rest =
        ap (λ t. with_noted later t) (with_unit-taken n.name l trail (taken l tells (sym (implied_falsified snapshot l c.lits tells) ∙ lives))) ∙ rest

-- of two literals that aren't false, and beside each of which all are, one is the other
one_literal : (trail : List Entry) (l m : Literal) (lits : List Literal) → IsImplied trail l lits → IsImplied trail m lits → is_false trail l ≡ false → is_false trail m ≡ false → l ≡ m
one_literal trail l m lits one other lives alive = same_Some l m (sym (find_only trail l lits lives one.held one.others) ∙ find_only trail m lits alive other.held other.others)

-- the notes of one clause add its unit
front_unit : (snapshot : List Entry) (c : NamedClause) (front : List Note) (trail : List Entry) → AreOf snapshot c front → is_falsified snapshot c.lits ≡ false → (front ≡ [] → IsQuiet snapshot c.lits) → Extends snapshot trail →
    with_noted front trail ≡ with_unit c.name (unit_of snapshot c.lits) trail
front_unit snapshot c [] trail are lives quiet extends = sym (ap (λ o. with_unit c.name o trail) (quiet refl).not_unit)
front_unit snapshot c (n ∷ later) trail are lives quiet extends = by_lit n.lit are.0.1
  where
    by_lit : (o : Option Literal) → Tells snapshot o c.lits → with_noted later (with_unit n.name o trail) ≡ with_unit c.name (unit_of snapshot c.lits) trail
    by_lit None tells = absurd (never (ap (λ ls. is_falsified snapshot ls) tells))
      where
        never : is_falsified snapshot c.lits ≡ true → ⊥
        never lost = cc
    by_lit (Some l) tells =
        let alive : is_false snapshot l ≡ false = sym (implied_falsified snapshot l c.lits tells) ∙ lives in
        let after = with_unit n.name (Some l) trail in
        notes_taken snapshot c later after are.1 lives
        (λ m implied alive_too. ap (λ (k : Literal). is_free after k.variable) (one_literal snapshot m l c.lits implied tells alive_too alive) ∙ taken_after n.name l trail)
        ∙ (ap (λ name. with_unit name (Some l) trail) are.0.0 ∙ (by_free alive (cases_Bool (is_free snapshot l.variable)) ∙ sym (ap (λ o. with_unit c.name o trail) (implied_unit snapshot l c.lits tells alive))))
      where
        by_free : is_false snapshot l ≡ false → (is_free snapshot l.variable ≡ true) ⊎ (is_free snapshot l.variable ≡ false) →
            with_unit c.name (Some l) trail ≡ with_unit c.name (cond (is_free snapshot l.variable) (Some l) None) trail
        by_free alive (inl free) = sym (ap (λ b. with_unit c.name (cond b (Some l) None) trail) free)
        by_free alive (inr taken) = with_unit-taken c.name l trail (taken_later snapshot trail l.variable extends taken) ∙ sym (ap (λ b. with_unit c.name (cond b (Some l) None) trail) taken)

with_noted-append : (front rest : List Note) (trail : List Entry) → with_noted (front ++ rest) trail ≡ with_noted rest (with_noted front trail)
with_noted-append [] rest trail = refl
with_noted-append (n ∷ later) rest trail = with_noted-append later rest (with_unit n.name n.lit trail)

none_first : (trail : List Entry) (c : NamedClause) (later : List NamedClause) → conflict_of trail (c ∷ later) ≡ None → (is_falsified trail c.lits ≡ false) × (conflict_of trail later ≡ None)
none_first trail c later none = by_test (is_falsified trail c.lits) (sym (conflict_of-cons trail c later) ∙ none)
  where
    by_test : (b : Bool) → cond b (Some c.name) (conflict_of trail later) ≡ None → (b ≡ false) × (conflict_of trail later ≡ None)
    by_test true is = cc
    by_test false is = (refl, is)

pub units_spread : (snapshot : List Entry) (clauses : List NamedClause) (notes : List Note) (trail : List Entry) → Spread snapshot clauses notes → conflict_of snapshot clauses ≡ None → Extends snapshot trail →
    with_noted notes trail ≡ with_units snapshot clauses trail
units_spread snapshot [] notes trail spread none extends = ap (λ ns. with_noted ns trail) spread
units_spread snapshot (c ∷ later) notes trail (front, rest, split, are, quiet, further) none extends =
    let calm = none_first snapshot c later none in
    let here = front_unit snapshot c front trail are calm.0 quiet extends in
    ap (λ ns. with_noted ns trail) split
    ∙ (with_noted-append front rest trail
    ∙ (ap (λ t. with_noted rest t) here
    ∙ units_spread snapshot later rest (with_unit c.name (unit_of snapshot c.lits) trail) further calm.1 (with_unit-extends c.name (unit_of snapshot c.lits) snapshot trail extends)))

-- the name stands before those of all these notes
abbrev IsFirstName : Name → List Note → Type 0
IsFirstName name notes = AllByRecursion (λ (n : Note). is_before name n.name ≡ true) notes

-- a clause that is found among clauses behind a name
found_behind : (name : Name) (clauses : List NamedClause) (other : Name) (lits : List Literal) → AllByRecursion (λ (d : NamedClause). IsTrue (is_before name d.name)) clauses → lits_at clauses other ≡ Some lits →
    is_before name other ≡ true
found_behind name [] other lits behind found = cc
found_behind name (d ∷ later) other lits behind found = by_test (cases_Bool (same_name d.name other)) (found_behind name later other lits behind.1)
  where
    by_test : (same_name d.name other ≡ true) ⊎ (same_name d.name other ≡ false) → (lits_at later other ≡ Some lits → is_before name other ≡ true) → is_before name other ≡ true
    by_test (inl is) rest = subst (λ n. is_before name n ≡ true) (same_name-true d.name other is) behind.0
    by_test (inr apart) rest = rest (sym (ap (λ b. cond b (Some d.lits) (lits_at later other)) apart) ∙ (sym (lits_at-cons d later other) ∙ found))

-- what is not before one that stands behind a name stands behind it too
behind_later : (name a b : Name) → is_before name a ≡ true → is_before b a ≡ false → is_before name b ≡ true
behind_later name a b before order = by_case (cases_Bool (same_name a b))
  where
    by_case : (same_name a b ≡ true) ⊎ (same_name a b ≡ false) → is_before name b ≡ true
    by_case (inl is) = subst (λ n. is_before name n ≡ true) (same_name-true a b is) before
    by_case (inr apart) = is_before-trans name a b before (is_before-other b a order apart)

all_behind : (name a : Name) (notes : List Note) → is_before name a ≡ true → AllByRecursion (λ (m : Note). IsFalse (is_before m.name a)) notes → IsFirstName name notes
all_behind name a [] before order = tt
all_behind name a (m ∷ later) before order = (behind_later name a m.name before order.0, all_behind name a later before order.1)

-- notes behind a clause's name are of the later clauses
of_later : (trail : List Entry) (c : NamedClause) (clauses : List NamedClause) (notes : List Note) → IsFirstName c.name notes → AreNotesOf trail (c ∷ clauses) notes → AreNotesOf trail clauses notes
of_later trail c clauses [] behind notes = tt
of_later trail c clauses (n ∷ later) behind notes =
    let note = notes.0 in (
      record {
        lits = note.lits;
        found = sym (ap (λ b. cond b (Some c.lits) (lits_at clauses n.name)) (before_differs c.name n.name behind.0)) ∙ (sym (lits_at-cons c clauses n.name) ∙ note.found);
        tells = note.tells;
      },
      of_later trail c clauses later behind.1 notes.1,
    )

-- the notes of the first clause stand in front
record IsSplit (trail : List Entry) (c : NamedClause) (clauses : List NamedClause) (notes : List Note) : Type 0 where
  front : List Note
  rest : List Note
  is : notes ≡ front ++ rest
  are : AreOf trail c front
  behind : IsFirstName c.name rest
  sound : AreNotesOf trail clauses rest
  order : AreInOrder rest

split_at : (trail : List Entry) (c : NamedClause) (clauses : List NamedClause) (notes : List Note) → AllByRecursion (λ (d : NamedClause). IsTrue (is_before c.name d.name)) clauses → AreInOrder notes →
    AreNotesOf trail (c ∷ clauses) notes → IsSplit trail c clauses notes
split_at trail c clauses [] rising order sound = record { front = []; rest = []; is = refl; are = tt; behind = tt; sound = tt; order = tt }
split_at trail c clauses (n ∷ later) rising order sound = by_test (cases_Bool (same_name c.name n.name)) (split_at trail c clauses later rising order.1 sound.1)
  where
    note : IsNoteOf trail (c ∷ clauses) n
    note = sound.0

    by_test : (same_name c.name n.name ≡ true) ⊎ (same_name c.name n.name ≡ false) → IsSplit trail c clauses later → IsSplit trail c clauses (n ∷ later)
    by_test (inl is) further =
        let lits : c.lits ≡ note.lits = same_Some c.lits note.lits (sym (ap (λ b. cond b (Some c.lits) (lits_at clauses n.name)) is) ∙ (sym (lits_at-cons c clauses n.name) ∙ note.found)) in
        record {
          front = n ∷ further.front;
          rest = further.rest;
          is = ap (λ ns. n ∷ ns) further.is;
          are = ((sym (same_name-true c.name n.name is), subst (λ ls. Tells trail n.lit ls) (sym lits) note.tells), further.are);
          behind = further.behind;
          sound = further.sound;
          order = further.order;
        }
    by_test (inr apart) further =
        let found : lits_at clauses n.name ≡ Some note.lits = sym (ap (λ b. cond b (Some c.lits) (lits_at clauses n.name)) apart) ∙ (sym (lits_at-cons c clauses n.name) ∙ note.found) in
        let before = found_behind c.name clauses n.name note.lits rising found in
        let behind : IsFirstName c.name (n ∷ later) = (before, all_behind c.name n.name later before order.0) in
        record { front = []; rest = n ∷ later; is = refl; are = tt; behind = behind; sound = of_later trail c clauses (n ∷ later) behind sound; order = order }

-- a name of which no note stands among those of another
not_among : (trail : List Entry) (c : NamedClause) (front : List Note) (name : Name) → AreOf trail c front → is_before c.name name ≡ true → list_any (λ (n : Note). same_name n.name name) front ≡ false
not_among trail c [] name are before = refl
not_among trail c (n ∷ later) name are before =
    let apart : same_name n.name name ≡ false = ap (λ m. same_name m name) are.0.0 ∙ before_differs c.name name before in
    ap (λ b. b || list_any (λ (m : Note). same_name m.name name) later) apart ∙ not_among trail c later name are.1 before

not_behind : (name : Name) (rest : List Note) → IsFirstName name rest → list_any (λ (n : Note). same_name n.name name) rest ≡ false
not_behind name [] behind = refl
not_behind name (n ∷ later) behind =
    let apart : same_name n.name name ≡ false = other_way (same_name n.name name) refl in
    ap (λ b. b || list_any (λ (m : Note). same_name m.name name) later) apart ∙ not_behind name later behind.1
  where
    other_way : (b : Bool) → same_name n.name name ≡ b → b ≡ false
    other_way true is = absurd (never (sym (ap (λ m. is_before name m) (same_name-true n.name name is)) ∙ behind.0))
      where
        never : is_before name name ≡ true → ⊥
        never before = let itself = not_before_itself name in cc
    other_way false is = refl

-- each clause is noted or quiet
abbrev pub AreNotedOrQuiet : List Entry → List Note → List NamedClause → Type 0
AreNotedOrQuiet trail notes clauses = AllByRecursion (λ (c : NamedClause). IsNoted notes c.name ⊎ IsQuiet trail c.lits) clauses

without_front : (trail : List Entry) (c : NamedClause) (front rest : List Note) (clauses : List NamedClause) → AreOf trail c front → AllByRecursion (λ (d : NamedClause). IsTrue (is_before c.name d.name)) clauses →
    AreNotedOrQuiet trail (front ++ rest) clauses → AreNotedOrQuiet trail rest clauses
without_front trail c front rest [] are rising each = tt
without_front trail c front rest (d ∷ later) are rising each = (by_case each.0, without_front trail c front rest later are rising.1 each.1)
  where
    second : (a b : Bool) → a ≡ false → (a || b) ≡ true → b ≡ true
    second true b is either = cc
    second false b is either = either

    by_case : (IsNoted (front ++ rest) d.name) ⊎ IsQuiet trail d.lits → (IsNoted rest d.name) ⊎ IsQuiet trail d.lits
    by_case (inl noted) =
        inl (second _ _ (not_among trail c front d.name are rising.0) (sym (list_any-append (λ (n : Note). same_name n.name d.name) front rest) ∙ noted))
    by_case (inr quiet) = inr quiet

pub spread : (trail : List Entry) (clauses : List NamedClause) (notes : List Note) → AreRisingBy (λ (c : NamedClause). c.name) clauses → AreInOrder notes → AreNotesOf trail clauses notes →
    AreNotedOrQuiet trail notes clauses → Spread trail clauses notes
spread trail [] [] rising order sound complete = refl
spread trail [] (n ∷ later) rising order sound complete = absurd (never sound.0.found)
  where
    never : {X : Type 0} {x : X} → None ≡ Some x → ⊥
    never is = cc
spread trail (c ∷ clauses) notes rising order sound complete =
    let parts = split_at trail c clauses notes rising.0 order sound in
    let each = subst (λ ns. AreNotedOrQuiet trail ns (c ∷ clauses)) parts.is complete in
    (parts.front, parts.rest, parts.is, parts.are, quiet parts.front parts.rest parts.behind each.0, spread trail clauses parts.rest rising.1 parts.order parts.sound (without_front trail c parts.front parts.rest clauses parts.are rising.0 each.1))
  where
    quiet : (front rest : List Note) → IsFirstName c.name rest → (IsNoted (front ++ rest) c.name) ⊎ IsQuiet trail c.lits → front ≡ [] → IsQuiet trail c.lits
    quiet front rest behind (inl noted) none = absurd (never (sym (not_behind c.name rest behind) ∙ (ap (λ ns. list_any (λ (n : Note). same_name n.name c.name) (ns ++ rest)) (sym none) ∙ noted)))
      where
        never : false ≡ true → ⊥
        never is = cc
    quiet front rest behind (inr calm) none = calm

-- a round: the first note that is lost is the conflict, and without one the notes add the units
pub round_noted : (trail : List Entry) (clauses : List NamedClause) (notes : List Note) → AreRisingBy (λ (c : NamedClause). c.name) clauses → AreInOrder notes → AreNotesOf trail clauses notes →
    AreNotedOrQuiet trail notes clauses → (conflict_in trail notes ≡ conflict_of trail clauses) × (conflict_of trail clauses ≡ None → with_noted notes trail ≡ with_units trail clauses trail)
round_noted trail clauses notes rising order sound complete =
    let parts = spread trail clauses notes rising order sound complete in
    (conflict_spread trail clauses notes parts, λ none. units_spread trail clauses notes trail parts none (λ v sign found. found))
