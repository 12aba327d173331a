-- What is attached stays so where a trail was cut: links serve each older part, notes go, and short clauses are noted anew.
use Rattle.std.proofs.Common.{◌≡◌, ◌⊎◌, inl, inr, ℕ, zero, suc, ◌<◌, ◌≤◌, ◌*◌, ◌/◌, Vec, Global, ◌||◌, ◌&&◌, Bool, true, false, cond, List, [], ◌∷◌, ◌++◌, length, refl, ap, sym, ◌∙◌, subst, arith}
use Rattle.std.specs.Prelude.{Option, Some, None, slice_get, map, replicate}
use Rattle.std.specs.List.{AllByRecursion, list_any}
use Rattle.std.proofs.lemmas.Bool.{cases_Bool, cases_lt, both_ways, cond-true, cond-false}
use Rattle.std.proofs.lemmas.List.{length-replicate, nil_from_length}
use Rattle.std.proofs.lemmas.List.Folds.{list_any-append}
use Rattle.std.proofs.lemmas.Option.{same_Some}
use Rattle.lit_base.specs.Literal.{Literal, same}
use Rattle.lit_base.specs.Trail.{is_true, is_false, is_free}
use Rattle.lit_base.specs.Rounds.{NamedClause}
use Rattle.lit_base.specs.Named.{same_name, lits_at}
use Rattle.lit_base.specs.Held.{is_among, names_of}
use Rattle.lit_base.specs.Fits.{FindsAll}
use Rattle.lit_base.specs.Quiet.{IsQuiet}
use Rattle.lit_base.specs.declared.trail.Entry.{Entry}
use Rattle.lit_base.specs.declared.name.Name.{Name}
use Rattle.lit_base.proofs.Known.{same_itself}
use Rattle.lit_base.proofs.HeldClauses.{same_name-true, lits_at-cons}
use Rattle.lit_base.proofs.NameOrder.{rising_found}
use Rattle.round_prop.specs.Chains.{lits_of, AreThreaded}
use Rattle.round_prop.specs.Linked.{IsPart, IsGuarded, IsLinked, IsPending}
use Rattle.round_prop.specs.Noting.{Tells, IsNoteOf, AreNotesOf, IsNoted, HasNote, is_of_row}
use Rattle.round_prop.specs.Readied.{row_names, flip, IsRow, IsTable, AreNamedApart}
use Rattle.round_prop.specs.Shorts.{short_lits, short_names, IsShortOf, note_of_short}
use Rattle.round_prop.specs.Attached.{RoundsState, IsKnown, AreAttachedIn, IsAttachedBy, IsSettled}
use Rattle.round_prop.specs.declared.links.Links.{Links}
use Rattle.round_prop.specs.declared.note.Note.{Note}
use Rattle.round_prop.specs.declared.noted.Noted.{Noted}
use Rattle.round_prop.specs.declared.row.Row.{Row}
use Rattle.round_prop.specs.declared.short.Short.{Short}
use Rattle.round_prop.specs.declared.table.Table.{Table}
use Rattle.round_prop.proofs.Arriving.{lits_in-same}
use Rattle.round_prop.proofs.NotedRound.{implied_unit}
use Rattle.round_prop.proofs.OlderParts.{taken_either, part_distinct}
use Rattle.round_prop.proofs.Resuming.{table_cut}

-- what a short clause's note tells
pub short_tells : (trail : List Entry) (o : Option Literal) → Tells trail o (short_lits o)
short_tells trail None = refl
short_tells trail (Some l) = record {
  held = ap (λ b. b || false) (same_itself l);
  others = last (is_false trail l) (same l l) (same_itself l);
}
  where
    last : (b d : Bool) → d ≡ true → ((b || d) && true) ≡ true
    last true d is = refl
    last false d is = ap (λ b. b && true) is

-- a short clause that is quiet has a true literal
pub quiet_short : (trail : List Entry) (o : Option Literal) → IsQuiet trail (short_lits o) → list_any (is_true trail) (short_lits o) ≡ true
quiet_short trail None quiet = absurd (both_ways true quiet.not_falsified refl)
quiet_short trail (Some l) quiet = by_false (cases_Bool (is_false trail l))
  where
    never : {X : Type 0} {x : X} → None ≡ Some x → ⊥
    never is = cc

    by_either : (is_true trail l ≡ true) ⊎ (is_false trail l ≡ true) → is_false trail l ≡ false → (is_true trail l || false) ≡ true
    by_either (inl holds) lives = ap (λ b. b || false) holds
    by_either (inr gone) lives = absurd (both_ways (is_false trail l) lives gone)

    by_free : (is_free trail l.variable ≡ true) ⊎ (is_free trail l.variable ≡ false) → is_false trail l ≡ false → (is_true trail l || false) ≡ true
    by_free (inl free) lives = absurd (never (sym quiet.not_unit ∙ (implied_unit trail l (l ∷ []) (short_tells trail (Some l)) lives ∙ ap (λ b. cond b (Some l) None) free)))
    by_free (inr taken) lives = by_either (taken_either trail l taken) lives

    by_false : (is_false trail l ≡ true) ⊎ (is_false trail l ≡ false) → (is_true trail l || false) ≡ true
    by_false (inl gone) = absurd (both_ways (is_false trail l && true) quiet.not_falsified (ap (λ b. b && true) gone))
    by_false (inr lives) = by_free (cases_Bool (is_free trail l.variable)) lives

-- a short clause is found with its literals
pub short_found : (clauses : List NamedClause) (shorts : List Short) (name : Name) → AllByRecursion (IsShortOf clauses) shorts → is_among (short_names shorts) name ≡ true →
    (o : Option Literal) × (lits_at clauses name ≡ Some (short_lits o))
short_found clauses [] name found among = cc
short_found clauses (s ∷ later) name found among = by_test (cases_Bool (same_name s.name name)) (short_found clauses later name found.1)
  where
    second : (a b : Bool) → a ≡ false → (a || b) ≡ true → b ≡ true
    second true b one either = cc
    second false b one either = either

    by_test : (same_name s.name name ≡ true) ⊎ (same_name s.name name ≡ false) → (is_among (short_names later) name ≡ true → (o : Option Literal) × (lits_at clauses name ≡ Some (short_lits o))) →
        (o : Option Literal) × (lits_at clauses name ≡ Some (short_lits o))
    by_test (inl here) rest = (s.lit, subst (λ n. lits_at clauses n ≡ Some (short_lits s.lit)) (same_name-true s.name name here) found.0)
    by_test (inr other) rest = rest (second (same_name s.name name) (is_among (short_names later) name) other among)

-- each short clause has its note
pub short_noted : (shorts : List Short) (name : Name) → is_among (short_names shorts) name ≡ true → IsNoted (map note_of_short shorts) name
short_noted [] name among = among
short_noted (s ∷ later) name among = by_test (same_name s.name name) (is_among (short_names later) name) (list_any (λ (n : Note). same_name n.name name) (map note_of_short later)) (short_noted later name) among
  where
    by_test : (b d e : Bool) → (d ≡ true → e ≡ true) → (b || d) ≡ true → (b || e) ≡ true
    by_test true d e rest is = refl
    by_test false d e rest is = rest is

pub noted-before : (notes more : List Note) (name : Name) → IsNoted notes name → IsNoted (notes ++ more) name
noted-before notes more name noted = list_any-append (λ (n : Note). same_name n.name name) notes more ∙ ap (λ b. b || list_any (λ (n : Note). same_name n.name name) more) noted

pub noted-behind : (notes more : List Note) (name : Name) → IsNoted more name → IsNoted (notes ++ more) name
noted-behind notes more name noted =
    list_any-append (λ (n : Note). same_name n.name name) notes more ∙ by_test (list_any (λ (n : Note). same_name n.name name) notes) (list_any (λ (n : Note). same_name n.name name) more) noted
  where
    by_test : (b d : Bool) → d ≡ true → (b || d) ≡ true
    by_test true d is = refl
    by_test false d is = is

row_noting : (clauses : List NamedClause) (trail done : List Entry) (notes more : List Note) (name : Name) (a b : Literal) → IsRow clauses trail done notes name a b → IsRow clauses trail done (notes ++ more) name a b
row_noting clauses trail done notes more name a b row = record { lits = row.lits; found = row.found; pair = row.pair; met = by_met row.met }
  where
    by_note : IsGuarded trail a b ⊎ IsNoted notes name → IsGuarded trail a b ⊎ IsNoted (notes ++ more) name
    by_note (inl guarded) = inl guarded
    by_note (inr noted) = inr (noted-before notes more name noted)

    by_met : (IsLinked trail row.lits a b × (IsGuarded trail a b ⊎ IsNoted notes name)) ⊎ IsPending trail done row.lits a b →
        (IsLinked trail row.lits a b × (IsGuarded trail a b ⊎ IsNoted (notes ++ more) name)) ⊎ IsPending trail done row.lits a b
    by_met (inl (linked, either)) = inl (linked, by_note either)
    by_met (inr pending) = inr pending

has_note-before : (notes more : List Note) (row : ℕ) (name : Name) → HasNote notes row name → HasNote (notes ++ more) row name
has_note-before notes more row name has = list_any-append (is_of_row row name) notes more ∙ ap (λ b. b || list_any (is_of_row row name) more) has

all_before : {X : Type 0} (P : X → Type 0) (xs ys : List X) → AllByRecursion P xs → AllByRecursion P ys → AllByRecursion P (xs ++ ys)
all_before P [] ys here there = there
all_before P (x ∷ xs) ys here there = (here.0, all_before P xs ys here.1 there)

shorts_sound : (clauses : List NamedClause) (trail : List Entry) (shorts : List Short) → AllByRecursion (IsShortOf clauses) shorts → AreNotesOf trail clauses (map note_of_short shorts)
shorts_sound clauses trail [] found = tt
shorts_sound clauses trail (s ∷ later) found = (record { lits = short_lits s.lit; found = found.0; tells = short_tells trail s.lit }, shorts_sound clauses trail later found.1)

-- a table with short clauses noted besides
pub table_noting : (clauses : List NamedClause) (trail done : List Entry) (t after : Table) (shorts : List Short) → IsTable clauses trail done t → after.rows ≡ t.rows → after.links ≡ t.links →
    after.noted.notes.items ≡ t.noted.notes.items ++ map note_of_short shorts → after.noted.flags.items ≡ t.noted.flags.items → AllByRecursion (IsShortOf clauses) shorts → IsTable clauses trail done after
table_noting clauses trail done t after shorts is rows links notes flags found = record {
  sized = record {
    nodes = ap (λ (l : Links). length l.nodes.items) links ∙ (is.sized.nodes ∙ sym (ap (λ (rs : Vec Row Global). 2 * length rs.items) rows));
    flags = ap length flags ∙ (is.sized.flags ∙ sym (ap (λ (rs : Vec Row Global). length rs.items) rows));
  };
  threaded = subst (λ (l : Links). AreThreaded l.heads.items l.nodes.items) (sym links) is.threaded;
  rows = λ n name a b named own other.
      subst (λ ns. IsRow clauses trail done ns name a b) (sym notes)
      (row_noting clauses trail done t.noted.notes.items (map note_of_short shorts) name a b
      (is.rows n name a b (ap (λ (rs : Vec Row Global). slice_get (row_names rs.items) (n / 2)) (sym rows) ∙ named)
      (ap (λ (l : Links). slice_get (lits_of l.nodes.items) n) (sym links) ∙ own) (ap (λ (l : Links). slice_get (lits_of l.nodes.items) (flip n)) (sym links) ∙ other)));
  flagged = λ row name named set_now.
      subst (λ ns. HasNote ns row name) (sym notes)
      (has_note-before t.noted.notes.items (map note_of_short shorts) row name
      (is.flagged row name (ap (λ (rs : Vec Row Global). slice_get (row_names rs.items) row) (sym rows) ∙ named) (ap (λ fs. slice_get fs row) (sym flags) ∙ set_now)));
  sound = subst (λ ns. AreNotesOf trail clauses ns) (sym notes) (all_before (IsNoteOf trail clauses) t.noted.notes.items (map note_of_short shorts) is.sound (shorts_sound clauses trail shorts found));
}

-- what holds of each clause holds of one that is found
pub all_at : (P : NamedClause → Type 0) (clauses : List NamedClause) (name : Name) (lits : List Literal) → AllByRecursion P clauses → lits_at clauses name ≡ Some lits → P (record { name = name; lits = lits })
all_at P [] name lits all found = cc
all_at P (c ∷ later) name lits all found = by_test (cases_Bool (same_name c.name name)) (all_at P later name lits all.1)
  where
    here_at : (o : Option (List Literal)) → cond (same_name c.name name) (Some c.lits) o ≡ Some lits → same_name c.name name ≡ true → c.lits ≡ lits
    here_at o is here = same_Some c.lits lits (sym (cond-true (same_name c.name name) (Some c.lits) o here) ∙ is)

    clause_is : (a b : Name) (x y : List Literal) → a ≡ b → x ≡ y → (let d : NamedClause = record { name = a; lits = x } in d) ≡ record { name = b; lits = y }
    clause_is a b x y name_is lits_are = cc

    by_test : (same_name c.name name ≡ true) ⊎ (same_name c.name name ≡ false) → (lits_at later name ≡ Some lits → P (record { name = name; lits = lits })) → P (record { name = name; lits = lits })
    by_test (inl here) further =
        subst P (clause_is c.name name c.lits lits (same_name-true c.name name here) (here_at (lits_at later name) (sym (lits_at-cons c later name) ∙ found) here)) all.0
    by_test (inr there) further = further (sym (cond-false (same_name c.name name) (Some c.lits) (lits_at later name) there) ∙ (sym (lits_at-cons c later name) ∙ found))

-- a name that stands in a row isn't fresh
pub row_not_fresh : (names rows : List Name) (name : Name) → AllByRecursion (λ n. is_among rows n ≡ false) names → is_among rows name ≡ true → is_among names name ≡ false
row_not_fresh [] rows name new among = refl
row_not_fresh (n ∷ later) rows name new among = by_test (cases_Bool (same_name n name)) (row_not_fresh later rows name new.1 among)
  where
    by_test : (same_name n name ≡ true) ⊎ (same_name n name ≡ false) → is_among later name ≡ false → (same_name n name || is_among later name) ≡ false
    by_test (inl here) rest = absurd (both_ways (is_among rows name) (subst (λ m. is_among rows m ≡ false) (same_name-true n name here) new.0) among)
    by_test (inr there) rest = ap (λ b. b || is_among later name) there ∙ rest

-- where a trail was cut: the rows are calm
pub rows_calm : (attached : List NamedClause) (fresh : List Name) (trail : List Entry) (rows : List Name) → AllByRecursion (λ n. is_among rows n ≡ false) fresh → IsSettled trail attached fresh →
    (trail ≡ []) ⊎ ((name : Name) (lits : List Literal) → is_among rows name ≡ true → lits_at attached name ≡ Some lits → IsQuiet trail lits)
rows_calm attached fresh trail rows new (inl none) = inl none
rows_calm attached fresh trail rows new (inr calm) =
    inr (λ name lits among found. all_at (λ c. is_among fresh c.name ≡ false → IsQuiet trail c.lits) attached name lits calm found (row_not_fresh fresh rows name new among))

-- and each clause is known still
known_cut : (attached : List NamedClause) (fresh : List Name) (seen trail : List Entry) (t after : Table) (shorts : List Short) → after.rows ≡ t.rows → AllByRecursion (IsShortOf attached) shorts →
    ((trail ≡ []) → after.noted.notes.items ≡ map note_of_short shorts) → (some : List NamedClause) → FindsAll (lits_at attached) some →
    (trail ≡ []) ⊎ AllByRecursion (λ c. is_among fresh c.name ≡ false → IsQuiet trail c.lits) some → AllByRecursion (IsKnown seen t shorts fresh) some → AllByRecursion (IsKnown trail after shorts fresh) some
known_cut attached fresh seen trail t after shorts rows short notes [] found settled known = tt
known_cut attached fresh seen trail t after shorts rows short notes (c ∷ later) found settled known =
    (one known.0 (head settled), known_cut attached fresh seen trail t after shorts rows short notes later found.1 (tail settled) known.1)
  where
    head : (trail ≡ []) ⊎ AllByRecursion (λ d. is_among fresh d.name ≡ false → IsQuiet trail d.lits) (c ∷ later) → (trail ≡ []) ⊎ (is_among fresh c.name ≡ false → IsQuiet trail c.lits)
    head (inl none) = inl none
    head (inr calm) = inr calm.0

    tail : (trail ≡ []) ⊎ AllByRecursion (λ d. is_among fresh d.name ≡ false → IsQuiet trail d.lits) (c ∷ later) → (trail ≡ []) ⊎ AllByRecursion (λ d. is_among fresh d.name ≡ false → IsQuiet trail d.lits) later
    tail (inl none) = inl none
    tail (inr calm) = inr calm.1

    holds : is_among (short_names shorts) c.name ≡ true → IsQuiet trail c.lits → list_any (is_true trail) c.lits ≡ true
    holds among quiet =
        let of = short_found attached shorts c.name short among in
        let lits : short_lits of.0 ≡ c.lits = same_Some (short_lits of.0) c.lits (sym of.1 ∙ found.0) in
        subst (λ ls. list_any (is_true trail) ls ≡ true) lits (quiet_short trail of.0 (subst (λ ls. IsQuiet trail ls) (sym lits) quiet))

    aside : is_among (short_names shorts) c.name ≡ true → (trail ≡ []) ⊎ (is_among fresh c.name ≡ false → IsQuiet trail c.lits) →
        (is_among fresh c.name ≡ true) ⊎ (is_among fresh c.name ≡ false) → IsKnown trail after shorts fresh c
    aside among (inl none) new = inr (inr (among, inl (subst (λ ns. IsNoted ns c.name) (sym (notes none)) (short_noted shorts c.name among))))
    aside among (inr calm) (inl is) = inl is
    aside among (inr calm) (inr old) = inr (inr (among, inr (holds among (calm old))))

    one : IsKnown seen t shorts fresh c → (trail ≡ []) ⊎ (is_among fresh c.name ≡ false → IsQuiet trail c.lits) → IsKnown trail after shorts fresh c
    one (inl new) calm = inl new
    one (inr (inl row)) calm = inr (inl (subst (λ (rs : Vec Row Global). is_among (row_names rs.items) c.name ≡ true) (sym rows) row))
    one (inr (inr (among, either))) calm = aside among calm (cases_Bool (is_among fresh c.name))

-- no flag is set where all are clear
clear_nowhere : (n row : ℕ) → slice_get (replicate n false) row ≡ Some true → ⊥
clear_nowhere zero row is = never is
  where
    never : {X : Type 0} {x : X} → None ≡ Some x → ⊥
    never is = cc
clear_nowhere (suc n) zero is = both_ways false refl (same_Some false true is)
clear_nowhere (suc n) (suc row) is = clear_nowhere n row is

-- what is attached is so on the trail that was cut
pub attached_cut : (r after : RoundsState) (attached : List NamedClause) (fresh : List Name) (seen more trail : List Entry) (cleared : Noted) → IsAttachedBy r attached fresh seen → seen ≡ more ++ trail →
    IsSettled trail attached fresh → cleared.notes.items ≡ [] → cleared.flags.items ≡ replicate (length r.table.noted.flags.items) false → after.table.rows ≡ r.table.rows →
    after.table.links ≡ r.table.links → after.table.noted.flags.items ≡ cleared.flags.items →
    ((trail ≡ []) × (after.table.noted.notes.items ≡ [] ++ map note_of_short r.shorts)) ⊎ ((trail ≡ [] → ⊥) × (after.table.noted.notes.items ≡ [] ++ map note_of_short [])) →
    after.shorts ≡ r.shorts → after.fresh ≡ r.fresh → after.propagated ≡ r.propagated → after.seen ≡ trail → IsAttachedBy after attached fresh trail
attached_cut r after attached fresh seen more trail cleared is front settled none flags rows links same_flags notes shorts fresh_same propagated seen_now = record {
  fresh_are = ap names_of fresh_same ∙ is.fresh_are;
  seen_are = seen_now;
  found = λ n. is.found n ∙ sym (lits_in-same r after n (ap (λ (rs : Vec Row Global). rs.items) rows) shorts fresh_same propagated);
  distinct = part_distinct seen trail is.distinct part;
  are = subst (λ ss. AreAttachedIn attached trail trail after.table ss fresh) (sym shorts) (record {
    rising = is.are.rising;
    table = by_notes notes;
    apart = subst (λ (rs : Vec Row Global). AreNamedApart (row_names rs.items)) (sym rows) is.are.apart;
    short = is.are.short;
    known = known_cut attached fresh seen trail r.table after.table r.shorts rows is.are.short (anew notes) attached (rising_found attached is.are.rising) settled is.are.known;
    fresh_found = is.are.fresh_found;
    fresh_apart = is.are.fresh_apart;
    fresh_new = subst (λ (rs : Vec Row Global). AllByRecursion (λ n. is_among (row_names rs.items) n ≡ false) fresh) (sym rows) is.are.fresh_new;
  });
}
  where
    part : IsPart seen trail
    part = record { newer = more; front = front }

    no_flag : (row : ℕ) → slice_get cleared.flags.items row ≡ Some true → ⊥
    no_flag row is_set = clear_nowhere (length r.table.noted.flags.items) row (ap (λ fs. slice_get fs row) (sym flags) ∙ is_set)

    bare : IsTable attached trail trail (record r.table { noted = cleared })
    bare = table_cut attached seen trail r.table cleared part is.are.table none no_flag (ap length flags ∙ length-replicate (length r.table.noted.flags.items) false)
        (rows_calm attached fresh trail (row_names r.table.rows.items) is.are.fresh_new settled)

    by_notes : ((trail ≡ []) × (after.table.noted.notes.items ≡ [] ++ map note_of_short r.shorts)) ⊎ ((trail ≡ [] → ⊥) × (after.table.noted.notes.items ≡ [] ++ map note_of_short [])) → IsTable attached trail trail after.table
    by_notes (inl (empty, are)) =
        table_noting attached trail trail (record r.table { noted = cleared }) after.table r.shorts bare rows links (are ∙ ap (λ ns. ns ++ map note_of_short r.shorts) (sym none)) same_flags is.are.short
    by_notes (inr (some, are)) =
        table_noting attached trail trail (record r.table { noted = cleared }) after.table [] bare rows links (are ∙ ap (λ ns. ns ++ []) (sym none)) same_flags tt

    anew : ((trail ≡ []) × (after.table.noted.notes.items ≡ [] ++ map note_of_short r.shorts)) ⊎ ((trail ≡ [] → ⊥) × (after.table.noted.notes.items ≡ [] ++ map note_of_short [])) → trail ≡ [] →
        after.table.noted.notes.items ≡ map note_of_short r.shorts
    anew (inl (empty, are)) now = are
    anew (inr (some, are)) now = absurd (some now)

-- which notes there are after a cut: those of the short clauses where no entry is left, and else none
pub left_notes : (trail : List Entry) (notes after : List Note) (shorts : List Short) (left : ℕ) → left ≡ length trail → notes ≡ [] → (left ≡ 0 → after ≡ notes ++ map note_of_short shorts) →
    (0 < left → after ≡ notes) → ((trail ≡ []) × (after ≡ [] ++ map note_of_short shorts)) ⊎ ((trail ≡ [] → ⊥) × (after ≡ [] ++ map note_of_short []))
left_notes trail notes after shorts left long none empty some = by_case (cases_lt 0 left)
  where
    by_case : (0 < left) ⊎ (left ≤ 0) → ((trail ≡ []) × (after ≡ [] ++ map note_of_short shorts)) ⊎ ((trail ≡ [] → ⊥) × (after ≡ [] ++ map note_of_short []))
    by_case (inl more) = inr ((λ nothing. let no_length : length trail ≡ 0 = ap length nothing in omega (arith, no_length, long, more)), some more ∙ none)
    by_case (inr nothing) =
        let zero_left : left ≡ 0 = omega (arith, nothing) in
        let no_length : length trail ≡ 0 = omega (arith, zero_left, long) in
        inl (nil_from_length trail no_length, empty zero_left ∙ ap (λ (ns : List Note). ns ++ map note_of_short shorts) none)
