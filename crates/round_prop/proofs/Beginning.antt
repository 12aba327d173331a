-- How fresh clauses become linked or short ones, and what propagation may then rest on.
use Rattle.std.proofs.Common.{◌≡◌, ◌⊎◌, inl, inr, ℕ, zero, suc, ◌+◌, ◌<◌, ◌≤◌, Vec, Global, ◌||◌, Bool, true, false, cond, List, [], ◌∷◌, ◌++◌, length, refl, ap, sym, ◌∙◌, subst, arith}
use Rattle.std.specs.Prelude.{Option, Some, None, slice_get, map, reverse, replicate, vec_len, vec_capacity}
use Rattle.std.specs.List.{AllByRecursion, IsDistinct, list_any}
use Rattle.std.proofs.lemmas.Bool.{cases_Bool, cases_lt, both_ways}
use Rattle.std.proofs.lemmas.List.{map-append, length-append, length-map, length-replicate, reverse-append}
use Rattle.std.proofs.lemmas.List.Folds.{list_any-append}
use Rattle.std.proofs.lemmas.Option.{same_Some, slice_get_within}
use Rattle.lit_base.specs.Literal.{Literal}
use Rattle.lit_base.specs.Trail.{is_true}
use Rattle.lit_base.specs.Rounds.{NamedClause}
use Rattle.lit_base.specs.Named.{same_name, lits_at}
use Rattle.lit_base.specs.Held.{is_among, names_of}
use Rattle.lit_base.specs.Fits.{HasDistinctVariables}
use Rattle.lit_base.specs.declared.trail.Entry.{Entry}
use Rattle.lit_base.specs.declared.name.Name.{Name}
use Rattle.lit_base.proofs.Lists.{each_when}
use Rattle.lit_base.proofs.Standing.{Extends}
use Rattle.lit_base.proofs.Known.{any_when}
use Rattle.round_prop.specs.Linked.{IsPart}
use Rattle.round_prop.specs.Noting.{IsNoted, clear_count, load_of}
use Rattle.round_prop.specs.Readied.{row_names, IsTable, IsCovered, AreNamedApart, IsReady, HaveSameRows, IsRoomKept}
use Rattle.round_prop.specs.FreshClauses.{clause_of_fresh, clauses_of_fresh, fresh_names}
use Rattle.round_prop.specs.Shorts.{short_names, IsShortOf, note_of_short}
use Rattle.round_prop.specs.Attached.{RoundsState, lits_in, IsKnown, AreAttachedIn, AreRoomy}
use Rattle.round_prop.specs.declared.fresh.Fresh.{Fresh}
use Rattle.round_prop.specs.declared.links.Links.{Links}
use Rattle.round_prop.specs.declared.note.Note.{Note}
use Rattle.round_prop.specs.declared.row.Row.{Row}
use Rattle.round_prop.specs.declared.short.Short.{Short}
use Rattle.round_prop.specs.declared.table.Table.{Table}
use Rattle.round_prop.proofs.NoteSteps.{slice_get-parts}
use Rattle.round_prop.proofs.OlderParts.{true_extends, part_extends}
use Rattle.round_prop.proofs.Resuming.{table_resumes}
use Rattle.round_prop.proofs.Rounding.{among_at}
use Rattle.round_prop.proofs.Jumping.{table_noting, noted-before, noted-behind, all_at}

-- the name of the newest fresh clause is the first
pub fresh_names-last : (fresh : List Fresh) (f : Fresh) → fresh_names (fresh ++ f ∷ []) ≡ f.name ∷ fresh_names fresh
fresh_names-last fresh f = ap (λ fs. map (λ (g : Fresh). g.name) fs) (reverse-append fresh (f ∷ []))

names_each : (fresh : List Fresh) → names_of (map clause_of_fresh fresh) ≡ map (λ (g : Fresh). g.name) fresh
names_each [] = refl
names_each (f ∷ later) = ap (λ names. f.name ∷ names) (names_each later)

-- the names are those of the clauses
pub fresh_names-are : (fresh : List Fresh) → names_of (clauses_of_fresh fresh) ≡ fresh_names fresh
fresh_names-are fresh = names_each (reverse fresh)

pub row_names-last : (rows : List Row) (row : Row) → row_names (rows ++ row ∷ []) ≡ row_names rows ++ row.name ∷ []
row_names-last rows row = map-append (λ (r : Row). r.name) rows (row ∷ [])

among-before : (names more : List Name) (name : Name) → is_among names name ≡ true → is_among (names ++ more) name ≡ true
among-before names more name among = list_any-append (λ n. same_name n name) names more ∙ ap (λ b. b || is_among more name) among

among-behind : (names : List Name) (one name : Name) → same_name one name ≡ true → is_among (names ++ one ∷ []) name ≡ true
among-behind names one name is = list_any-append (λ n. same_name n name) names (one ∷ []) ∙ by_test (is_among names name) (same_name one name) is
  where
    by_test : (b d : Bool) → d ≡ true → (b || (d || false)) ≡ true
    by_test true d is = refl
    by_test false d is = ap (λ x. x || false) is

not_among-last : (names : List Name) (one name : Name) → is_among names name ≡ false → same_name one name ≡ false → is_among (names ++ one ∷ []) name ≡ false
not_among-last names one name old new = list_any-append (λ n. same_name n name) names (one ∷ []) ∙ (ap (λ b. b || (same_name one name || false)) old ∙ ap (λ b. b || false) new)

-- a name more that is none of them
apart-last : (names : List Name) (one : Name) → is_among names one ≡ false → AreNamedApart names → AreNamedApart (names ++ one ∷ [])
apart-last names one new apart i j name first second = by_parts (slice_get-parts names (one ∷ []) i name first) (slice_get-parts names (one ∷ []) j name second)
  where
    is_one : (m : ℕ) → slice_get (one ∷ []) m ≡ Some name → one ≡ name
    is_one zero is = same_Some one name is
    is_one (suc m) is = absurd (never is)
      where
        never : {X : Type 0} {x : X} → None ≡ Some x → ⊥
        never is = cc

    only : (m : ℕ) → slice_get (one ∷ []) m ≡ Some name → m < 1
    only m is = slice_get_within (one ∷ []) m name is

    not_old : (k m : ℕ) → slice_get names k ≡ Some name → slice_get (one ∷ []) m ≡ Some name → ⊥
    not_old k m old last = both_ways (is_among names one) new (subst (λ n. is_among names n ≡ true) (sym (is_one m last)) (among_at names k name old))

    by_parts : (slice_get names i ≡ Some name) ⊎ ((m : ℕ) × ((i ≡ length names + m) × (slice_get (one ∷ []) m ≡ Some name))) →
        (slice_get names j ≡ Some name) ⊎ ((m : ℕ) × ((j ≡ length names + m) × (slice_get (one ∷ []) m ≡ Some name))) → i ≡ j
    by_parts (inl old) (inl other) = apart i j name old other
    by_parts (inl old) (inr (m, (at, last))) = absurd (not_old i m old last)
    by_parts (inr (m, (at, last))) (inl old) = absurd (not_old j m old last)
    by_parts (inr (m, (at, last))) (inr (k, (there, other))) = omega (arith, at, there, only m last, only k other)

known_row : (trail : List Entry) (t after : Table) (shorts : List Short) (fresh : List Name) (name : Name) → row_names after.rows.items ≡ row_names t.rows.items ++ name ∷ [] →
    ((n : Name) → IsNoted t.noted.notes.items n → IsNoted after.noted.notes.items n) → (c : NamedClause) → IsKnown trail t shorts (name ∷ fresh) c → IsKnown trail after shorts fresh c
known_row trail t after shorts fresh name rows notes c (inl new) = by_test (cases_Bool (same_name name c.name)) new
  where
    second : (a b : Bool) → a ≡ false → (a || b) ≡ true → b ≡ true
    second true b one either = cc
    second false b one either = either

    by_test : (same_name name c.name ≡ true) ⊎ (same_name name c.name ≡ false) → (same_name name c.name || is_among fresh c.name) ≡ true → IsKnown trail after shorts fresh c
    by_test (inl here) either = inr (inl (subst (λ names. is_among names c.name ≡ true) (sym rows) (among-behind (row_names t.rows.items) name c.name here)))
    by_test (inr other) either = inl (second (same_name name c.name) (is_among fresh c.name) other either)
known_row trail t after shorts fresh name rows notes c (inr (inl row)) =
    inr (inl (subst (λ names. is_among names c.name ≡ true) (sym rows) (among-before (row_names t.rows.items) (name ∷ []) c.name row)))
known_row trail t after shorts fresh name rows notes c (inr (inr (short, inl noted))) = inr (inr (short, inl (notes c.name noted)))
known_row trail t after shorts fresh name rows notes c (inr (inr (short, inr holds))) = inr (inr (short, inr holds))

apart_head : (name : Name) (names : List Name) → IsDistinct same_name (name ∷ names) → AllByRecursion (λ n. same_name name n ≡ false) names × IsDistinct same_name names
unfolding IsDistinct
apart_head name names distinct = distinct

new_row : (names fresh : List Name) (name : Name) → AllByRecursion (λ n. same_name name n ≡ false) fresh → AllByRecursion (λ n. is_among names n ≡ false) fresh →
    AllByRecursion (λ n. is_among (names ++ name ∷ []) n ≡ false) fresh
new_row names [] name apart new = tt
new_row names (n ∷ later) name apart new = (not_among-last names name n new.0 apart.0, new_row names later name apart.1 new.1)

-- a fresh clause has become a row
pub began_row : (clauses : List NamedClause) (trail done : List Entry) (t after : Table) (shorts : List Short) (fresh : List Name) (row : Row) →
    AreAttachedIn clauses trail done t shorts (row.name ∷ fresh) → IsTable clauses trail done after → after.rows.items ≡ t.rows.items ++ row ∷ [] →
    ((n : Name) → IsNoted t.noted.notes.items n → IsNoted after.noted.notes.items n) → AreAttachedIn clauses trail done after shorts fresh
began_row clauses trail done t after shorts fresh row are table rows notes =
    let names : row_names after.rows.items ≡ row_names t.rows.items ++ row.name ∷ [] = ap row_names rows ∙ row_names-last t.rows.items row in
    let apart = apart_head row.name fresh are.fresh_apart in
    record {
      rising = are.rising;
      table = table;
      apart = subst AreNamedApart (sym names) (apart-last (row_names t.rows.items) row.name are.fresh_new.0 are.apart);
      short = are.short;
      known = each_when (IsKnown trail t shorts (row.name ∷ fresh)) (IsKnown trail after shorts fresh) (known_row trail t after shorts fresh row.name names notes) clauses are.known;
      fresh_found = are.fresh_found.1;
      fresh_apart = apart.1;
      fresh_new = subst (λ ns. AllByRecursion (λ n. is_among ns n ≡ false) fresh) (sym names) (new_row (row_names t.rows.items) fresh row.name apart.0 are.fresh_new.1);
    }

short_names-last : (shorts : List Short) (s : Short) → short_names (shorts ++ s ∷ []) ≡ short_names shorts ++ s.name ∷ []
short_names-last shorts s = map-append (λ (r : Short). r.name) shorts (s ∷ [])

known_short : (trail : List Entry) (t after : Table) (shorts : List Short) (s : Short) (fresh : List Name) → after.rows ≡ t.rows →
    after.noted.notes.items ≡ t.noted.notes.items ++ note_of_short s ∷ [] → (c : NamedClause) → IsKnown trail t shorts (s.name ∷ fresh) c → IsKnown trail after (shorts ++ s ∷ []) fresh c
known_short trail t after shorts s fresh rows notes c (inl new) = by_test (cases_Bool (same_name s.name c.name)) new
  where
    second : (a b : Bool) → a ≡ false → (a || b) ≡ true → b ≡ true
    second true b one either = cc
    second false b one either = either

    by_test : (same_name s.name c.name ≡ true) ⊎ (same_name s.name c.name ≡ false) → (same_name s.name c.name || is_among fresh c.name) ≡ true → IsKnown trail after (shorts ++ s ∷ []) fresh c
    by_test (inl here) either = inr (inr (
      subst (λ names. is_among names c.name ≡ true) (sym (short_names-last shorts s)) (among-behind (short_names shorts) s.name c.name here),
      inl (subst (λ ns. IsNoted ns c.name) (sym notes) (noted-behind t.noted.notes.items (note_of_short s ∷ []) c.name (ap (λ b. b || false) here))),
    ))
    by_test (inr other) either = inl (second (same_name s.name c.name) (is_among fresh c.name) other either)
known_short trail t after shorts s fresh rows notes c (inr (inl row)) = inr (inl (subst (λ (rs : Vec Row Global). is_among (row_names rs.items) c.name ≡ true) (sym rows) row))
known_short trail t after shorts s fresh rows notes c (inr (inr (short, either))) =
    inr (inr (subst (λ names. is_among names c.name ≡ true) (sym (short_names-last shorts s)) (among-before (short_names shorts) (s.name ∷ []) c.name short), by_either either))
  where
    by_either : IsNoted t.noted.notes.items c.name ⊎ (list_any (is_true trail) c.lits ≡ true) → IsNoted after.noted.notes.items c.name ⊎ (list_any (is_true trail) c.lits ≡ true)
    by_either (inl noted) = inl (subst (λ ns. IsNoted ns c.name) (sym notes) (noted-before t.noted.notes.items (note_of_short s ∷ []) c.name noted))
    by_either (inr holds) = inr holds

all_last : {X : Type 0} (P : X → Type 0) (xs : List X) (x : X) → AllByRecursion P xs → P x → AllByRecursion P (xs ++ x ∷ [])
all_last P [] x here last = (last, tt)
all_last P (y ∷ ys) x here last = (here.0, all_last P ys x here.1 last)

-- a fresh clause has become a short one
pub began_short : (clauses : List NamedClause) (trail done : List Entry) (t after : Table) (shorts : List Short) (fresh : List Name) (s : Short) →
    AreAttachedIn clauses trail done t shorts (s.name ∷ fresh) → IsShortOf clauses s → after.rows ≡ t.rows → after.links ≡ t.links →
    after.noted.notes.items ≡ t.noted.notes.items ++ note_of_short s ∷ [] → after.noted.flags ≡ t.noted.flags → AreAttachedIn clauses trail done after (shorts ++ s ∷ []) fresh
began_short clauses trail done t after shorts fresh s are found rows links notes flags = record {
  rising = are.rising;
  table = table_noting clauses trail done t after (s ∷ []) are.table rows links notes (ap (λ (fs : Vec Bool Global). fs.items) flags) (found, tt);
  apart = subst (λ (rs : Vec Row Global). AreNamedApart (row_names rs.items)) (sym rows) are.apart;
  short = all_last (IsShortOf clauses) shorts s are.short found;
  known = each_when (IsKnown trail t shorts (s.name ∷ fresh)) (IsKnown trail after (shorts ++ s ∷ []) fresh) (known_short trail t after shorts s fresh rows notes) clauses are.known;
  fresh_found = are.fresh_found.1;
  fresh_apart = (apart_head s.name fresh are.fresh_apart).1;
  fresh_new = subst (λ (rs : Vec Row Global). AllByRecursion (λ n. is_among (row_names rs.items) n ≡ false) fresh) (sym rows) are.fresh_new.1;
}

-- one is there, and there is room for the fresh ones that are left
pub roomy_row : (variables : ℕ) (t after : Table) (shorts room fresh : ℕ) (row : Row) (clauses : List NamedClause) (trail done : List Entry) → AreRoomy variables t shorts room (fresh + 1) →
    IsTable clauses trail done after → after.rows.items ≡ t.rows.items ++ row ∷ [] →
    load_of after.noted.notes.items after.noted.flags.items ≡ load_of t.noted.notes.items t.noted.flags.items + 1 → IsRoomKept t after → AreRoomy variables after shorts room fresh
roomy_row variables t after shorts room fresh row clauses trail done roomy table rows load same =
    let long : length after.rows.items ≡ length t.rows.items + 1 = ap length rows ∙ length-append t.rows.items (row ∷ []) in
    let nodes = table.sized.nodes in
    let flags = table.sized.flags in
    let old_nodes = roomy.sized.nodes in
    let old_flags = roomy.sized.flags in
    record {
      sized = table.sized;
      flagged = table.flagged;
      wide = same.heads ∙ roomy.wide;
      few = omega (arith, long, nodes, old_nodes, roomy.few);
      rows_room = omega (arith, long, same.rows_room, roomy.rows_room);
      nodes_room = omega (arith, long, nodes, old_nodes, same.nodes_room, roomy.nodes_room);
      flags_room = omega (arith, long, flags, old_flags, same.flags_room, roomy.flags_room);
      notes_room = omega (arith, load, same.notes_room, roomy.notes_room);
      notes_anew = omega (arith, long, same.notes_room, roomy.notes_anew);
      shorts_room = omega (arith, roomy.shorts_room);
    }

pub roomy_short : (variables : ℕ) (t after : Table) (shorts room most fresh : ℕ) (s : Short) (clauses : List NamedClause) (trail done : List Entry) → AreRoomy variables t shorts room (fresh + 1) →
    IsTable clauses trail done after → after.rows ≡ t.rows → after.links ≡ t.links → after.noted.notes.items ≡ t.noted.notes.items ++ note_of_short s ∷ [] → after.noted.flags ≡ t.noted.flags →
    vec_capacity after.noted.notes ≡ vec_capacity t.noted.notes → most ≡ room → AreRoomy variables after (shorts + 1) most fresh
roomy_short variables t after shorts room most fresh s clauses trail done roomy table rows links notes flags same same_room =
    let row_count : vec_len after.rows ≡ vec_len t.rows = ap (λ (rs : Vec Row Global). vec_len rs) rows in
    let row_most : vec_capacity after.rows ≡ vec_capacity t.rows = ap (λ (rs : Vec Row Global). vec_capacity rs) rows in
    let node_count : vec_len after.links.nodes ≡ vec_len t.links.nodes = ap (λ (l : Links). vec_len l.nodes) links in
    let node_most : vec_capacity after.links.nodes ≡ vec_capacity t.links.nodes = ap (λ (l : Links). vec_capacity l.nodes) links in
    let flag_count : vec_len after.noted.flags ≡ vec_len t.noted.flags = ap (λ (fs : Vec Bool Global). vec_len fs) flags in
    let flag_most : vec_capacity after.noted.flags ≡ vec_capacity t.noted.flags = ap (λ (fs : Vec Bool Global). vec_capacity fs) flags in
    let clear : clear_count after.noted.flags.items ≡ clear_count t.noted.flags.items = ap (λ (fs : Vec Bool Global). clear_count fs.items) flags in
    let long : length after.noted.notes.items ≡ length t.noted.notes.items + 1 = ap length notes ∙ length-append t.noted.notes.items (note_of_short s ∷ []) in
    record {
      sized = table.sized;
      flagged = table.flagged;
      wide = ap (λ (l : Links). length l.heads.items) links ∙ roomy.wide;
      few = omega (arith, node_count, roomy.few);
      rows_room = omega (arith, row_count, row_most, roomy.rows_room);
      nodes_room = omega (arith, node_count, node_most, roomy.nodes_room);
      flags_room = omega (arith, flag_count, flag_most, roomy.flags_room);
      notes_room = omega (arith, clear, long, same, roomy.notes_room);
      notes_anew = omega (arith, row_count, same, roomy.notes_anew);
      shorts_room = omega (arith, same_room, roomy.shorts_room);
    }

clear_all : (n : ℕ) → clear_count (replicate n false) ≡ n
clear_all zero = refl
clear_all (suc n) = omega (arith, clear_all n)

not_set : (n row : ℕ) → slice_get (replicate n false) row ≡ Some true → ⊥
not_set zero row is = never is
  where
    never : {X : Type 0} {x : X} → None ≡ Some x → ⊥
    never is = cc
not_set (suc n) zero is = both_ways false refl (same_Some false true is)
not_set (suc n) (suc row) is = not_set n row is

-- all flags are clear, and some short clauses are noted
pub roomy_cut : (variables : ℕ) (t after : Table) (shorts room fresh : ℕ) → AreRoomy variables t shorts room fresh → after.rows ≡ t.rows → after.links ≡ t.links →
    after.noted.flags.items ≡ replicate (length t.noted.flags.items) false → vec_capacity after.noted.flags ≡ vec_capacity t.noted.flags → vec_capacity after.noted.notes ≡ vec_capacity t.noted.notes →
    length after.noted.notes.items ≤ shorts → AreRoomy variables after shorts room fresh
roomy_cut variables t after shorts room fresh roomy rows links flags flags_most same long =
    let row_count : vec_len after.rows ≡ vec_len t.rows = ap (λ (rs : Vec Row Global). vec_len rs) rows in
    let row_items : length after.rows.items ≡ length t.rows.items = ap (λ (rs : Vec Row Global). length rs.items) rows in
    let row_most : vec_capacity after.rows ≡ vec_capacity t.rows = ap (λ (rs : Vec Row Global). vec_capacity rs) rows in
    let node_count : vec_len after.links.nodes ≡ vec_len t.links.nodes = ap (λ (l : Links). vec_len l.nodes) links in
    let node_items : length after.links.nodes.items ≡ length t.links.nodes.items = ap (λ (l : Links). length l.nodes.items) links in
    let node_most : vec_capacity after.links.nodes ≡ vec_capacity t.links.nodes = ap (λ (l : Links). vec_capacity l.nodes) links in
    let flag_items : length after.noted.flags.items ≡ length t.noted.flags.items = ap length flags ∙ length-replicate (length t.noted.flags.items) false in
    let clear : clear_count after.noted.flags.items ≡ length t.noted.flags.items = ap clear_count flags ∙ clear_all (length t.noted.flags.items) in
    let nodes = roomy.sized.nodes in
    let marks = roomy.sized.flags in
    record {
      sized = record { nodes = omega (arith, node_items, row_items, nodes); flags = omega (arith, flag_items, row_items, marks) };
      flagged = λ row name named set_now. absurd (not_set (length t.noted.flags.items) row (ap (λ fs. slice_get fs row) (sym flags) ∙ set_now));
      wide = ap (λ (l : Links). length l.heads.items) links ∙ roomy.wide;
      few = omega (arith, node_count, roomy.few);
      rows_room = omega (arith, row_count, row_most, roomy.rows_room);
      nodes_room = omega (arith, node_count, node_most, roomy.nodes_room);
      flags_room = omega (arith, flag_items, flags_most, roomy.flags_room);
      notes_room = omega (arith, clear, marks, long, same, roomy.notes_anew);
      notes_anew = omega (arith, row_count, same, roomy.notes_anew);
      shorts_room = roomy.shorts_room;
    }

known_later : (seen trail : List Entry) (t : Table) (shorts : List Short) (fresh : List Name) → Extends seen trail → (c : NamedClause) → IsKnown seen t shorts fresh c → IsKnown trail t shorts fresh c
known_later seen trail t shorts fresh extends c (inl new) = inl new
known_later seen trail t shorts fresh extends c (inr (inl row)) = inr (inl row)
known_later seen trail t shorts fresh extends c (inr (inr (short, inl noted))) = inr (inr (short, inl noted))
known_later seen trail t shorts fresh extends c (inr (inr (short, inr holds))) =
    inr (inr (short, inr (any_when (is_true seen) (is_true trail) (λ l is. true_extends seen trail l extends is) c.lits holds)))

-- what is attached serves a longer trail
pub attached_resumes : (clauses : List NamedClause) (seen trail : List Entry) (t : Table) (shorts : List Short) (fresh : List Name) → HasDistinctVariables trail → IsPart trail seen →
    AreAttachedIn clauses seen seen t shorts fresh → AreAttachedIn clauses trail seen t shorts fresh
attached_resumes clauses seen trail t shorts fresh distinct part are = record {
  rising = are.rising;
  table = table_resumes clauses seen trail t distinct part are.table;
  apart = are.apart;
  short = are.short;
  known = each_when (IsKnown seen t shorts fresh) (IsKnown trail t shorts fresh) (known_later seen trail t shorts fresh (part_extends trail seen distinct part)) clauses are.known;
  fresh_found = are.fresh_found;
  fresh_apart = are.fresh_apart;
  fresh_new = are.fresh_new;
}

known_covered : (trail : List Entry) (t : Table) (shorts : List Short) (c : NamedClause) → IsKnown trail t shorts [] c → IsCovered trail t.noted.notes.items (row_names t.rows.items) c
known_covered trail t shorts c (inl new) = absurd (both_ways false refl new)
known_covered trail t shorts c (inr (inl row)) = inl row
known_covered trail t shorts c (inr (inr (short, either))) = inr either

-- where none is fresh propagation may go on
pub attached_ready : (variables : ℕ) (clauses : List NamedClause) (trail done : List Entry) (t : Table) (shorts : List Short) (count room : ℕ) → AreAttachedIn clauses trail done t shorts [] →
    AreRoomy variables t count room 0 → IsReady variables clauses trail done t
attached_ready variables clauses trail done t shorts count room are roomy = record {
  table = are.table;
  covered = each_when (IsKnown trail t shorts []) (IsCovered trail t.noted.notes.items (row_names t.rows.items)) (known_covered trail t shorts) clauses are.known;
  apart = are.apart;
  wide = roomy.wide;
  room = omega (arith, roomy.notes_room);
}

known_after : (before trail : List Entry) (t after : Table) (shorts : List Short) → row_names after.rows.items ≡ row_names t.rows.items → (some : List NamedClause) →
    AllByRecursion (IsKnown before t shorts []) some → AllByRecursion (IsCovered trail after.noted.notes.items (row_names after.rows.items)) some → AllByRecursion (IsKnown trail after shorts []) some
known_after before trail t after shorts rows [] known covered = tt
known_after before trail t after shorts rows (c ∷ later) known covered = (one known.0 covered.0, known_after before trail t after shorts rows later known.1 covered.1)
  where
    one : IsKnown before t shorts [] c → IsCovered trail after.noted.notes.items (row_names after.rows.items) c → IsKnown trail after shorts [] c
    one (inl new) either = absurd (both_ways false refl new)
    one (inr (inl row)) either = inr (inl (subst (λ names. is_among names c.name ≡ true) (sym rows) row))
    one (inr (inr (short, old))) (inl row) = inr (inl row)
    one (inr (inr (short, old))) (inr either) = inr (inr (short, either))

-- and after it the same clauses are attached
pub ready_attached : (variables : ℕ) (clauses : List NamedClause) (before trail done : List Entry) (t after : Table) (shorts : List Short) → AreAttachedIn clauses before done t shorts [] →
    IsReady variables clauses trail trail after → HaveSameRows t after → AreAttachedIn clauses trail trail after shorts []
ready_attached variables clauses before trail done t after shorts are ready same = record {
  rising = are.rising;
  table = ready.table;
  apart = ready.apart;
  short = are.short;
  known = known_after before trail t after shorts (ap row_names same.rows) clauses are.known ready.covered;
  fresh_found = tt;
  fresh_apart = are.fresh_apart;
  fresh_new = tt;
}

-- there is as much room
pub roomy_after : (variables : ℕ) (clauses : List NamedClause) (trail : List Entry) (t after : Table) (shorts room : ℕ) → AreRoomy variables t shorts room 0 → IsReady variables clauses trail trail after →
    HaveSameRows t after → AreRoomy variables after shorts room 0
roomy_after variables clauses trail t after shorts room roomy ready same =
    let rows : length after.rows.items ≡ length t.rows.items = ap length same.rows in
    record {
      sized = ready.table.sized;
      flagged = ready.table.flagged;
      wide = ready.wide;
      few = omega (arith, same.nodes, roomy.few);
      rows_room = omega (arith, rows, same.rows_room, roomy.rows_room);
      nodes_room = omega (arith, same.nodes, same.nodes_room, roomy.nodes_room);
      flags_room = omega (arith, same.flags, same.flags_room, roomy.flags_room);
      notes_room = omega (arith, same.load, same.notes_room, roomy.notes_room);
      notes_anew = omega (arith, rows, same.notes_room, roomy.notes_anew);
      shorts_room = roomy.shorts_room;
    }

some_among : (clauses : List NamedClause) (trail : List Entry) (t : Table) (shorts : List Short) (name : Name) (lits : List Literal) → AllByRecursion (IsKnown trail t shorts []) clauses →
    lits_at clauses name ≡ Some lits → is_among (row_names t.rows.items ++ short_names shorts) name ≡ true
some_among clauses trail t shorts name lits known found = one (all_at (IsKnown trail t shorts []) clauses name lits known found)
  where
    one : IsKnown trail t shorts [] (record { name = name; lits = lits }) → is_among (row_names t.rows.items ++ short_names shorts) name ≡ true
    one (inl new) = absurd (both_ways false refl new)
    one (inr (inl row)) = among-before (row_names t.rows.items) (short_names shorts) name row
    one (inr (inr (short, either))) =
        list_any-append (λ n. same_name n name) (row_names t.rows.items) (short_names shorts) ∙ by_test (is_among (row_names t.rows.items) name) (is_among (short_names shorts) name) short
      where
        by_test : (b d : Bool) → d ≡ true → (b || d) ≡ true
        by_test true d is = refl
        by_test false d is = is

none_either : (b : Bool) (o : Option (List Literal)) → o ≡ None → o ≡ cond b o None
none_either true o none = refl
none_either false o none = none

-- where none is fresh, the clauses of the last propagation are attached
pub lits_in-last : (r : RoundsState) (clauses : List NamedClause) (trail : List Entry) (name : Name) → r.fresh ≡ [] → r.propagated ≡ clauses → AllByRecursion (IsKnown trail r.table r.shorts []) clauses →
    lits_at clauses name ≡ lits_in r name
lits_in-last r clauses trail name none same known = by_found (lits_at clauses name) refl ∙ sym found
  where
    found : lits_in r name ≡ cond (is_among (row_names r.table.rows.items ++ short_names r.shorts) name) (lits_at clauses name) None
    found =
        ap (λ (cs : List NamedClause). cond (is_among (names_of cs) name) (lits_at cs name) (cond (is_among (row_names r.table.rows.items ++ short_names r.shorts) name) (lits_at r.propagated name) None)) none
        ∙ ap (λ (cs : List NamedClause). cond (is_among (row_names r.table.rows.items ++ short_names r.shorts) name) (lits_at cs name) None) same

    by_found : (o : Option (List Literal)) → lits_at clauses name ≡ o → lits_at clauses name ≡ cond (is_among (row_names r.table.rows.items ++ short_names r.shorts) name) (lits_at clauses name) None
    by_found None is = none_either (is_among (row_names r.table.rows.items ++ short_names r.shorts) name) (lits_at clauses name) is
    by_found (Some lits) is = sym (ap (λ b. cond b (lits_at clauses name) None) (some_among clauses trail r.table r.shorts name lits known is))

-- after a cut there are no more notes than short clauses
pub noted_few : (notes after : List Note) (shorts : List Short) (left : ℕ) → notes ≡ [] → (left ≡ 0 → after ≡ notes ++ map note_of_short shorts) → (0 < left → after ≡ notes) →
    length after ≤ length shorts
noted_few notes after shorts left none empty some = by_case (cases_lt 0 left)
  where
    by_case : (0 < left) ⊎ (left ≤ 0) → length after ≤ length shorts
    by_case (inl more) = let long : length after ≡ 0 = ap length (some more ∙ none) in omega (arith, long)
    by_case (inr nothing) =
        let is = empty (omega (arith, nothing)) ∙ ap (λ (ns : List Note). ns ++ map note_of_short shorts) none in
        let long : length after ≡ length shorts = ap length is ∙ length-map shorts note_of_short in
        omega (arith, long)
