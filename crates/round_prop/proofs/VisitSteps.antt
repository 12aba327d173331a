-- A row after its clause was looked at.
use Rattle.std.proofs.Common.{◌≡◌, ◌⊎◌, ℕ, ◌<◌, Bool, true, false, ◌&&◌, List, length, get_or, refl, inl, inr, ap, sym, ◌∙◌, subst}
use Rattle.std.specs.Prelude.{Option, Some, None, option_map, nat_lt, slice_get}
use Rattle.std.proofs.lemmas.Option.{same_Some, slice_get-map, slice_get_read, slice_get-get_or}
use Rattle.lit_base.specs.Literal.{Literal}
use Rattle.lit_base.specs.Trail.{is_true}
use Rattle.lit_base.specs.Named.{lits_at}
use Rattle.lit_base.specs.Rounds.{NamedClause}
use Rattle.lit_base.specs.declared.trail.Entry.{Entry}
use Rattle.lit_base.specs.declared.name.Name.{Name}
use Rattle.round_prop.specs.declared.note.Note.{Note}
use Rattle.round_prop.specs.declared.row.Row.{Row}
use Rattle.round_prop.specs.Linked.{IsPair, IsGuarded, IsLinked, IsPending, IsStep, IsLatest, IsOther, place_in}
use Rattle.round_prop.specs.Noting.{IsNoted, IsNoteOf, IsAdded, HasMoreNotes}
use Rattle.round_prop.specs.declared.noted.Noted.{Noted}
use Rattle.round_prop.proofs.NoteSteps.{added_kept, added_sound, added_flagged, added_load}
use Rattle.std.proofs.Common.{vec_capacity}
use Rattle.round_prop.specs.Readied.{IsRow, row_names}
use Rattle.round_prop.specs.Walking.{HasPair}
use Rattle.round_prop.proofs.LinkSteps.{moved, blocked, stuck_late, stuck_own}

-- the row of a name whose literals were read
row_parts : (clauses : List NamedClause) (trail done : List Entry) (notes : List Note) (name : Name) (a b : Literal) (lits : List Literal) → IsRow clauses trail done notes name a b → lits_at clauses name ≡ Some lits →
    IsPair lits a b × ((IsLinked trail lits a b × (IsGuarded trail a b ⊎ IsNoted notes name)) ⊎ IsPending trail done lits a b)
row_parts clauses trail done notes name a b lits row found =
    subst (λ ls. IsPair ls a b × ((IsLinked trail ls a b × (IsGuarded trail a b ⊎ IsNoted notes name)) ⊎ IsPending trail done ls a b)) (same_Some row.lits lits (sym row.found ∙ found)) (row.pair, row.met)

unnoted : (trail done : List Entry) (notes : List Note) (name : Name) (a b : Literal) (lits : List Literal) → (IsLinked trail lits a b × (IsGuarded trail a b ⊎ IsNoted notes name)) ⊎ IsPending trail done lits a b →
    IsLinked trail lits a b ⊎ IsPending trail done lits a b
unnoted trail done notes name a b lits (inl (linked, _)) = inl linked
unnoted trail done notes name a b lits (inr pending) = inr pending

module _ (clauses : List NamedClause) (trail done next : List Entry) (notes : List Note) (name : Name) (own other : Literal) (step : IsStep trail done next own) (row : IsRow clauses trail done notes name own other) where
  -- the other link was true before
  pub visit_blocked : (is_true trail other && nat_lt (place_in trail other) (place_in trail own)) ≡ true → IsRow clauses trail next notes name own other
  visit_blocked is =
      let test = both (is_true trail other) (nat_lt (place_in trail other) (place_in trail own)) is in
      let right = blocked trail done next own step row.lits other row.pair (unnoted trail done notes name own other row.lits row.met) test.0 test.1 in
      record { lits = row.lits; found = row.found; pair = row.pair; met = inl (right.0, inl right.1) }
    where
      both : (a b : Bool) → (a && b) ≡ true → (a ≡ true) × (b ≡ true)
      both true b is = (refl, is)
      both false b is = cc

  module _ (lits : List Literal) (found : lits_at clauses name ≡ Some lits) where
    parts : IsPair lits own other × ((IsLinked trail lits own other × (IsGuarded trail own other ⊎ IsNoted notes name)) ⊎ IsPending trail done lits own other)
    parts = row_parts clauses trail done notes name own other lits row found

    -- there is another literal that isn't false
    pub visit_moved : (m : Literal) → IsOther trail lits other (Some m) → IsRow clauses trail next notes name m other
    visit_moved m is =
        record {
          lits = lits;
          found = found;
          pair = record { first = is.0; second = parts.0.second; apart = is.1 };
          met = by_case (moved trail done next own step lits other parts.0 (unnoted trail done notes name own other lits parts.1) m is.0 is.1 is.2);
        }
      where
        by_case : (IsLinked trail lits m other × IsGuarded trail m other) ⊎ IsPending trail next lits m other → (IsLinked trail lits m other × (IsGuarded trail m other ⊎ IsNoted notes name)) ⊎ IsPending trail next lits m other
        by_case (inl right) = inl (right.0, inl right.1)
        by_case (inr pending) = inr pending

    -- another one became false later
    pub visit_late : (last : Literal) → IsOther trail lits other None → IsLatest trail lits other last → nat_lt (place_in trail own) (place_in trail last) ≡ true → IsRow clauses trail next notes name last other
    visit_late last none latest later = record {
      lits = lits;
      found = found;
      pair = record { first = latest.held; second = parts.0.second; apart = latest.apart };
      met = inr (stuck_late trail done next own step lits other parts.0 (unnoted trail done notes name own other lits parts.1) last none latest later);
    }

    -- none did, and the clause is noted
    pub visit_noted : (last : Literal) (more : List Note) → IsOther trail lits other None → IsLatest trail lits other last → nat_lt (place_in trail own) (place_in trail last) ≡ false →
        IsNoted more name → IsRow clauses trail next more name own other
    visit_noted last more none latest most noted = record {
      lits = lits;
      found = found;
      pair = parts.0;
      met = inl (stuck_own trail done next own step lits other parts.0 (unnoted trail done notes name own other lits parts.1) last none latest most, inr noted);
    }

-- the pair of a name whose literals were read
pub pair_at : (clauses : List NamedClause) (name : Name) (a b : Literal) (lits : List Literal) → HasPair clauses name a b → lits_at clauses name ≡ Some lits → IsPair lits a b
pair_at clauses name a b lits has found = subst (λ ls. IsPair ls a b) (same_Some has.lits lits (sym has.found ∙ found)) has.pair

pub pair_found : (clauses : List NamedClause) (trail : List Entry) (name : Name) (own other m : Literal) (lits : List Literal) → HasPair clauses name own other → lits_at clauses name ≡ Some lits →
    IsOther trail lits other (Some m) → HasPair clauses name m other
pair_found clauses trail name own other m lits has found is =
    record { lits = lits; found = found; pair = record { first = is.0; second = (pair_at clauses name own other lits has found).second; apart = is.1 } }

pub pair_last : (clauses : List NamedClause) (trail : List Entry) (name : Name) (own other last : Literal) (lits : List Literal) → HasPair clauses name own other → lits_at clauses name ≡ Some lits →
    IsLatest trail lits other last → HasPair clauses name last other
pair_last clauses trail name own other last lits has found latest =
    record { lits = lits; found = found; pair = record { first = latest.held; second = (pair_at clauses name own other lits has found).second; apart = latest.apart } }

-- the note of a clause all of whose literals but one are false
pub note_sound : (clauses : List NamedClause) (trail : List Entry) (name : Name) (own other : Literal) (lits : List Literal) (row : ℕ) → HasPair clauses name own other → lits_at clauses name ≡ Some lits →
    IsOther trail lits other None → IsNoteOf trail clauses (record { name = name; lit = Some other; row = row })
note_sound clauses trail name own other lits row has found none =
    record { lits = lits; found = found; tells = record { held = (pair_at clauses name own other lits has found).second; others = none } }

-- the name of a row that was read
pub name_read : (rows : List Row) (i : ℕ) (r : Row) → i < length rows → r ≡ get_or rows i r → slice_get (row_names rows) i ≡ Some r.name
name_read rows i r inside is = slice_get-map (λ (row : Row). row.name) rows i ∙ ap (λ (o : Option Row). option_map (λ (row : Row). row.name) o) (slice_get_read rows (length rows) i r refl inside is)

-- the same of a row that is read by its place
pub named_at : (rows : List Row) (i : ℕ) (d : Row) → i < length rows → slice_get (row_names rows) i ≡ Some (get_or rows i d).name
named_at rows i d inside = slice_get-map (λ (row : Row). row.name) rows i ∙ ap (λ (o : Option Row). option_map (λ (row : Row). row.name) o) (slice_get-get_or rows i d inside)

pub name_is : (rows : List Row) (i : ℕ) (d : Row) (name : Name) → i < length rows → slice_get (row_names rows) i ≡ Some name → (get_or rows i d).name ≡ name
name_is rows i d name inside named = same_Some (get_or rows i d).name name (sym (named_at rows i d inside) ∙ named)

-- notes that came in by a visit
pub more_by_added : (trail : List Entry) (clauses : List NamedClause) (names : List Name) (before after : Noted) (note : Note) → IsAdded before.flags.items before.notes.items after.flags.items after.notes.items note →
    slice_get names note.row ≡ Some note.name → IsNoteOf trail clauses note → vec_capacity after.notes ≡ vec_capacity before.notes → vec_capacity after.flags ≡ vec_capacity before.flags → HasMoreNotes trail clauses names before after
more_by_added trail clauses names before after note added named sound notes_room flags_room =
    let load = added_load before.flags.items before.notes.items after.flags.items after.notes.items note added in
    record {
      kept = λ name noted. added_kept before.flags.items before.notes.items after.flags.items after.notes.items note name added noted;
      sound = λ all. added_sound trail clauses before.flags.items before.notes.items after.flags.items after.notes.items note added sound all;
      flagged = λ flagged. added_flagged names before.flags.items before.notes.items after.flags.items after.notes.items note named added flagged;
      load = load.0;
      flags = load.1;
      notes_room = notes_room;
      flags_room = flags_room;
    }
