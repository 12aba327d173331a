-- Tables between calls: on a trail that has grown, and on one that was cut.
use Rattle.std.proofs.Common.{◌≡◌, ◌⊎◌, ℕ, ◌/◌, Bool, true, false, cond, ◌||◌, List, [], ◌∷◌, length, refl, inl, inr, ap, sym, ◌∙◌, subst}
use Rattle.std.specs.Prelude.{Option, Some, None, slice_get}
use Rattle.std.specs.List.{AllByRecursion}
use Rattle.std.proofs.lemmas.Bool.{cases_Bool}
use Rattle.lit_base.specs.Literal.{Literal, same}
use Rattle.lit_base.specs.Trail.{is_true, is_false, is_free}
use Rattle.lit_base.specs.Named.{lits_at}
use Rattle.lit_base.specs.Rounds.{NamedClause, is_falsified}
use Rattle.lit_base.specs.Fits.{HasDistinctVariables, IsImplied}
use Rattle.lit_base.specs.Quiet.{IsQuiet, IsOneOf}
use Rattle.lit_base.specs.declared.trail.Entry.{Entry}
use Rattle.lit_base.specs.declared.name.Name.{Name}
use Rattle.lit_base.specs.Held.{is_among}
use Rattle.lit_base.proofs.DistinctLits.{same-true}
use Rattle.lit_base.proofs.Known.{any_when, all_when}
use Rattle.lit_base.proofs.PropagationFits.{implied_extends}
use Rattle.lit_base.proofs.Standing.{Extends}
use Rattle.round_prop.specs.declared.note.Note.{Note}
use Rattle.round_prop.specs.declared.noted.Noted.{Noted}
use Rattle.round_prop.specs.declared.table.Table.{Table}
use Rattle.round_prop.specs.Linked.{IsPart, IsPair, IsGuarded, IsFine, IsLinked, IsPending, AreOthersFalse}
use Rattle.round_prop.specs.Noting.{Tells, IsNoteOf, AreNotesOf, IsNoted}
use Rattle.round_prop.specs.Readied.{row_names, IsRow, IsTable, IsCovered}
use Rattle.round_prop.proofs.LinkSteps.{not_both, others_swap, guarded_later, noted_later}
use Rattle.round_prop.proofs.NotedRound.{implied_falsified, implied_unit}
use Rattle.round_prop.proofs.OlderParts.{part_extends, part_itself, part_of_part, true_extends, taken_either}
use Rattle.round_prop.proofs.Rounding.{not_late, note_at, among_at}

-- notes stay true
note_resumes : (clauses : List NamedClause) (seen trail : List Entry) (n : Note) → Extends seen trail → IsNoteOf seen clauses n → IsNoteOf trail clauses n
note_resumes clauses seen trail n extends note = record { lits = note.lits; found = note.found; tells = by_lit n.lit note.tells }
  where
    by_lit : (o : Option Literal) → Tells seen o note.lits → Tells trail o note.lits
    by_lit None tells = tells
    by_lit (Some l) tells = implied_extends seen trail l note.lits extends tells

pub notes_resume : (clauses : List NamedClause) (seen trail : List Entry) (notes : List Note) → Extends seen trail → AreNotesOf seen clauses notes → AreNotesOf trail clauses notes
notes_resume clauses seen trail [] extends all = tt
notes_resume clauses seen trail (n ∷ later) extends all = (note_resumes clauses seen trail n extends all.0, notes_resume clauses seen trail later extends all.1)

-- rows on a trail that has grown
row_resumes : (clauses : List NamedClause) (seen trail : List Entry) (notes : List Note) (name : Name) (a b : Literal) → HasDistinctVariables trail → IsPart trail seen → AreNotesOf seen clauses notes →
    IsRow clauses seen seen notes name a b → IsRow clauses trail seen notes name a b
row_resumes clauses seen trail notes name a b distinct part sound row = record { lits = row.lits; found = row.found; pair = row.pair; met = by_met row.met }
  where
    by_guard : (IsLinked trail row.lits a b × IsGuarded trail a b) ⊎ IsPending trail seen row.lits a b → (IsLinked trail row.lits a b × (IsGuarded trail a b ⊎ IsNoted notes name)) ⊎ IsPending trail seen row.lits a b
    by_guard (inl right) = inl (right.0, inl right.1)
    by_guard (inr pending) = inr pending

    by_lit : IsLinked seen row.lits a b → (o : Option Literal) → Tells seen o row.lits → IsLinked trail row.lits a b
    by_lit linked None tells = absurd (never (subst (λ ls. IsOneOf ls a) tells row.pair.first))
      where
        never : false ≡ true → ⊥
        never is = cc
    by_lit linked (Some m) tells = noted_later seen trail row.lits a b m distinct part row.pair linked tells

    by_met : (IsLinked seen row.lits a b × (IsGuarded seen a b ⊎ IsNoted notes name)) ⊎ IsPending seen seen row.lits a b → (IsLinked trail row.lits a b × (IsGuarded trail a b ⊎ IsNoted notes name)) ⊎ IsPending trail seen row.lits a b
    by_met (inl (linked, inl guarded)) = by_guard (guarded_later seen trail row.lits a b distinct part linked guarded)
    by_met (inl (linked, inr noted)) =
        let found = note_at clauses seen notes name row.lits sound noted row.found in inl (by_lit linked found.0 found.1, inr noted)
    by_met (inr pending) = absurd (not_late seen row.lits a b pending)

pub table_resumes : (clauses : List NamedClause) (seen trail : List Entry) (t : Table) → HasDistinctVariables trail → IsPart trail seen → IsTable clauses seen seen t → IsTable clauses trail seen t
table_resumes clauses seen trail t distinct part table = record {
  sized = table.sized;
  threaded = table.threaded;
  rows = λ n name a b named own other. row_resumes clauses seen trail t.noted.notes.items name a b distinct part table.sound (table.rows n name a b named own other);
  flagged = table.flagged;
  sound = notes_resume clauses seen trail t.noted.notes.items (part_extends trail seen distinct part) table.sound;
}

pub covered_resume : (seen trail : List Entry) (notes : List Note) (names : List Name) (some : List NamedClause) → Extends seen trail → AllByRecursion (IsCovered seen notes names) some → AllByRecursion (IsCovered trail notes names) some
covered_resume seen trail notes names [] extends covered = tt
covered_resume seen trail notes names (c ∷ later) extends covered = (by_cover covered.0, covered_resume seen trail notes names later extends covered.1)
  where
    by_cover : IsCovered seen notes names c → IsCovered trail notes names c
    by_cover (inl among) = inl among
    by_cover (inr (inl noted)) = inr (inl noted)
    by_cover (inr (inr some_true)) = inr (inr (any_when (λ k. is_true seen k) (λ k. is_true trail k) (λ k is. true_extends seen trail k extends is) c.lits some_true))

-- rows on a trail that was cut
linked_cut : (trail part : List Entry) (lits : List Literal) (a b : Literal) → IsPart trail part → IsLinked trail lits a b → IsLinked part lits a b
linked_cut trail part lits a b is linked older inside = linked older (part_of_part trail part older is inside)

nothing_false : (l : Literal) → is_false [] l ≡ false
nothing_false l = refl

implied_by_others : (part : List Entry) (lits : List Literal) (a b : Literal) → IsOneOf lits b → AreOthersFalse part lits a b → is_false part a ≡ true → IsImplied part b lits
implied_by_others part lits a b held others lost = record {
  held = held;
  others = all_when (λ m. is_false part m || (same m a || same m b)) (λ m. is_false part m || same m b) (λ m passes. step m (is_false part m) (same m a) refl refl passes) lits others;
}
  where
    step : (m : Literal) (f s : Bool) → is_false part m ≡ f → same m a ≡ s → (is_false part m || (same m a || same m b)) ≡ true → (is_false part m || same m b) ≡ true
    step m true s is same_is passes = ap (λ x. x || same m b) is
    step m false true is same_is passes = absurd (not_both (is_false part m) (subst (λ k. is_false part k ≡ true) (sym (same-true m a same_is)) lost) is)
    step m false false is same_is passes = ap (λ x. x || same m b) is ∙ (sym (ap (λ x. false || (x || same m b)) same_is) ∙ (sym (ap (λ x. x || (same m a || same m b)) is) ∙ passes))

guard_cut : (part : List Entry) (lits : List Literal) (a b : Literal) → IsPair lits a b → IsFine part lits a b → IsQuiet part lits → IsGuarded part a b
guard_cut part lits a b pair (inl guarded) quiet = guarded
guard_cut part lits a b pair (inr others) quiet = by_values (cases_Bool (is_false part a)) (cases_Bool (is_false part b))
  where
    swapped : AreOthersFalse part lits b a
    swapped = others_swap part lits a b others

    one_open : (x y : Literal) → IsOneOf lits y → AreOthersFalse part lits x y → is_false part x ≡ true → is_false part y ≡ false → is_true part y ≡ true
    one_open x y held all_others lost lives = by_free (cases_Bool (is_free part y.variable))
      where
        implied : IsImplied part y lits
        implied = implied_by_others part lits x y held all_others lost

        by_free : (is_free part y.variable ≡ true) ⊎ (is_free part y.variable ≡ false) → is_true part y ≡ true
        by_free (inl free) = absurd (never (sym quiet.not_unit ∙ (implied_unit part y lits implied lives ∙ ap (λ c. cond c (Some y) None) free)))
          where
            never : {X : Type 0} {x : X} → None ≡ Some x → ⊥
            never is = cc
        by_free (inr taken) = by_either (taken_either part y taken)
          where
            by_either : (is_true part y ≡ true) ⊎ (is_false part y ≡ true) → is_true part y ≡ true
            by_either (inl holds) = holds
            by_either (inr gone) = absurd (not_both (is_false part y) gone lives)

    by_values : (is_false part a ≡ true) ⊎ (is_false part a ≡ false) → (is_false part b ≡ true) ⊎ (is_false part b ≡ false) → IsGuarded part a b
    by_values (inl lost) (inl lost_too) =
        absurd (not_both (is_falsified part lits) (implied_falsified part b lits (implied_by_others part lits a b pair.second others lost) ∙ lost_too) quiet.not_falsified)
    by_values (inl lost) (inr lives) = inr (inl (one_open a b pair.second others lost lives))
    by_values (inr lives) (inl lost) = inl (one_open b a pair.first swapped lost lives)
    by_values (inr lives) (inr too) = inr (inr (lives, too))

row_cut : (clauses : List NamedClause) (trail part : List Entry) (notes : List Note) (name : Name) (a b : Literal) → IsPart trail part → IsRow clauses trail trail notes name a b →
    (part ≡ []) ⊎ ((lits : List Literal) → lits_at clauses name ≡ Some lits → IsQuiet part lits) → IsRow clauses part part [] name a b
row_cut clauses trail part notes name a b is row calm = record { lits = row.lits; found = row.found; pair = row.pair; met = by_met row.met }
  where
    by_calm : IsLinked part row.lits a b → (part ≡ []) ⊎ ((lits : List Literal) → lits_at clauses name ≡ Some lits → IsQuiet part lits) → IsGuarded part a b
    by_calm linked (inl none) = inr (inr (ap (λ t. is_false t a) none ∙ nothing_false a, ap (λ t. is_false t b) none ∙ nothing_false b))
    by_calm linked (inr quiet) = guard_cut part row.lits a b row.pair (linked part (part_itself part)) (quiet row.lits row.found)

    by_linked : IsLinked trail row.lits a b → (IsLinked part row.lits a b × (IsGuarded part a b ⊎ IsNoted [] name)) ⊎ IsPending part part row.lits a b
    by_linked linked = let shorter = linked_cut trail part row.lits a b is linked in inl (shorter, inl (by_calm shorter calm))

    by_met : (IsLinked trail row.lits a b × (IsGuarded trail a b ⊎ IsNoted notes name)) ⊎ IsPending trail trail row.lits a b → (IsLinked part row.lits a b × (IsGuarded part a b ⊎ IsNoted [] name)) ⊎ IsPending part part row.lits a b
    by_met (inl (linked, _)) = by_linked linked
    by_met (inr pending) = absurd (not_late trail row.lits a b pending)

-- without notes, and with no flag set
pub table_cut : (clauses : List NamedClause) (trail part : List Entry) (t : Table) (noted : Noted) → IsPart trail part → IsTable clauses trail trail t → noted.notes.items ≡ [] →
    ((row : ℕ) → slice_get noted.flags.items row ≡ Some true → ⊥) → length noted.flags.items ≡ length t.noted.flags.items →
    (part ≡ []) ⊎ ((name : Name) (lits : List Literal) → is_among (row_names t.rows.items) name ≡ true → lits_at clauses name ≡ Some lits → IsQuiet part lits) → IsTable clauses part part (record t { noted = noted })
table_cut clauses trail part t noted is table none clear long calm = record {
  sized = record { nodes = table.sized.nodes; flags = long ∙ table.sized.flags };
  threaded = table.threaded;
  rows = λ n name a b named own other. subst (λ ns. IsRow clauses part part ns name a b) (sym none) (row_cut clauses trail part t.noted.notes.items name a b is (table.rows n name a b named own other) (by_calm name (n / 2) named calm));
  flagged = λ row name named set_now. absurd (clear row set_now);
  sound = subst (λ ns. AreNotesOf part clauses ns) (sym none) tt;
}
  where
    by_calm : (name : Name) (n : ℕ) → slice_get (row_names t.rows.items) n ≡ Some name → (part ≡ []) ⊎ ((k : Name) (lits : List Literal) → is_among (row_names t.rows.items) k ≡ true → lits_at clauses k ≡ Some lits → IsQuiet part lits) →
        (part ≡ []) ⊎ ((lits : List Literal) → lits_at clauses name ≡ Some lits → IsQuiet part lits)
    by_calm name n named (inl empty) = inl empty
    by_calm name n named (inr quiet) = inr (λ lits found. quiet name lits (among_at (row_names t.rows.items) n name named) found)
