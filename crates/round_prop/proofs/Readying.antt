-- Tables from which propagation may go on, as their notes are sorted, and dropped or kept.
use Rattle.std.proofs.Common.{◌≡◌, ℕ, Bool, true, false, List, [], ◌∷◌, ◌++◌, length, refl, inl, inr, ap, sym, ◌∙◌, subst, arith, Vec, Global, vec_capacity}
use Rattle.std.specs.Prelude.{Option, Some, None, IfNone, is_some}
use Rattle.std.specs.List.{AllByRecursion}
use Rattle.std.specs.List.Sorted.{IsPermutation}
use Rattle.std.proofs.lemmas.List.{length-map, length-append, nil_from_length}
use Rattle.std.proofs.lemmas.List.Sorted.{length_permutation}
use Rattle.lit_base.specs.Named.{lits_at}
use Rattle.lit_base.specs.Held.{AreRisingBy}
use Rattle.lit_base.specs.Rounds.{NamedClause, conflict_of, with_units, round, round_by}
use Rattle.lit_base.specs.Fits.{HasDistinctVariables, FindsAll}
use Rattle.lit_base.specs.declared.trail.Entry.{Entry}
use Rattle.lit_base.specs.declared.name.Name.{Name}
use Rattle.round_prop.specs.declared.note.Note.{Note}
use Rattle.round_prop.specs.declared.noted.Noted.{Noted}
use Rattle.round_prop.specs.declared.row.Row.{Row}
use Rattle.round_prop.specs.declared.node.Node.{Node}
use Rattle.round_prop.specs.declared.table.Table.{Table}
use Rattle.round_prop.specs.Chains.{lits_of}
use Rattle.round_prop.specs.Linked.{IsPart}
use Rattle.round_prop.specs.Noting.{AreNotesOf, IsNoted, AreFlagged, clear_count, with_noted, lost_notes, flags_after, conflict_in, AreInOrder}
use Rattle.round_prop.specs.Readied.{row_names, AreRows, IsTable, IsCovered, AreCovered, AreNamedApart, IsReady, HaveSameRows}
use Rattle.round_prop.proofs.NotedRound.{round_noted}
use Rattle.round_prop.proofs.NoteSteps.{flagged_after, load_after, length_after}
use Rattle.round_prop.proofs.Rounding.{noted_or_quiet, noted_sorted, flagged_sorted, rows_after, sound_after, covered_after}
use Rattle.round_prop.proofs.Sorting.{sound_sorted}
use Rattle.round_prop.proofs.WalkSteps.{row_notes}

-- covered clauses stay so, as notes come in
covered_more : (trail : List Entry) (notes more : List Note) (names : List Name) (some : List NamedClause) → ((name : Name) → IsNoted notes name → IsNoted more name) →
    AllByRecursion (IsCovered trail notes names) some → AllByRecursion (IsCovered trail more names) some
covered_more trail notes more names [] kept covered = tt
covered_more trail notes more names (c ∷ later) kept covered = (by_cover covered.0, covered_more trail notes more names later kept covered.1)
  where
    by_cover : IsCovered trail notes names c → IsCovered trail more names c
    by_cover (inl among) = inl among
    by_cover (inr (inl noted)) = inr (inl (kept c.name noted))
    by_cover (inr (inr some_true)) = inr (inr some_true)

-- the same with a table of the same rows
pub ready_same : (variables : ℕ) (clauses : List NamedClause) (trail done after-trail after-done : List Entry) (before after : Table) → IsReady variables clauses trail done before → HaveSameRows before after →
    IsTable clauses after-trail after-done after → AreCovered clauses after-trail after → IsReady variables clauses after-trail after-done after
ready_same variables clauses trail done after-trail after-done before after ready rows table covered = record {
  table = table;
  covered = covered;
  apart = subst (λ rs. AreNamedApart (row_names rs)) (sym rows.rows) ready.apart;
  wide = rows.heads ∙ ready.wide;
  room = omega (arith, ready.room, rows.load, rows.notes_room);
}

pub gathered_ready : (variables : ℕ) (clauses : List NamedClause) (trail done : List Entry) (before after : Table) → IsReady variables clauses trail done before → HaveSameRows before after →
    IsTable clauses trail trail after → ((name : Name) → IsNoted before.noted.notes.items name → IsNoted after.noted.notes.items name) → IsReady variables clauses trail trail after
gathered_ready variables clauses trail done before after ready rows table kept =
    ready_same variables clauses trail done trail trail before after ready rows table
    (subst (λ rs. AllByRecursion (IsCovered trail after.noted.notes.items (row_names rs)) clauses) (sym rows.rows)
    (covered_more trail before.noted.notes.items after.noted.notes.items (row_names before.rows.items) clauses kept ready.covered))

-- its notes are sorted
module _ (t : Table) (noted : Noted) (permuted : IsPermutation t.noted.notes.items noted.notes.items) (flags : noted.flags ≡ t.noted.flags) (room : vec_capacity noted.notes ≡ vec_capacity t.noted.notes) where
  pub same_sorted : HaveSameRows t (record t { noted = noted })
  same_sorted = record {
    rows = refl;
    heads = refl;
    nodes = refl;
    flags = ap (λ (v : Vec Bool Global). length v.items) flags;
    load = let a = ap (λ (v : Vec Bool Global). clear_count v.items) flags in let b = length_permutation t.noted.notes.items noted.notes.items permuted in omega (arith, a, b);
    rows_room = refl;
    nodes_room = refl;
    notes_room = room;
    flags_room = ap (λ (v : Vec Bool Global). vec_capacity v) flags;
  }

  sorted_table : (clauses : List NamedClause) (trail done : List Entry) → IsTable clauses trail done t → IsTable clauses trail done (record t { noted = noted })
  sorted_table clauses trail done table = record {
    sized = record { nodes = table.sized.nodes; flags = ap (λ (v : Vec Bool Global). length v.items) flags ∙ table.sized.flags };
    threaded = table.threaded;
    rows = λ n name a b named own other. row_notes clauses trail done t.noted.notes.items noted.notes.items name a b (noted_sorted t.noted.notes.items noted.notes.items permuted name) (table.rows n name a b named own other);
    flagged = subst (λ (v : Vec Bool Global). AreFlagged (row_names t.rows.items) v.items noted.notes.items) (sym flags)
        (flagged_sorted t.noted.notes.items noted.notes.items permuted (row_names t.rows.items) t.noted.flags.items table.flagged);
    sound = sound_sorted trail clauses t.noted.notes.items noted.notes.items permuted table.sound;
  }

  pub sorted_ready : (variables : ℕ) (clauses : List NamedClause) (trail done : List Entry) → IsReady variables clauses trail done t → IsReady variables clauses trail done (record t { noted = noted })
  sorted_ready variables clauses trail done ready =
      ready_same variables clauses trail done trail done t (record t { noted = noted }) ready same_sorted (sorted_table clauses trail done ready.table)
      (covered_more trail t.noted.notes.items noted.notes.items (row_names t.rows.items) clauses (noted_sorted t.noted.notes.items noted.notes.items permuted) ready.covered)

-- a table whose notes are in order tells the round
pub ready_round : (variables : ℕ) (clauses : List NamedClause) (trail : List Entry) (t : Table) → IsReady variables clauses trail trail t → AreInOrder t.noted.notes.items → FindsAll (lits_at clauses) clauses →
    AreRisingBy (λ (c : NamedClause). c.name) clauses →
    (conflict_in trail t.noted.notes.items ≡ conflict_of trail clauses) × (conflict_of trail clauses ≡ None → with_noted t.noted.notes.items trail ≡ with_units trail clauses trail)
ready_round variables clauses trail t ready order finds rising =
    round_noted trail clauses t.noted.notes.items rising order ready.table.sound
    (noted_or_quiet clauses trail t.noted.notes.items (row_names t.rows.items) (lits_of t.links.nodes.items)
    (omega (arith, ready.table.sized.nodes, length-map t.rows.items (λ (r : Row). r.name), length-map t.links.nodes.items (λ (m : Node). m.lit))) ready.table.rows clauses finds ready.covered)

-- its notes are implied, and those of falsified clauses are kept
module _ (t : Table) (noted : Noted) (trail after : List Entry) (is : after ≡ with_noted t.noted.notes.items trail) (distinct : HasDistinctVariables after)
    (notes : noted.notes.items ≡ lost_notes after t.noted.notes.items) (flags : noted.flags.items ≡ flags_after after t.noted.notes.items t.noted.flags.items)
    (notes_room : vec_capacity noted.notes ≡ vec_capacity t.noted.notes) (flags_room : vec_capacity noted.flags ≡ vec_capacity t.noted.flags) where
  pub same_settled : HaveSameRows t (record t { noted = noted })
  same_settled = record {
    rows = refl;
    heads = refl;
    nodes = refl;
    flags = ap length flags ∙ length_after after t.noted.notes.items t.noted.flags.items;
    load = let a = ap length notes in let b = ap clear_count flags in let c = load_after after t.noted.notes.items t.noted.flags.items in omega (arith, a, b, c);
    rows_room = refl;
    nodes_room = refl;
    notes_room = notes_room;
    flags_room = flags_room;
  }

  whole : HasDistinctVariables (with_noted t.noted.notes.items trail)
  whole = subst HasDistinctVariables is distinct

  pub settled_ready : (variables : ℕ) (clauses : List NamedClause) → FindsAll (lits_at clauses) clauses → IsReady variables clauses trail trail t → IsReady variables clauses after trail (record t { noted = noted })
  settled_ready variables clauses finds ready =
      let names = row_names t.rows.items in
      let lits = lits_of t.links.nodes.items in
      let old = t.noted.notes.items in
      ready_same variables clauses trail trail after trail t (record t { noted = noted }) ready same_settled
      (record {
        sized = record { nodes = ready.table.sized.nodes; flags = ap length flags ∙ (length_after after old t.noted.flags.items ∙ ready.table.sized.flags) };
        threaded = ready.table.threaded;
        rows = subst (λ ns. AreRows clauses after trail ns names lits) (sym notes)
            (subst (λ s. AreRows clauses s trail (lost_notes s old) names lits) (sym is) (rows_after clauses trail old names lits whole ready.table.sound ready.table.rows));
        flagged = subst (λ ns. AreFlagged names noted.flags.items ns) (sym notes) (subst (λ fs. AreFlagged names fs (lost_notes after old)) (sym flags) (flagged_after after names t.noted.flags.items old ready.table.flagged));
        sound = subst (λ ns. AreNotesOf after clauses ns) (sym notes) (subst (λ s. AreNotesOf s clauses (lost_notes s old)) (sym is) (sound_after clauses trail old names lits whole ready.table.sound));
      })
      (subst (λ ns. AllByRecursion (IsCovered after ns names) clauses) (sym notes)
      (subst (λ s. AllByRecursion (IsCovered s (lost_notes s old) names) clauses) (sym is) (covered_after clauses trail old names lits whole ready.table.sound clauses finds ready.covered)))

-- what a round answers
if_some : {X : Type 0} (o : Option X) → is_some o ≡ true → (x : X) × (o ≡ Some x)
if_some None is = cc
if_some (Some x) is = (x, refl)

pub round_conflict : (clauses : List NamedClause) (trail : List Entry) (o : Option Name) → o ≡ conflict_of trail clauses → is_some o ≡ true → (o ≡ (round clauses trail).conflict) × (trail ≡ (round clauses trail).trail)
round_conflict clauses trail o is some =
    let one = if_some o some in
    let found : conflict_of trail clauses ≡ Some one.0 = sym is ∙ one.1 in
    (one.1 ∙ sym (ap (λ (p : Option Name). (round_by clauses trail p).conflict) found), sym (ap (λ (p : Option Name). (round_by clauses trail p).trail) found))

none_of : {X : Type 0} (o : Option X) → is_some o ≡ false → o ≡ None
none_of None is = refl
none_of (Some x) is = cc

if_none : (P : Type 0) (o : Option Name) → o ≡ None → IfNone o P → P
if_none P None none is = is
if_none P (Some name) none is = cc

pub round_units : (clauses : List NamedClause) (trail after : List Entry) (notes : List Note) (o : Option Name) → o ≡ conflict_of trail clauses → is_some o ≡ false → IfNone o (with_noted notes trail ≡ with_units trail clauses trail) →
    after ≡ with_noted notes trail → (None ≡ (round clauses trail).conflict) × (after ≡ (round clauses trail).trail)
round_units clauses trail after notes o is none units grown =
    let absent : conflict_of trail clauses ≡ None = sym is ∙ none_of o none in (
      sym (ap (λ (p : Option Name). (round_by clauses trail p).conflict) absent),
      grown ∙ (if_none (with_noted notes trail ≡ with_units trail clauses trail) o (none_of o none) units ∙ sym (ap (λ (p : Option Name). (round_by clauses trail p).trail) absent)),
    )

pub units_if_none : (clauses : List NamedClause) (trail : List Entry) (notes : List Note) (o : Option Name) → o ≡ conflict_of trail clauses → (conflict_of trail clauses ≡ None → with_noted notes trail ≡ with_units trail clauses trail) →
    IfNone o (with_noted notes trail ≡ with_units trail clauses trail)
units_if_none clauses trail notes None is units = units (sym is)
units_if_none clauses trail notes (Some name) is units = tt

-- a trail that is an older part of another and as long is that one
pub as_long : (trail after : List Entry) → IsPart after trail → length after ≡ length trail → after ≡ trail
as_long trail after part long =
    let none : part.newer ≡ [] = nil_from_length part.newer (omega (arith, long, ap length part.front, length-append part.newer trail)) in part.front ∙ ap (λ es. es ++ trail) none
