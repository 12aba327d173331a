-- A row that comes into a table, and its note.
use Rattle.std.proofs.Common.{◌≡◌, ◌⊎◌, ℕ, zero, suc, ◌+◌, ◌-◌, ◌*◌, ◌/◌, ◌%◌, ◌<◌, ◌≤◌, Bool, true, List, [], ◌∷◌, ◌++◌, length, inl, inr, ap, sym, ◌∙◌, subst, arith, Vec, Global}
use Rattle.std.specs.Prelude.{Some, None, slice_get, if◌then◌else◌}
use Rattle.std.proofs.lemmas.Bool.{ne_eqb, eq-eqb}
use Rattle.std.proofs.lemmas.List.{length-map, length-append, map-append}
use Rattle.std.proofs.lemmas.Option.{same_Some, slice_get_within}
use Rattle.lit_base.specs.Literal.{Literal}
use Rattle.lit_base.specs.Rounds.{NamedClause}
use Rattle.lit_base.specs.declared.trail.Entry.{Entry}
use Rattle.lit_base.specs.declared.name.Name.{Name}
use Rattle.lit_base.proofs.Lists.{one_more}
use Rattle.round_prop.specs.declared.node.Node.{Node}
use Rattle.round_prop.specs.declared.note.Note.{Note}
use Rattle.round_prop.specs.declared.noted.Noted.{Noted}
use Rattle.round_prop.specs.declared.row.Row.{Row}
use Rattle.round_prop.specs.declared.table.Table.{Table}
use Rattle.round_prop.specs.Chains.{lits_of, AreThreaded}
use Rattle.round_prop.specs.Noting.{IsNoteOf, AreNotesOf, IsNoted, HasNote, AreFlagged, clear_count}
use Rattle.round_prop.specs.Readied.{row_names, flip, IsRow, AreRows, IsTable}
use Rattle.round_prop.proofs.NoteSteps.{slice_get-parts, noted_more, has_more}
use Rattle.round_prop.proofs.WalkSteps.{flip_flip, flip_within, row_swap, row_notes}

-- the last two nodes are those of the new row
flip_even : (r : ℕ) → flip (2 * r) ≡ 2 * r + 1
flip_even r = ap (λ (b : Bool). if b then 2 * r + 1 else 2 * r - 1) (eq-eqb (2 * r % 2) 0 (omega arith))

flip_odd : (r : ℕ) → flip (2 * r + 1) ≡ 2 * r
flip_odd r = ap (λ (b : Bool). if b then 2 * r + 1 + 1 else 2 * r + 1 - 1) (ne_eqb ((2 * r + 1) % 2) 0 (λ is. absurd (omega (arith, is)))) ∙ omega arith

pub rows_linked : (clauses : List NamedClause) (trail done : List Entry) (notes : List Note) (names : List Name) (lits : List Literal) (name : Name) (a b : Literal) → length lits ≡ 2 * length names →
    AreRows clauses trail done notes names lits → IsRow clauses trail done notes name a b → AreRows clauses trail done notes (names ++ name ∷ []) (lits ++ a ∷ b ∷ [])
rows_linked clauses trail done notes names lits name a b sized rows row n x p q named first second = by_case (slice_get-parts lits (a ∷ b ∷ []) n p first) (slice_get-parts lits (a ∷ b ∷ []) (flip n) q second)
  where
    none : {X : Type 0} {x : X} → None ≡ Some x → ⊥
    none is = cc

    old_name : n / 2 < length names → slice_get names (n / 2) ≡ Some x
    old_name inside = by_parts (slice_get-parts names (name ∷ []) (n / 2) x named)
      where
        by_parts : (slice_get names (n / 2) ≡ Some x) ⊎ ((k : ℕ) × ((n / 2 ≡ length names + k) × (slice_get (name ∷ []) k ≡ Some x))) → slice_get names (n / 2) ≡ Some x
        by_parts (inl here) = here
        by_parts (inr (k, (at, _))) = absurd (omega (arith, at, inside))

    new_name : length names ≤ n / 2 → name ≡ x
    new_name past = by_parts (slice_get-parts names (name ∷ []) (n / 2) x named)
      where
        at_zero : (k : ℕ) → slice_get (name ∷ []) k ≡ Some x → name ≡ x
        at_zero zero is = same_Some name x is
        at_zero (suc k) is = absurd (none is)

        by_parts : (slice_get names (n / 2) ≡ Some x) ⊎ ((k : ℕ) × ((n / 2 ≡ length names + k) × (slice_get (name ∷ []) k ≡ Some x))) → name ≡ x
        by_parts (inl here) = absurd (omega (arith, past, slice_get_within names (n / 2) x here))
        by_parts (inr (k, (_, is))) = at_zero k is

    flip_old : n < length lits → flip n < length lits
    flip_old inside = omega (arith, flip_within n (length names) (omega (arith, inside, sized)), sized)

    by_new : (j k : ℕ) → n ≡ length lits + j → slice_get (a ∷ b ∷ []) j ≡ Some p → flip n ≡ length lits + k → slice_get (a ∷ b ∷ []) k ≡ Some q → IsRow clauses trail done notes x p q
    by_new zero k at is at_too is_too = by_other k at_too is_too
      where
        even : n ≡ 2 * length names
        even = omega (arith, at, sized)

        place : flip n ≡ 2 * length names + 1
        place = ap flip even ∙ flip_even (length names)

        by_other : (i : ℕ) → flip n ≡ length lits + i → slice_get (a ∷ b ∷ []) i ≡ Some q → IsRow clauses trail done notes x p q
        by_other zero wrong other = absurd (omega (arith, wrong, place, sized))
        by_other (suc zero) right other =
            subst (λ z. IsRow clauses trail done notes z p q) (new_name (omega (arith, even)))
            (subst (λ z. IsRow clauses trail done notes name z q) (same_Some a p is) (subst (λ z. IsRow clauses trail done notes name a z) (same_Some b q other) row))
        by_other (suc (suc i)) wrong other = absurd (none other)
    by_new (suc zero) k at is at_too is_too = by_other k at_too is_too
      where
        odd : n ≡ 2 * length names + 1
        odd = omega (arith, at, sized)

        place : flip n ≡ 2 * length names
        place = ap flip odd ∙ flip_odd (length names)

        by_other : (i : ℕ) → flip n ≡ length lits + i → slice_get (a ∷ b ∷ []) i ≡ Some q → IsRow clauses trail done notes x p q
        by_other zero right other =
            subst (λ z. IsRow clauses trail done notes z p q) (new_name (omega (arith, odd)))
            (subst (λ z. IsRow clauses trail done notes name z q) (same_Some b p is) (subst (λ z. IsRow clauses trail done notes name b z) (same_Some a q other) (row_swap clauses trail done notes name a b row)))
        by_other (suc i) wrong other = absurd (omega (arith, wrong, place, sized))
    by_new (suc (suc j)) k at is at_too is_too = absurd (none is)

    by_case : (slice_get lits n ≡ Some p) ⊎ ((k : ℕ) × ((n ≡ length lits + k) × (slice_get (a ∷ b ∷ []) k ≡ Some p))) →
        (slice_get lits (flip n) ≡ Some q) ⊎ ((k : ℕ) × ((flip n ≡ length lits + k) × (slice_get (a ∷ b ∷ []) k ≡ Some q))) → IsRow clauses trail done notes x p q
    by_case (inl here) (inl there) = let inside = slice_get_within lits n p here in rows n x p q (old_name (omega (arith, inside, sized))) here there
    by_case (inl here) (inr (k, (at, _))) = absurd (omega (arith, at, flip_old (slice_get_within lits n p here)))
    by_case (inr (j, (at, is))) (inl there) =
        let inside = slice_get_within lits (flip n) q there in
        let back = flip_within (flip n) (length names) (omega (arith, inside, sized)) in
        absurd (omega (arith, at, back, sized, flip_flip n))
    by_case (inr (j, (at, is))) (inr (k, (at_too, is_too))) = by_new j k at is at_too is_too

flags_linked : (names : List Name) (flags : List Bool) (notes : List Note) (name : Name) (flag : Bool) → length flags ≡ length names → (flag ≡ true → HasNote notes (length names) name) → AreFlagged names flags notes →
    AreFlagged (names ++ name ∷ []) (flags ++ flag ∷ []) notes
flags_linked names flags notes name flag sized has flagged row x named set_now = by_case (slice_get-parts names (name ∷ []) row x named) (slice_get-parts flags (flag ∷ []) row true set_now)
  where
    none : {X : Type 0} {x : X} → None ≡ Some x → ⊥
    none is = cc

    by_new : (j k : ℕ) → row ≡ length names + j → slice_get (name ∷ []) j ≡ Some x → slice_get (flag ∷ []) k ≡ Some true → HasNote notes row x
    by_new zero zero at is is_too = subst (λ z. HasNote notes row z) (same_Some name x is) (subst (λ r. HasNote notes r name) (omega (arith, at)) (has (same_Some flag true is_too)))
    by_new zero (suc k) at is is_too = absurd (none is_too)
    by_new (suc j) k at is is_too = absurd (none is)

    by_case : (slice_get names row ≡ Some x) ⊎ ((k : ℕ) × ((row ≡ length names + k) × (slice_get (name ∷ []) k ≡ Some x))) →
        (slice_get flags row ≡ Some true) ⊎ ((k : ℕ) × ((row ≡ length flags + k) × (slice_get (flag ∷ []) k ≡ Some true))) → HasNote notes row x
    by_case (inl here) (inl there) = flagged row x here there
    by_case (inl here) (inr (k, (at, _))) = absurd (omega (arith, at, slice_get_within names row x here, sized))
    by_case (inr (j, (at, is))) (inl there) = absurd (omega (arith, at, slice_get_within flags row true there, sized))
    by_case (inr (j, (at, is))) (inr (k, (_, is_too))) = by_new j k at is is_too

-- the table with the row
pub table_linked : (clauses : List NamedClause) (trail done : List Entry) (before after : Table) (row : Row) (a b : Literal) (flag : Bool) → IsTable clauses trail done before → IsRow clauses trail done before.noted.notes.items row.name a b →
    (flag ≡ true → HasNote before.noted.notes.items (length before.rows.items) row.name) → after.rows.items ≡ before.rows.items ++ row ∷ [] → after.noted.flags.items ≡ before.noted.flags.items ++ flag ∷ [] →
    lits_of after.links.nodes.items ≡ lits_of before.links.nodes.items ++ a ∷ b ∷ [] → after.noted.notes ≡ before.noted.notes → AreThreaded after.links.heads.items after.links.nodes.items → IsTable clauses trail done after
table_linked clauses trail done before after row a b flag table right has rows flags lits notes threaded =
    let names : row_names after.rows.items ≡ row_names before.rows.items ++ row.name ∷ [] = ap row_names rows ∙ map-append (λ (r : Row). r.name) before.rows.items (row ∷ []) in
    let long_names : length (row_names before.rows.items) ≡ length before.rows.items = length-map before.rows.items (λ (r : Row). r.name) in
    let old_rows : AreRows clauses trail done before.noted.notes.items (row_names before.rows.items ++ row.name ∷ []) (lits_of before.links.nodes.items ++ a ∷ b ∷ []) =
    rows_linked clauses trail done before.noted.notes.items (row_names before.rows.items) (lits_of before.links.nodes.items) row.name a b
    (omega (arith, table.sized.nodes, long_names, length-map before.links.nodes.items (λ (m : Node). m.lit))) table.rows right in
    let old_flags : AreFlagged (row_names before.rows.items ++ row.name ∷ []) (before.noted.flags.items ++ flag ∷ []) before.noted.notes.items =
    flags_linked (row_names before.rows.items) before.noted.flags.items before.noted.notes.items row.name flag (omega (arith, table.sized.flags, long_names))
    (λ set_now. subst (λ r. HasNote before.noted.notes.items r row.name) (sym long_names) (has set_now)) table.flagged in
    record {
      sized = record {
        nodes = let x = ap length lits in let y = ap length rows in
            omega (arith, x, y, table.sized.nodes, length-map before.links.nodes.items (λ (m : Node). m.lit), length-map after.links.nodes.items (λ (m : Node). m.lit), length-append before.rows.items (row ∷ []), length-append (lits_of before.links.nodes.items) (a ∷ b ∷ []));
        flags = let x = ap length flags in let y = ap length rows in omega (arith, x, y, table.sized.flags, length-append before.rows.items (row ∷ []), length-append before.noted.flags.items (flag ∷ []));
      };
      threaded = threaded;
      rows = subst (λ ls. AreRows clauses trail done after.noted.notes.items (row_names after.rows.items) ls) (sym lits)
          (subst (λ ns. AreRows clauses trail done after.noted.notes.items ns (lits_of before.links.nodes.items ++ a ∷ b ∷ [])) (sym names)
          (subst (λ (v : Vec Note Global). AreRows clauses trail done v.items (row_names before.rows.items ++ row.name ∷ []) (lits_of before.links.nodes.items ++ a ∷ b ∷ [])) (sym notes) old_rows));
      flagged = subst (λ fs. AreFlagged (row_names after.rows.items) fs after.noted.notes.items) (sym flags)
          (subst (λ ns. AreFlagged ns (before.noted.flags.items ++ flag ∷ []) after.noted.notes.items) (sym names)
          (subst (λ (v : Vec Note Global). AreFlagged (row_names before.rows.items ++ row.name ∷ []) (before.noted.flags.items ++ flag ∷ []) v.items) (sym notes) old_flags));
      sound = subst (λ (v : Vec Note Global). AreNotesOf trail clauses v.items) (sym notes) table.sound;
    }

-- a note more
pub table_noted : (clauses : List NamedClause) (trail done : List Entry) (t : Table) (noted : Noted) (note : Note) → noted.notes.items ≡ t.noted.notes.items ++ note ∷ [] → noted.flags ≡ t.noted.flags → IsNoteOf trail clauses note →
    IsTable clauses trail done t → IsTable clauses trail done (record t { noted = noted })
table_noted clauses trail done t noted note notes flags true_note table = record {
  sized = record { nodes = table.sized.nodes; flags = ap (λ (v : Vec Bool Global). length v.items) flags ∙ table.sized.flags };
  threaded = table.threaded;
  rows = λ n name a b named own other. row_notes clauses trail done t.noted.notes.items noted.notes.items name a b (λ old. subst (λ ns. IsNoted ns name) (sym notes) (noted_more t.noted.notes.items (note ∷ []) name old)) (table.rows n name a b named own other);
  flagged = subst (λ (v : Vec Bool Global). AreFlagged (row_names t.rows.items) v.items noted.notes.items) (sym flags)
      (λ row name named set_now. subst (λ ns. HasNote ns row name) (sym notes) (has_more t.noted.notes.items (note ∷ []) row name (table.flagged row name named set_now)));
  sound = subst (λ ns. AreNotesOf trail clauses ns) (sym notes) (one_more (IsNoteOf trail clauses) t.noted.notes.items note table.sound true_note);
}

-- flags that come in
pub clear-append : (flags : List Bool) (flag : Bool) → clear_count (flags ++ flag ∷ []) ≡ clear_count flags + (if flag then 0 else 1)
clear-append [] flag = omega arith
clear-append (first ∷ later) flag = let rest = clear-append later flag in omega (arith, rest)
