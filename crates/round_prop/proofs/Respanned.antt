-- Attached clauses whose rows were found anew, under the same names.
use Rattle.std.proofs.Common.{◌≡◌, ◌⊎◌, ℕ, true, Vec, Global, List, ◌++◌, length, ap, sym, ◌∙◌, subst, arith}
use Rattle.std.specs.Prelude.{IsTrue, IsFalse, None, if◌then◌else◌, vec_len, vec_capacity}
use Rattle.std.specs.List.{AllByRecursion, list_any}
use Rattle.std.proofs.lemmas.List.{length-map}
use Rattle.lit_base.specs.Trail.{is_true}
use Rattle.lit_base.specs.Rounds.{NamedClause}
use Rattle.lit_base.specs.Named.{lits_at}
use Rattle.lit_base.specs.Held.{is_among, names_of}
use Rattle.lit_base.specs.declared.trail.Entry.{Entry}
use Rattle.lit_base.specs.declared.name.Name.{Name}
use Rattle.round_prop.specs.Attached.{RoundsState, AreAttachedIn, IsAttachedBy, AreRoomy}
use Rattle.round_prop.specs.Chains.{lits_of}
use Rattle.round_prop.specs.Noting.{IsNoted, AreFlagged}
use Rattle.round_prop.specs.Readied.{row_names, AreRows, AreSized, IsTable, AreNamedApart}
use Rattle.round_prop.specs.Shorts.{short_names}
use Rattle.round_prop.specs.declared.row.Row.{Row}
use Rattle.round_prop.specs.declared.short.Short.{Short}
use Rattle.round_prop.specs.declared.table.Table.{Table}

module _ (t : Table) (rows : Vec Row Global) (names : row_names rows.items ≡ row_names t.rows.items) where
  same_long : length rows.items ≡ length t.rows.items
  same_long = sym (length-map rows.items (λ (r : Row). r.name)) ∙ (ap length names ∙ length-map t.rows.items (λ (r : Row). r.name))

  same_sized : AreSized t → AreSized (record t { rows = rows })
  same_sized sized = let e = same_long in record { nodes = omega (arith, e, sized.nodes); flags = omega (arith, e, sized.flags) }

  -- the table is as right
  same_table : (clauses : List NamedClause) (trail done : List Entry) → IsTable clauses trail done t → IsTable clauses trail done (record t { rows = rows })
  same_table clauses trail done table = record {
    sized = same_sized table.sized;
    threaded = table.threaded;
    rows = subst (λ ns. AreRows clauses trail done t.noted.notes.items ns (lits_of t.links.nodes.items)) (sym names) table.rows;
    flagged = subst (λ ns. AreFlagged ns t.noted.flags.items t.noted.notes.items) (sym names) table.flagged;
    sound = table.sound;
  }

  -- the same clauses are attached
  pub same_attached : (clauses : List NamedClause) (trail done : List Entry) (shorts : List Short) (fresh : List Name) → AreAttachedIn clauses trail done t shorts fresh → AreAttachedIn clauses trail done (record t { rows = rows }) shorts fresh
  same_attached clauses trail done shorts fresh are = record {
    rising = are.rising;
    table = same_table clauses trail done are.table;
    apart = subst AreNamedApart (sym names) are.apart;
    short = are.short;
    known = subst
        (λ ns. AllByRecursion
        (λ (c : NamedClause). IsTrue (is_among fresh c.name)
        ⊎ (IsTrue (is_among ns c.name) ⊎ (IsTrue (is_among (short_names shorts) c.name) × (IsNoted t.noted.notes.items c.name ⊎ (list_any (is_true trail) c.lits ≡ true))))) clauses)
        (sym names) are.known;
    fresh_found = are.fresh_found;
    fresh_apart = are.fresh_apart;
    fresh_new = subst (λ ns. AllByRecursion (λ name. IsFalse (is_among ns name)) fresh) (sym names) are.fresh_new;
  }

  -- and there is as much room
  pub same_roomy : (variables shorts most fresh : ℕ) → vec_len rows ≡ vec_len t.rows → vec_capacity rows ≡ vec_capacity t.rows → AreRoomy variables t shorts most fresh → AreRoomy variables (record t { rows = rows }) shorts most fresh
  same_roomy variables shorts most fresh long room roomy = record {
    sized = same_sized roomy.sized;
    flagged = subst (λ ns. AreFlagged ns t.noted.flags.items t.noted.notes.items) (sym names) roomy.flagged;
    wide = roomy.wide;
    few = roomy.few;
    rows_room = omega (arith, long, room, roomy.rows_room);
    nodes_room = roomy.nodes_room;
    flags_room = roomy.flags_room;
    notes_room = roomy.notes_room;
    notes_anew = omega (arith, long, roomy.notes_anew);
    shorts_room = roomy.shorts_room;
  }

-- the same of what propagation keeps
pub attached_respanned : (r : RoundsState) (rows : Vec Row Global) (attached : List NamedClause) (fresh : List Name) (seen : List Entry) → row_names rows.items ≡ row_names r.table.rows.items →
    IsAttachedBy r attached fresh seen → IsAttachedBy (record r { table = record r.table { rows = rows } }) attached fresh seen
attached_respanned r rows attached fresh seen names is = record {
  fresh_are = is.fresh_are;
  seen_are = is.seen_are;
  found = subst
      (λ ns. (name : Name) → lits_at attached name ≡
      (if is_among (names_of r.fresh) name then lits_at r.fresh name else (if is_among (ns ++ short_names r.shorts) name then lits_at r.propagated name else None))) (sym names) is.found;
  distinct = is.distinct;
  are = same_attached r.table rows names attached seen seen r.shorts fresh is.are;
}
