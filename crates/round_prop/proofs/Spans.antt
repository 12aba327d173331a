-- Rows that tell where their clauses stand, as rows come in, are found anew, and clauses are added.
use Rattle.std.proofs.Common.{◌≡◌, ℕ, ◌<◌, ◌≤◌, ◌+◌, Bool, true, false, cond, List, [], ◌∷◌, ◌++◌, length, get_or, map, Vec, Global, refl, ap, sym, ◌∙◌, subst, arith}
use Rattle.std.specs.Prelude.{zero, suc, nat_lt, Option, Some, None}
use Rattle.std.specs.Prelude.{vec_len}
use Rattle.std.specs.Vec.{with_items}
use Rattle.std.proofs.lemmas.List.{length-map, with_items_is}
use Rattle.std.proofs.lemmas.Option.{same_Some}
use Rattle.lit_base.specs.Literal.{Literal}
use Rattle.lit_base.specs.Rounds.{NamedClause}
use Rattle.lit_base.specs.Named.{same_name, lits_at}
use Rattle.lit_base.specs.declared.name.Name.{Name}
use Rattle.lit_base.proofs.HeldClauses.{same_name-true, lits_at-none}
use Rattle.clause_pool.specs.Spans.{literals_of, span_of}
use Rattle.clause_pool.specs.declared.span.Span.{Span}
use Rattle.round_prop.specs.declared.row.Row.{Row}
use Rattle.round_prop.specs.Readied.{row_names}
use Rattle.round_prop.specs.Attached.{RoundsState}
use Rattle.round_prop.specs.Spanned.{nowhere, silent, telling, row_for, IsSpanned, AreSpanned, IsPlacedIn}

-- the row that is read tells so
pub row_spanned : (added : List NamedClause) (rows : List Row) (i : ℕ) (d : Row) → i < length rows → AreSpanned added rows → IsSpanned added (get_or rows i d)
row_spanned added [] i d inside all = absurd (omega (arith, inside))
row_spanned added (row ∷ later) zero d inside all = all.0
row_spanned added (row ∷ later) (suc i) d inside all = row_spanned added later i d (omega (arith, inside)) all.1

-- a row more tells so
pub spanned_more : (added : List NamedClause) (rows : List Row) (row : Row) → AreSpanned added rows → IsSpanned added row → AreSpanned added (rows ++ row ∷ [])
spanned_more added [] row all one = (one, tt)
spanned_more added (first ∷ later) row all one = (all.0, spanned_more added later row all.1 one)

-- the row of a name tells so
pub found_spanned : (added : List NamedClause) (name : Name) → IsSpanned added (row_for added name)
found_spanned added name = by_found (span_of added name) refl
  where
    by_fit : (span : Span) → span_of added name ≡ Some span → (b : Bool) → (cond b (record { name = name; start = span.start; end = span.end }) (silent name)).end < nowhere →
        span_of added (cond b (record { name = name; start = span.start; end = span.end }) (silent name)).name
        ≡ Some (record { start = (cond b (record { name = name; start = span.start; end = span.end }) (silent name)).start; end = (cond b (record { name = name; start = span.start; end = span.end }) (silent name)).end })
    by_fit span is true low = is
    by_fit span is false low = absurd (omega (arith, low))

    by_found : (o : Option Span) → span_of added name ≡ o → IsSpanned added (telling name o)
    by_found None is = λ low. absurd (omega (arith, low))
    by_found (Some span) is = by_fit span is (nat_lt span.end nowhere)

-- it has the name
pub found_named : (added : List NamedClause) (name : Name) → (row_for added name).name ≡ name
found_named added name = by_found (span_of added name)
  where
    by_fit : (span : Span) (b : Bool) → (cond b (record { name = name; start = span.start; end = span.end }) (silent name)).name ≡ name
    by_fit span true = refl
    by_fit span false = refl

    by_found : (o : Option Span) → (telling name o).name ≡ name
    by_found None = refl
    by_found (Some span) = by_fit span (nat_lt span.end nowhere)

-- so what is held under its name is held under that name
pub held_at : (added clauses : List NamedClause) (row : Row) (name : Name) (lits : Option (List Literal)) → row ≡ row_for added name → lits_at clauses row.name ≡ lits → lits_at clauses name ≡ lits
held_at added clauses row name lits is at = ap (lits_at clauses) (sym (ap (λ (r : Row). r.name) is ∙ found_named added name)) ∙ at

-- rows that were found anew tell so, and have the same names
pub all_spanned : (added : List NamedClause) (rows : List Row) → AreSpanned added (map (λ (r : Row). row_for added r.name) rows)
all_spanned added [] = tt
all_spanned added (row ∷ later) = (found_spanned added row.name, all_spanned added later)

pub all_named : (added : List NamedClause) (rows : List Row) → row_names (map (λ (r : Row). row_for added r.name) rows) ≡ row_names rows
all_named added [] = refl
all_named added (row ∷ later) = ap (λ name. name ∷ row_names (map (λ (r : Row). row_for added r.name) later)) (found_named added row.name) ∙ ap (λ names. row.name ∷ names) (all_named added later)

-- rows that were lent out as a slice, and changed each by itself
pub rows_back : (rows : Vec Row Global) (lent back : List Row) (f : Row → Row) → lent ≡ rows.items → length lent ≡ vec_len rows → back ≡ map f lent → (with_items rows back).items ≡ map f rows.items
rows_back rows lent back f is long changed =
    let e : length back ≡ length lent = ap length changed ∙ length-map lent f in
    with_items_is rows back (omega (arith, e, long)) ∙ (changed ∙ ap (map f) is)

-- a name without a clause has no place
no_span : (added : List NamedClause) (name : Name) → lits_at added name ≡ None → span_of added name ≡ None
no_span [] name none = refl
no_span (c ∷ older) name none = let apart = lits_at-none c older name none in by_test (same_name c.name name) apart.0 (no_span older name apart.1)
  where
    by_test : (b : Bool) → b ≡ false → span_of older name ≡ None → cond b (Some (record { start = literals_of older; end = literals_of older + length c.lits })) (span_of older name) ≡ None
    by_test true other rest = cc
    by_test false other rest = rest

-- a place ends where it begins or behind
pub span_rising : (added : List NamedClause) (name : Name) (span : Span) → span_of added name ≡ Some span → span.start ≤ span.end
span_rising [] name span is = cc
span_rising (c ∷ older) name span is = by_test (same_name c.name name) is (span_rising older name span)
  where
    by_test : (b : Bool) → cond b (Some (record { start = literals_of older; end = literals_of older + length c.lits })) (span_of older name) ≡ Some span →
        (span_of older name ≡ Some span → span.start ≤ span.end) → span.start ≤ span.end
    by_test true is rest = subst (λ (s : Span). s.start ≤ s.end) (same_Some (record { start = literals_of older; end = literals_of older + length c.lits }) span is) (omega arith)
    by_test false is rest = rest is

-- so a clause that is added under a new name leaves what rows tell right
pub spanned_added : (c : NamedClause) (added : List NamedClause) → lits_at added c.name ≡ None → (rows : List Row) → AreSpanned added rows → AreSpanned (c ∷ added) rows
spanned_added c added new [] all = tt
spanned_added c added new (row ∷ later) all = (λ low. by_test (same_name c.name row.name) refl (all.0 low), spanned_added c added new later all.1)
  where
    by_test : (b : Bool) → same_name c.name row.name ≡ b → span_of added row.name ≡ Some (record { start = row.start; end = row.end }) →
        cond b (Some (record { start = literals_of added; end = literals_of added + length c.lits })) (span_of added row.name) ≡ Some (record { start = row.start; end = row.end })
    by_test true here is = let none = subst (λ n. span_of added n ≡ None) (same_name-true c.name row.name here) (no_span added c.name new) in cc
    by_test false apart is = is

pub placed_added : (r : RoundsState) (c : NamedClause) (added : List NamedClause) → lits_at added c.name ≡ None → IsPlacedIn r added → IsPlacedIn r (c ∷ added)
unfolding IsPlacedIn
placed_added r c added new placed = spanned_added c added new r.table.rows.items placed
