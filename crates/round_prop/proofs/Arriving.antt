-- What is attached, when nothing is, and with one clause more.
use Rattle.std.proofs.Common.{◌≡◌, ◌⊎◌, inl, inr, ℕ, ◌||◌, Bool, true, false, cond, List, [], ◌∷◌, ◌++◌, length, refl, ap, sym, ◌∙◌, subst, arith}
use Rattle.std.specs.Prelude.{◌*◌, Option, Some, None, IsSome, IsFalse, is_some, map}
use Rattle.std.specs.List.{AllByRecursion, IsDistinct}
use Rattle.std.proofs.lemmas.Bool.{cases_Bool, cond-true, cond-false, cond_both, or_parts, both_ways}
use Rattle.lit_base.specs.Literal.{Literal}
use Rattle.lit_base.specs.Rounds.{NamedClause}
use Rattle.lit_base.specs.Named.{same_name, lits_at}
use Rattle.lit_base.specs.Held.{is_before, is_among, names_of, with_named}
use Rattle.lit_base.specs.declared.trail.Entry.{Entry}
use Rattle.lit_base.specs.declared.name.Name.{Name}
use Rattle.lit_base.proofs.HeldClauses.{same_name-itself, same_name-true, lits_at-cons, lits_at-none, either_order}
use Rattle.clause_pool.proofs.Order.{is_before-trans, is_before-other}
use Rattle.std.specs.Prelude.{Result, Ok, Err, OnErr}
use Rattle.std.proofs.lemmas.List.{reverse-append}
use Rattle.round_prop.specs.FreshClauses.{clause_of_fresh, clauses_of_fresh}
use Rattle.round_prop.specs.declared.fresh.Fresh.{Fresh}
use Rattle.lit_base.proofs.Lists.{each_when}
use Rattle.std.proofs.lemmas.List.{length-map}
use Rattle.round_prop.specs.Chains.{lits_of}
use Rattle.round_prop.specs.Noting.{IsNoted, IsNoteOf}
use Rattle.round_prop.specs.Readied.{row_names, IsRow, IsTable, IsReady, AreNamedApart}
use Rattle.round_prop.specs.Room.{HaveSameItems}
use Rattle.round_prop.specs.Shorts.{short_lits, short_names, IsShortOf}
use Rattle.round_prop.specs.Attached.{RoundsState, lits_in, IsKnown, AreAttachedIn, IsAttachedBy, AreRoomy}
use Rattle.round_prop.specs.declared.node.Node.{Node}
use Rattle.round_prop.specs.declared.note.Note.{Note}
use Rattle.round_prop.specs.declared.row.Row.{Row}
use Rattle.round_prop.specs.declared.short.Short.{Short}
use Rattle.round_prop.specs.declared.table.Table.{Table}
use Rattle.round_prop.proofs.Alike.{table_like, attached_like}
use Rattle.round_prop.proofs.Rounding.{row_named}
use Rattle.round_prop.proofs.Looks.{IsFirst, AreInOrder}
use Rattle.round_prop.proofs.Follow.{not_among}

first-trans : (a b : Name) (clauses : List NamedClause) → is_before a b ≡ true → IsFirst b clauses → IsFirst a clauses
first-trans a b [] before first = tt
first-trans a b (d ∷ later) before first = (is_before-trans a b d.name before first.0, first-trans a b later before first.1)

first-with : (a : Name) (c : NamedClause) (clauses : List NamedClause) → is_before a c.name ≡ true → IsFirst a clauses → IsFirst a (with_named c clauses)
first-with a c [] before first = (before, tt)
first-with a c (d ∷ later) before first =
    cond_both (is_before c.name d.name) (c ∷ d ∷ later) (d ∷ with_named c later) (λ clauses. IsFirst a clauses)
    (λ t. (before, first)) (λ f. (first.0, first-with a c later before first.1))

-- a clause of a new name keeps the order
pub rising-with : (c : NamedClause) (clauses : List NamedClause) → IsFalse (is_among (names_of clauses) c.name) → AreInOrder clauses → AreInOrder (with_named c clauses)
rising-with c [] new rising = (tt, tt)
rising-with c (d ∷ later) new rising =
    let apart = or_parts (same_name d.name c.name) (is_among (names_of later) c.name) new in
    cond_both (is_before c.name d.name) (c ∷ d ∷ later) (d ∷ with_named c later) AreInOrder
    (λ before. ((before, first-trans c.name d.name later before rising.0), rising))
    (λ after. (first-with d.name c later (is_before-other c.name d.name after apart.0) rising.0, rising-with c later apart.1 rising.1))

-- the look-up with one clause more, of a new name
pub lits_at-with_named : (c : NamedClause) (clauses : List NamedClause) (n : Name) → lits_at clauses c.name ≡ None →
    lits_at (with_named c clauses) n ≡ cond (same_name c.name n) (Some c.lits) (lits_at clauses n)
lits_at-with_named c [] n free = lits_at-cons c [] n
lits_at-with_named c (d ∷ later) n free =
    let apart = lits_at-none d later c.name free in
    cond_both (is_before c.name d.name) (c ∷ d ∷ later) (d ∷ with_named c later)
    (λ clauses. lits_at clauses n ≡ cond (same_name c.name n) (Some c.lits) (lits_at (d ∷ later) n))
    (λ before. lits_at-cons c (d ∷ later) n)
    (λ after. lits_at-cons d (with_named c later) n
    ∙ (ap (λ o. cond (same_name d.name n) (Some d.lits) o) (lits_at-with_named c later n apart.1)
    ∙ (either_order c.name d.name n c.lits d.lits (lits_at later n) apart.0
    ∙ ap (λ o. cond (same_name c.name n) (Some c.lits) o) (sym (lits_at-cons d later n)))))

-- what is found is found with one clause more
pub found-with_named : (c : NamedClause) (clauses : List NamedClause) (n : Name) (lits : List Literal) → lits_at clauses c.name ≡ None → lits_at clauses n ≡ Some lits →
    lits_at (with_named c clauses) n ≡ Some lits
found-with_named c clauses n lits free found = lits_at-with_named c clauses n free ∙ by_test (cases_Bool (same_name c.name n))
  where
    by_test : (same_name c.name n ≡ true) ⊎ (same_name c.name n ≡ false) → cond (same_name c.name n) (Some c.lits) (lits_at clauses n) ≡ Some lits
    by_test (inl here) = let none = subst (λ m. lits_at clauses m ≡ None) (same_name-true c.name n here) free in cc
    by_test (inr there) = cond-false (same_name c.name n) (Some c.lits) (lits_at clauses n) there ∙ found

-- what holds of each clause and of one more holds of each of them all
pub all-with_named : (P : NamedClause → Type 0) (c : NamedClause) (clauses : List NamedClause) → P c → AllByRecursion P clauses → AllByRecursion P (with_named c clauses)
all-with_named P c [] here all = (here, tt)
all-with_named P c (d ∷ later) here all =
    cond_both (is_before c.name d.name) (c ∷ d ∷ later) (d ∷ with_named c later) (λ clauses. AllByRecursion P clauses)
    (λ before. (here, all)) (λ after. (all.0, all-with_named P c later here all.1))

row_finds : (clauses others : List NamedClause) (trail done : List Entry) (notes : List Note) (name : Name) (a b : Literal) →
    ((lits : List Literal) → lits_at clauses name ≡ Some lits → lits_at others name ≡ Some lits) → IsRow clauses trail done notes name a b → IsRow others trail done notes name a b
row_finds clauses others trail done notes name a b finds row = record { lits = row.lits; found = finds row.lits row.found; pair = row.pair; met = row.met }

note_finds : (clauses others : List NamedClause) (trail : List Entry) (note : Note) →
    ((lits : List Literal) → lits_at clauses note.name ≡ Some lits → lits_at others note.name ≡ Some lits) → IsNoteOf trail clauses note → IsNoteOf trail others note
note_finds clauses others trail note finds is = record { lits = is.lits; found = finds is.lits is.found; tells = is.tells }

-- a table over clauses is one over others among which all of these are found
pub table_finds : (clauses others : List NamedClause) (trail done : List Entry) (t : Table) → ((name : Name) (lits : List Literal) → lits_at clauses name ≡ Some lits → lits_at others name ≡ Some lits) →
    IsTable clauses trail done t → IsTable others trail done t
table_finds clauses others trail done t finds is = record {
  sized = is.sized;
  threaded = is.threaded;
  rows = λ n name a b named own other. row_finds clauses others trail done t.noted.notes.items name a b (finds name) (is.rows n name a b named own other);
  flagged = is.flagged;
  sound = each_when (IsNoteOf trail clauses) (IsNoteOf trail others) (λ note one. note_finds clauses others trail note (finds note.name) one) t.noted.notes.items is.sound;
}

-- what stands in a row is found
pub row_found : (clauses : List NamedClause) (trail done : List Entry) (t : Table) (name : Name) → IsTable clauses trail done t → is_among (row_names t.rows.items) name ≡ true →
    (lits : List Literal) × (lits_at clauses name ≡ Some lits)
row_found clauses trail done t name is among =
    let sized = is.sized.nodes in
    let long : length (lits_of t.links.nodes.items) ≡ 2 * length (row_names t.rows.items) =
    length-map t.links.nodes.items (λ (n : Node). n.lit) ∙ (sized ∙ ap (λ k. 2 * k) (sym (length-map t.rows.items (λ (r : Row). r.name)))) in
    let row = row_named clauses trail done t.noted.notes.items (row_names t.rows.items) (lits_of t.links.nodes.items) long is.rows name among in
    (row.row.lits, row.row.found)

none_found : (o : Option (List Literal)) (lits : List Literal) → o ≡ None → o ≡ Some lits → ⊥
none_found o lits none found = cc

-- what isn't found stands in no row
pub not_in_row : (clauses : List NamedClause) (trail done : List Entry) (t : Table) (name : Name) → IsTable clauses trail done t → lits_at clauses name ≡ None →
    is_among (row_names t.rows.items) name ≡ false
not_in_row clauses trail done t name is none = by_test (cases_Bool (is_among (row_names t.rows.items) name))
  where
    by_test : (is_among (row_names t.rows.items) name ≡ true) ⊎ (is_among (row_names t.rows.items) name ≡ false) → is_among (row_names t.rows.items) name ≡ false
    by_test (inr apart) = apart
    by_test (inl among) = let found = row_found clauses trail done t name is among in absurd (none_found (lits_at clauses name) found.0 none found.1)

-- nothing is attached where there are no clauses
no_lits : (r : RoundsState) (name : Name) → r.fresh ≡ [] → r.table.rows.items ≡ [] → r.shorts ≡ [] → lits_in r name ≡ None
no_lits r name fresh rows shorts =
    ap (λ (cs : List NamedClause). cond (is_among (names_of cs) name) (lits_at cs name)
    (cond (is_among (row_names r.table.rows.items ++ short_names r.shorts) name) (lits_at r.propagated name) None)) fresh
    ∙ (ap (λ (rs : List Row). cond (is_among (row_names rs ++ short_names r.shorts) name) (lits_at r.propagated name) None) rows
    ∙ ap (λ (ss : List Short). cond (is_among (short_names ss) name) (lits_at r.propagated name) None) shorts)

none_apart : IsDistinct same_name []
unfolding IsDistinct
none_apart = tt

-- at first nothing is attached
pub first_attached : (r : RoundsState) (variables : ℕ) → r.fresh ≡ [] → r.table.rows.items ≡ [] → r.shorts ≡ [] → r.seen ≡ [] → IsReady variables [] [] [] r.table → IsAttachedBy r [] [] []
first_attached r variables fresh rows shorts seen ready = record {
  fresh_are = ap names_of fresh;
  seen_are = seen;
  found = λ name. sym (no_lits r name fresh rows shorts);
  distinct = tt;
  are = record {
    rising = tt;
    table = ready.table;
    apart = ready.apart;
    short = subst (λ (ss : List Short). AllByRecursion (IsShortOf []) ss) (sym shorts) tt;
    known = tt;
    fresh_found = tt;
    fresh_apart = none_apart;
    fresh_new = tt;
  };
}

-- and there is room for what there is
pub first_roomy : (variables : ℕ) (t : Table) (shorts room fresh : ℕ) → IsReady variables [] [] [] t → t.rows.items ≡ [] → shorts ≡ 0 → fresh ≡ 0 → AreRoomy variables t shorts room fresh
first_roomy variables t shorts room fresh ready rows no_shorts no_fresh =
    let none : length t.rows.items ≡ 0 = ap length rows in
    let nodes = ready.table.sized.nodes in
    let flags = ready.table.sized.flags in
    record {
      sized = ready.table.sized;
      flagged = ready.table.flagged;
      wide = ready.wide;
      few = omega (arith, none, nodes);
      rows_room = omega (arith, none);
      nodes_room = omega (arith, none, nodes);
      flags_room = omega (arith, none, flags);
      notes_room = omega (arith, ready.room);
      notes_anew = omega (arith, none);
      shorts_room = omega (arith);
    }

among_more : (names : List Name) (name n : Name) → is_among names n ≡ true → is_among (name ∷ names) n ≡ true
among_more names name n among = by_test (same_name name n) (is_among names n) among
  where
    by_test : (b c : Bool) → c ≡ true → (b || c) ≡ true
    by_test true c is = refl
    by_test false c is = is

-- what is found with one fresh clause more
lits_in-more : (r after : RoundsState) (c : NamedClause) (n : Name) → HaveSameItems r.table after.table → after.shorts ≡ r.shorts → after.fresh ≡ c ∷ r.fresh → after.propagated ≡ r.propagated →
    lits_in after n ≡ cond (same_name c.name n) (Some c.lits) (lits_in r n)
lits_in-more r after c n same shorts fresh propagated =
    let old = λ (o : Option (List Literal)). cond (is_among (names_of r.fresh) n) (lits_at r.fresh n) o in
    ap (λ (cs : List NamedClause). cond (is_among (names_of cs) n) (lits_at cs n) (cond (is_among (row_names after.table.rows.items ++ short_names after.shorts) n) (lits_at after.propagated n) None)) fresh
    ∙ (ap (λ (rs : List Row). cond (same_name c.name n || is_among (names_of r.fresh) n) (lits_at (c ∷ r.fresh) n) (cond (is_among (row_names rs ++ short_names after.shorts) n) (lits_at after.propagated n) None)) same.rows
    ∙ (ap (λ (ss : List Short). cond (same_name c.name n || is_among (names_of r.fresh) n) (lits_at (c ∷ r.fresh) n) (cond (is_among (row_names r.table.rows.items ++ short_names ss) n) (lits_at after.propagated n) None)) shorts
    ∙ (ap (λ (cs : List NamedClause). cond (same_name c.name n || is_among (names_of r.fresh) n) (lits_at (c ∷ r.fresh) n) (cond (is_among (row_names r.table.rows.items ++ short_names r.shorts) n) (lits_at cs n) None)) propagated
    ∙ (ap (λ (o : Option (List Literal)). cond (same_name c.name n || is_among (names_of r.fresh) n) o (cond (is_among (row_names r.table.rows.items ++ short_names r.shorts) n) (lits_at r.propagated n) None)) (lits_at-cons c r.fresh n)
    ∙ by_test (same_name c.name n) (is_among (names_of r.fresh) n) (lits_at r.fresh n) (cond (is_among (row_names r.table.rows.items ++ short_names r.shorts) n) (lits_at r.propagated n) None)))))
  where
    by_test : (b d : Bool) (o p : Option (List Literal)) → cond (b || d) (cond b (Some c.lits) o) p ≡ cond b (Some c.lits) (cond d o p)
    by_test true d o p = refl
    by_test false d o p = refl

known_more : (trail : List Entry) (t other : Table) (shorts : List Short) (fresh : List Name) (name : Name) (c : NamedClause) → HaveSameItems t other → IsKnown trail t shorts fresh c →
    IsKnown trail other shorts (name ∷ fresh) c
known_more trail t other shorts fresh name c same (inl new) = inl (among_more fresh name c.name new)
known_more trail t other shorts fresh name c same (inr (inl row)) = inr (inl (subst (λ rows. is_among (row_names rows) c.name ≡ true) (sym same.rows) row))
known_more trail t other shorts fresh name c same (inr (inr (short, inl noted))) = inr (inr (short, inl (subst (λ notes. IsNoted notes c.name) (sym same.notes) noted)))
known_more trail t other shorts fresh name c same (inr (inr (short, inr holds))) = inr (inr (short, inr holds))

-- a name that isn't found is none of those that are
apart_from : (clauses : List NamedClause) (name : Name) (names : List Name) → lits_at clauses name ≡ None → AllByRecursion (λ n. IsSome (lits_at clauses n)) names →
    AllByRecursion (λ n. same_name name n ≡ false) names
apart_from clauses name [] none found = tt
apart_from clauses name (n ∷ later) none found = (by_test (cases_Bool (same_name name n)), apart_from clauses name later none found.1)
  where
    by_test : (same_name name n ≡ true) ⊎ (same_name name n ≡ false) → same_name name n ≡ false
    by_test (inr apart) = apart
    by_test (inl is) = let here : is_some (lits_at clauses n) ≡ false = ap (λ m. is_some (lits_at clauses m)) (sym (same_name-true name n is)) ∙ ap is_some none in absurd (both_ways (is_some (lits_at clauses n)) here found.0)

some_more : (o p : Option (List Literal)) → ((lits : List Literal) → o ≡ Some lits → p ≡ Some lits) → is_some o ≡ true → is_some p ≡ true
some_more None p more is = cc
some_more (Some lits) p more is = ap is_some (more lits refl)

apart_more : (name : Name) (names : List Name) → AllByRecursion (λ n. same_name name n ≡ false) names → IsDistinct same_name names → IsDistinct same_name (name ∷ names)
unfolding IsDistinct
apart_more name names apart distinct = (apart, distinct)

-- a clause of a new name is attached
pub attached_more : (r after : RoundsState) (c : NamedClause) (attached : List NamedClause) (fresh : List Name) (seen : List Entry) → HaveSameItems r.table after.table → after.shorts ≡ r.shorts →
    after.fresh ≡ c ∷ r.fresh → after.propagated ≡ r.propagated → after.seen ≡ r.seen → lits_at attached c.name ≡ None → IsAttachedBy r attached fresh seen →
    IsAttachedBy after (with_named c attached) (c.name ∷ fresh) seen
attached_more r after c attached fresh seen same shorts arrives propagated seen_same free is = record {
  fresh_are = ap names_of arrives ∙ ap (λ names. c.name ∷ names) is.fresh_are;
  seen_are = seen_same ∙ is.seen_are;
  found = λ n. lits_at-with_named c attached n free ∙ (ap (λ o. cond (same_name c.name n) (Some c.lits) o) (is.found n) ∙ sym (lits_in-more r after c n same shorts arrives propagated));
  distinct = is.distinct;
  are = record {
    rising = rising-with c attached (not_among attached c.name free) is.are.rising;
    table = table_finds attached (with_named c attached) seen seen after.table finds (table_like attached seen seen r.table after.table same is.are.table);
    apart = subst (λ rows. AreNamedApart (row_names rows)) (sym same.rows) is.are.apart;
    short = subst (λ ss. AllByRecursion (IsShortOf (with_named c attached)) ss) (sym shorts)
        (each_when (IsShortOf attached) (IsShortOf (with_named c attached)) (λ s one. finds s.name (short_lits s.lit) one) r.shorts is.are.short);
    known = subst (λ ss. AllByRecursion (IsKnown seen after.table ss (c.name ∷ fresh)) (with_named c attached)) (sym shorts)
        (all-with_named (IsKnown seen after.table r.shorts (c.name ∷ fresh)) c attached (inl (here c.name))
        (each_when (IsKnown seen r.table r.shorts fresh) (IsKnown seen after.table r.shorts (c.name ∷ fresh)) (λ d one. known_more seen r.table after.table r.shorts fresh c.name d same one) attached is.are.known));
    fresh_found = (
      ap is_some (lits_at-with_named c attached c.name free ∙ cond-true (same_name c.name c.name) (Some c.lits) (lits_at attached c.name) (same_name-itself c.name)),
      each_when (λ n. IsSome (lits_at attached n)) (λ n. IsSome (lits_at (with_named c attached) n)) (λ n one. some_more (lits_at attached n) (lits_at (with_named c attached) n) (finds n) one) fresh is.are.fresh_found,
    );
    fresh_apart = apart_more c.name fresh (apart_from attached c.name fresh free is.are.fresh_found) is.are.fresh_apart;
    fresh_new = (
      ap (λ rows. is_among (row_names rows) c.name) same.rows ∙ not_in_row attached seen seen r.table c.name is.are.table free,
      subst (λ rows. AllByRecursion (λ n. IsFalse (is_among (row_names rows) n)) fresh) (sym same.rows) is.are.fresh_new,
    );
  };
}
  where
    finds : (n : Name) (lits : List Literal) → lits_at attached n ≡ Some lits → lits_at (with_named c attached) n ≡ Some lits
    finds n lits found = found-with_named c attached n lits free found

    here : (name : Name) → is_among (name ∷ fresh) name ≡ true
    here name = ap (λ b. b || is_among fresh name) (same_name-itself name)

-- what is found depends on these alone
pub lits_in-same : (r after : RoundsState) (n : Name) → after.table.rows.items ≡ r.table.rows.items → after.shorts ≡ r.shorts → after.fresh ≡ r.fresh → after.propagated ≡ r.propagated →
    lits_in after n ≡ lits_in r n
lits_in-same r after n rows shorts fresh propagated =
    ap (λ (cs : List NamedClause). cond (is_among (names_of cs) n) (lits_at cs n) (cond (is_among (row_names after.table.rows.items ++ short_names after.shorts) n) (lits_at after.propagated n) None)) fresh
    ∙ (ap (λ (rs : List Row). cond (is_among (names_of r.fresh) n) (lits_at r.fresh n) (cond (is_among (row_names rs ++ short_names after.shorts) n) (lits_at after.propagated n) None)) rows
    ∙ (ap (λ (ss : List Short). cond (is_among (names_of r.fresh) n) (lits_at r.fresh n) (cond (is_among (row_names r.table.rows.items ++ short_names ss) n) (lits_at after.propagated n) None)) shorts
    ∙ ap (λ (cs : List NamedClause). cond (is_among (names_of r.fresh) n) (lits_at r.fresh n) (cond (is_among (row_names r.table.rows.items ++ short_names r.shorts) n) (lits_at cs n) None)) propagated))

-- a state that differs in nothing but room serves alike
pub attached_same : (r after : RoundsState) (attached : List NamedClause) (fresh : List Name) (seen : List Entry) → HaveSameItems r.table after.table → after.shorts ≡ r.shorts →
    after.fresh ≡ r.fresh → after.propagated ≡ r.propagated → after.seen ≡ r.seen → IsAttachedBy r attached fresh seen → IsAttachedBy after attached fresh seen
attached_same r after attached fresh seen same shorts fresh_same propagated seen_same is = record {
  fresh_are = ap names_of fresh_same ∙ is.fresh_are;
  seen_are = seen_same ∙ is.seen_are;
  found = λ n. is.found n ∙ sym (lits_in-same r after n same.rows shorts fresh_same propagated);
  distinct = is.distinct;
  are = subst (λ ss. AreAttachedIn attached seen seen after.table ss fresh) (sym shorts) (attached_like attached seen seen r.table after.table r.shorts fresh same is.are);
}

-- the newest fresh clause stands last
pub fresh_last : (fresh : List Fresh) (f : Fresh) → clauses_of_fresh (fresh ++ f ∷ []) ≡ clause_of_fresh f ∷ clauses_of_fresh fresh
fresh_last fresh f = ap (λ fs. map clause_of_fresh fs) (reverse-append fresh (f ∷ []))

pub on_err_always : {T E P : Type 0} (r : Result T E) → P → OnErr r P
on_err_always (Ok x) p = tt
on_err_always (Err e) p = p
