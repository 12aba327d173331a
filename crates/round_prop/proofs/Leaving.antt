-- What is attached, when some clauses are detached.
use Rattle.std.proofs.Common.{◌≡◌, ◌⊎◌, inl, inr, ℕ, zero, suc, ◌<◌, ◌≤◌, ◌||◌, ◌&&◌, Bool, true, false, cond, not, List, [], ◌∷◌, ◌++◌, length, reverse, All, refl, ap, sym, ◌∙◌, subst, arith}
use Rattle.std.specs.Prelude.{Option, Some, None, IsSome, IsFalse, is_some, option_map, slice_get, map, filter}
use Rattle.std.specs.List.{AllByRecursion, list_any}
use Rattle.std.proofs.lemmas.Bool.{cases_Bool, cases_lt, both_ways, cond-false, cond_both, not-true}
use Rattle.std.proofs.lemmas.List.{get_or_past}
use Rattle.std.proofs.lemmas.List.Folds.{list_any-append}
use Rattle.std.proofs.lemmas.List.Elements.{All-from_recursion}
use Rattle.std.proofs.lemmas.Option.{slice_get-map}
use Rattle.lit_base.specs.Literal.{Literal}
use Rattle.lit_base.specs.Trail.{is_true}
use Rattle.lit_base.specs.Rounds.{NamedClause}
use Rattle.lit_base.specs.Named.{same_name, lits_at}
use Rattle.lit_base.specs.Held.{clauses_of, unused, is_among, names_of, names_without, clauses_without}
use Rattle.lit_base.specs.declared.trail.Entry.{Entry}
use Rattle.lit_base.specs.declared.name.Name.{Name}
use Rattle.lit_base.proofs.HeldClauses.{same_name-true, lits_at-without}
use Rattle.lit_base.proofs.Lists.{IsDistinct-filter}
use Rattle.trail_book.specs.Arrays.{index_of}
use Rattle.round_prop.specs.Chains.{list_at, times_in, AreThreaded}
use Rattle.round_prop.specs.FreshClauses.{clause_of_fresh, clauses_of_fresh}
use Rattle.round_prop.specs.Noting.{IsNoted, load_of}
use Rattle.round_prop.specs.Readied.{row_names, IsTable, AreNamedApart, IsRoomKept}
use Rattle.round_prop.specs.Removal.{stays, kept_rows}
use Rattle.round_prop.specs.Shorts.{short_names, IsShortOf}
use Rattle.round_prop.specs.Attached.{RoundsState, lits_in, IsKnown, IsAttachedBy, AreRoomy}
use Rattle.round_prop.specs.declared.fresh.Fresh.{Fresh}
use Rattle.round_prop.specs.declared.node.Node.{Node}
use Rattle.round_prop.specs.declared.row.Row.{Row}
use Rattle.round_prop.specs.declared.short.Short.{Short}
use Rattle.round_prop.specs.declared.table.Table.{Table}
use Rattle.round_prop.proofs.Follow.{clauses_of-without_names, filter-reverse}
use Rattle.round_prop.proofs.Looks.{IsFirst, AreInOrder}

-- clauses without uses are the clauses themselves
unused_same : (clauses : List NamedClause) → clauses_of (map unused clauses) ≡ clauses
unused_same [] = refl
unused_same (c ∷ later) = ap (λ cs. c ∷ cs) (unused_same later)

-- what is found without the clauses of some names
pub lits_at-less : (names : List Name) (clauses : List NamedClause) (n : Name) → lits_at (clauses_without names clauses) n ≡ cond (is_among names n) None (lits_at clauses n)
lits_at-less names clauses n =
    subst (λ cs. lits_at (clauses_without names cs) n ≡ cond (is_among names n) None (lits_at cs n)) (unused_same clauses)
    (ap (λ cs. lits_at cs n) (sym (clauses_of-without_names names (map unused clauses))) ∙ lits_at-without names (map unused clauses) n)

-- a name is among those that are left where it was among all, and isn't one that left
pub among-left : {X : Type 0} (name_of : X → Name) (names : List Name) (xs : List X) (n : Name) →
    is_among (map name_of (filter (λ x. not (is_among names (name_of x))) xs)) n ≡ (is_among (map name_of xs) n && not (is_among names n))
among-left name_of names [] n = refl
among-left {X} name_of names (x ∷ later) n =
    by_kept (is_among names (name_of x)) refl (filter (λ y. not (is_among names (name_of y))) later) (among-left name_of names later n)
  where
    name_is : same_name (name_of x) n ≡ true → is_among names n ≡ is_among names (name_of x)
    name_is same = ap (λ m. is_among names m) (sym (same_name-true (name_of x) n same))

    by_kept : (d : Bool) → is_among names (name_of x) ≡ d → (rest : List X) → is_among (map name_of rest) n ≡ (is_among (map name_of later) n && not (is_among names n)) →
        is_among (map name_of (cond (not d) (x ∷ rest) rest)) n ≡ ((same_name (name_of x) n || is_among (map name_of later) n) && not (is_among names n))
    by_kept true gone rest is = is ∙ by_name (cases_Bool (same_name (name_of x) n))
      where
        by_name : (same_name (name_of x) n ≡ true) ⊎ (same_name (name_of x) n ≡ false) →
            (is_among (map name_of later) n && not (is_among names n)) ≡ ((same_name (name_of x) n || is_among (map name_of later) n) && not (is_among names n))
        by_name (inr other) = ap (λ b. (b || is_among (map name_of later) n) && not (is_among names n)) (sym other)
        by_name (inl same) = none (is_among (map name_of later) n) (is_among names n) (same_name (name_of x) n || is_among (map name_of later) n) (name_is same ∙ gone)
          where
            none : (p q r : Bool) → q ≡ true → (p && not q) ≡ (r && not q)
            none p false r is = absurd (both_ways false refl is)
            none true true true is = refl
            none true true false is = refl
            none false true true is = refl
            none false true false is = refl
    by_kept false kept rest is = ap (λ b. same_name (name_of x) n || b) is ∙ by_name (cases_Bool (same_name (name_of x) n))
      where
        by_name : (same_name (name_of x) n ≡ true) ⊎ (same_name (name_of x) n ≡ false) →
            (same_name (name_of x) n || (is_among (map name_of later) n && not (is_among names n))) ≡ ((same_name (name_of x) n || is_among (map name_of later) n) && not (is_among names n))
        by_name (inr other) =
            ap (λ b. b || (is_among (map name_of later) n && not (is_among names n))) other ∙ ap (λ b. (b || is_among (map name_of later) n) && not (is_among names n)) (sym other)
        by_name (inl same) =
            ap (λ b. b || (is_among (map name_of later) n && not (is_among names n))) same
            ∙ (sym (ap (λ q. not q) (name_is same ∙ kept)) ∙ ap (λ b. (b || is_among (map name_of later) n) && not (is_among names n)) (sym same))

-- a name that is before all is before those that are left
first-left : (a : Name) (names : List Name) (clauses : List NamedClause) → IsFirst a clauses → IsFirst a (clauses_without names clauses)
first-left a names [] first = tt
first-left a names (d ∷ later) first =
    cond_both (not (is_among names d.name)) (d ∷ clauses_without names later) (clauses_without names later) (λ clauses. IsFirst a clauses)
    (λ kept. (first.0, first-left a names later first.1)) (λ dropped. first-left a names later first.1)

-- what is left stands in order
pub rising-left : (names : List Name) (clauses : List NamedClause) → AreInOrder clauses → AreInOrder (clauses_without names clauses)
rising-left names [] rising = tt
rising-left names (c ∷ later) rising =
    cond_both (not (is_among names c.name)) (c ∷ clauses_without names later) (clauses_without names later) AreInOrder
    (λ kept. (first-left c.name names later rising.0, rising-left names later rising.1)) (λ dropped. rising-left names later rising.1)

-- what is found where some were detached
lits_in-left : (r after : RoundsState) (names : List Name) (n : Name) → after.fresh ≡ clauses_without names r.fresh →
    ((m : Name) → is_among (row_names after.table.rows.items) m ≡ (is_among (row_names r.table.rows.items) m && not (is_among names m))) →
    after.shorts ≡ filter (λ (s : Short). not (is_among names s.name)) r.shorts → after.propagated ≡ r.propagated → lits_in after n ≡ cond (is_among names n) None (lits_in r n)
lits_in-left r after names n fresh rows shorts propagated =
    ap (λ (cs : List NamedClause). cond (is_among (names_of cs) n) (lits_at cs n) (cond (is_among (row_names after.table.rows.items ++ short_names after.shorts) n) (lits_at after.propagated n) None)) fresh
    ∙ (ap (λ b. cond (is_among (names_of (clauses_without names r.fresh)) n) (lits_at (clauses_without names r.fresh) n) (cond b (lits_at after.propagated n) None)) both
    ∙ (ap (λ (cs : List NamedClause). cond (is_among (names_of (clauses_without names r.fresh)) n) (lits_at (clauses_without names r.fresh) n)
    (cond (is_among (row_names r.table.rows.items ++ short_names r.shorts) n && not (is_among names n)) (lits_at cs n) None)) propagated
    ∙ (ap (λ b. cond b (lits_at (clauses_without names r.fresh) n) (cond (is_among (row_names r.table.rows.items ++ short_names r.shorts) n && not (is_among names n)) (lits_at r.propagated n) None))
    (among-left (λ (c : NamedClause). c.name) names r.fresh n)
    ∙ (ap (λ o. cond (is_among (names_of r.fresh) n && not (is_among names n)) o (cond (is_among (row_names r.table.rows.items ++ short_names r.shorts) n && not (is_among names n)) (lits_at r.propagated n) None))
    (lits_at-less names r.fresh n)
    ∙ by_tests (is_among names n) (is_among (names_of r.fresh) n) (is_among (row_names r.table.rows.items ++ short_names r.shorts) n) (lits_at r.fresh n) (lits_at r.propagated n)))))
  where
    both : is_among (row_names after.table.rows.items ++ short_names after.shorts) n ≡ (is_among (row_names r.table.rows.items ++ short_names r.shorts) n && not (is_among names n))
    both =
        list_any-append (λ m. same_name m n) (row_names after.table.rows.items) (short_names after.shorts)
        ∙ (ap (λ b. b || is_among (short_names after.shorts) n) (rows n)
        ∙ (ap (λ (ss : List Short). (is_among (row_names r.table.rows.items) n && not (is_among names n)) || is_among (short_names ss) n) shorts
        ∙ (ap (λ b. (is_among (row_names r.table.rows.items) n && not (is_among names n)) || b) (among-left (λ (s : Short). s.name) names r.shorts n)
        ∙ (spread (is_among (row_names r.table.rows.items) n) (is_among (short_names r.shorts) n) (is_among names n)
        ∙ ap (λ b. b && not (is_among names n)) (sym (list_any-append (λ m. same_name m n) (row_names r.table.rows.items) (short_names r.shorts)))))))
      where
        spread : (p q d : Bool) → ((p && not d) || (q && not d)) ≡ ((p || q) && not d)
        spread true q true = false_either q
          where
            false_either : (b : Bool) → (b && false) ≡ false
            false_either true = refl
            false_either false = refl
        spread true q false = refl
        spread false q d = refl

    by_tests : (d p q : Bool) (o u : Option (List Literal)) → cond (p && not d) (cond d None o) (cond (q && not d) u None) ≡ cond d None (cond p o (cond q u None))
    by_tests true true true o u = refl
    by_tests true true false o u = refl
    by_tests true false true o u = refl
    by_tests true false false o u = refl
    by_tests false true q o u = refl
    by_tests false false true o u = refl
    by_tests false false false o u = refl

-- a map that changes nothing leaves the list
same_map : {X : Type 0} (xs : List X) → map (λ x. x) xs ≡ xs
same_map [] = refl
same_map (x ∷ later) = ap (λ ys. x ∷ ys) (same_map later)

-- a name is among the names that are left where it was among all, and isn't one that left
names-left : (names fresh : List Name) (n : Name) → is_among (names_without names fresh) n ≡ (is_among fresh n && not (is_among names n))
names-left names fresh n =
    ap (λ ns. is_among ns n) (sym (same_map (names_without names fresh)))
    ∙ (among-left (λ (m : Name). m) names fresh n ∙ ap (λ ns. is_among ns n && not (is_among names n)) (same_map fresh))

-- a clause that stays is known still
known_left : (trail : List Entry) (t after : Table) (shorts left : List Short) (fresh names : List Name) →
    ((m : Name) → is_among (row_names after.rows.items) m ≡ (is_among (row_names t.rows.items) m && not (is_among names m))) →
    left ≡ filter (λ (s : Short). not (is_among names s.name)) shorts → ((m : Name) → is_among names m ≡ false → IsNoted t.noted.notes.items m → IsNoted after.noted.notes.items m) →
    (c : NamedClause) → is_among names c.name ≡ false → IsKnown trail t shorts fresh c → IsKnown trail after left (names_without names fresh) c
known_left trail t after shorts left fresh names rows shorts_left notes c kept (inl new) =
    inl (names-left names fresh c.name ∙ (ap (λ b. b && not (is_among names c.name)) new ∙ ap (λ b. not b) kept))
known_left trail t after shorts left fresh names rows shorts_left notes c kept (inr (inl row)) =
    inr (inl (rows c.name ∙ (ap (λ b. b && not (is_among names c.name)) row ∙ ap (λ b. not b) kept)))
known_left trail t after shorts left fresh names rows shorts_left notes c kept (inr (inr (short, either))) =
    inr (inr (
      ap (λ (ss : List Short). is_among (short_names ss) c.name) shorts_left
          ∙ (among-left (λ (s : Short). s.name) names shorts c.name ∙ (ap (λ b. b && not (is_among names c.name)) short ∙ ap (λ b. not b) kept)),
      by_either either,
    ))
  where
    by_either : IsNoted t.noted.notes.items c.name ⊎ (list_any (is_true trail) c.lits ≡ true) → IsNoted after.noted.notes.items c.name ⊎ (list_any (is_true trail) c.lits ≡ true)
    by_either (inl noted) = inl (notes c.name kept noted)
    by_either (inr holds) = inr holds

-- what follows for each item that is left
each_left : {X : Type 0} (name_of : X → Name) (P Q : X → Type 0) (names : List Name) → ((x : X) → is_among names (name_of x) ≡ false → P x → Q x) → (xs : List X) →
    AllByRecursion P xs → AllByRecursion Q (filter (λ x. not (is_among names (name_of x))) xs)
each_left name_of P Q names step [] all = tt
each_left name_of P Q names step (x ∷ later) all =
    cond_both (not (is_among names (name_of x))) (x ∷ filter (λ y. not (is_among names (name_of y))) later) (filter (λ y. not (is_among names (name_of y))) later) (λ ys. AllByRecursion Q ys)
    (λ kept. (step x (not-true (is_among names (name_of x)) kept) all.0, each_left name_of P Q names step later all.1)) (λ dropped. each_left name_of P Q names step later all.1)

-- a map of one of two lists is one of the two mapped ones
map_cond : {X Y : Type 0} (f : X → Y) (b : Bool) (xs ys : List X) → map f (cond b xs ys) ≡ cond b (map f xs) (map f ys)
map_cond f true xs ys = refl
map_cond f false xs ys = refl

-- what is left of a list and then mapped is what is left of the mapped one
map_left : {X Y : Type 0} (f : X → Y) (p : Y → Bool) (xs : List X) → map f (filter (λ x. p (f x)) xs) ≡ filter p (map f xs)
map_left f p [] = refl
map_left f p (x ∷ later) =
    map_cond f (p (f x)) (x ∷ filter (λ y. p (f y)) later) (filter (λ y. p (f y)) later) ∙ ap (λ ys. cond (p (f x)) (f x ∷ ys) ys) (map_left f p later)

-- the fresh clauses that are left are those of what is left
pub fresh_left : (names : List Name) (fresh : List Fresh) → clauses_of_fresh (filter (λ (f : Fresh). not (is_among names f.name)) fresh) ≡ clauses_without names (clauses_of_fresh fresh)
fresh_left names fresh =
    ap (λ fs. map clause_of_fresh fs) (sym (filter-reverse (λ (f : Fresh). not (is_among names f.name)) fresh))
    ∙ map_left clause_of_fresh (λ (c : NamedClause). not (is_among names c.name)) (reverse fresh)

-- a filter keeps no more than there is
filter_fewer : {X : Type 0} (p : X → Bool) (xs : List X) → length (filter p xs) ≤ length xs
filter_fewer p [] = omega arith
filter_fewer p (x ∷ later) = by_test (p x) (filter_fewer p later)
  where
    by_test : (b : Bool) → length (filter p later) ≤ length later → length (cond b (x ∷ filter p later) (filter p later)) ≤ length (x ∷ later)
    by_test true rest = omega (arith, rest)
    by_test false rest = omega (arith, rest)

-- no more are left than there were
pub left_fewer : {X : Type 0} (p : X → Bool) (xs ys : List X) → ys ≡ filter p xs → length ys ≤ length xs
left_fewer p xs ys left = omega (arith, ap length left, filter_fewer p xs)

-- nothing is not something
none_some : {X : Type 0} {x : X} → None ≡ Some x → ⊥
none_some is = cc

-- a row that is left stood somewhere
kept_stood : (names : List Name) (rows : List Row) (i : ℕ) (name : Name) → slice_get (row_names (kept_rows names rows)) i ≡ Some name → (k : ℕ) × (slice_get (row_names rows) k ≡ Some name)
kept_stood names [] i name is = absurd (none_some is)
kept_stood names (row ∷ later) i name is = by_test (λ j one. kept_stood names later j name one) (stays names row) i is
  where
    by_test : ((j : ℕ) → slice_get (row_names (kept_rows names later)) j ≡ Some name → (k : ℕ) × (slice_get (row_names later) k ≡ Some name)) → (b : Bool) (j : ℕ) →
        slice_get (row_names (cond b (row ∷ kept_rows names later) (kept_rows names later))) j ≡ Some name → (k : ℕ) × (slice_get (row_names (row ∷ later)) k ≡ Some name)
    by_test further true zero one = (0, one)
    by_test further true (suc j) one = let stood = further j one in (suc stood.0, stood.1)
    by_test further false j one = let stood = further j one in (suc stood.0, stood.1)

-- no two of those that are left have one name
pub apart_still : (names : List Name) (rows : List Row) → AreNamedApart (row_names rows) → AreNamedApart (row_names (kept_rows names rows))
apart_still names [] apart = λ i j name one two. absurd (none_some one)
apart_still names (row ∷ later) apart = by_test (apart_still names later (λ i j name one two. let e = apart (suc i) (suc j) name one two in omega (arith, e))) (stays names row)
  where
    new : (j : ℕ) (name : Name) → Some row.name ≡ Some name → slice_get (row_names (kept_rows names later)) j ≡ Some name → ⊥
    new j name one two = let stood = kept_stood names later j name two in let e = apart 0 (suc stood.0) name one stood.1 in omega (arith, e)

    at : AreNamedApart (row_names (kept_rows names later)) → (i j : ℕ) (name : Name) → slice_get (row_names (row ∷ kept_rows names later)) i ≡ Some name →
        slice_get (row_names (row ∷ kept_rows names later)) j ≡ Some name → i ≡ j
    at rest zero zero name one two = refl
    at rest zero (suc j) name one two = absurd (new j name one two)
    at rest (suc i) zero name one two = absurd (new i name two one)
    at rest (suc i) (suc j) name one two = ap suc (rest i j name one two)

    by_test : AreNamedApart (row_names (kept_rows names later)) → (b : Bool) → AreNamedApart (row_names (cond b (row ∷ kept_rows names later) (kept_rows names later)))
    by_test rest true = at rest
    by_test rest false = rest

-- what holds at each place holds of all
each_at : {X : Type 0} (P : X → Type 0) (xs : List X) → ((i : ℕ) (x : X) → slice_get xs i ≡ Some x → P x) → AllByRecursion P xs
each_at P [] at = tt
each_at P (x ∷ later) at = (at 0 x refl, each_at P later (λ i y is. at (suc i) y is))

-- each node that is threaded has a list
pub threaded_wide : (heads : List ℕ) (nodes : List Node) (count : ℕ) → length heads ≤ count → AreThreaded heads nodes → All (λ (n : Node). index_of n.lit < count) nodes
threaded_wide heads nodes count wide threaded =
    All-from_recursion (λ (n : Node). index_of n.lit < count) nodes
    (each_at (λ (n : Node). index_of n.lit < count) nodes (λ i node is. by_place i node is (cases_lt (index_of node.lit) (length heads))))
  where
    by_place : (i : ℕ) (node : Node) → slice_get nodes i ≡ Some node → (index_of node.lit < length heads) ⊎ (length heads ≤ index_of node.lit) → index_of node.lit < count
    by_place i node is (inl inside) = omega (arith, inside, wide)
    by_place i node is (inr outside) =
        let one = threaded.placed i node.lit (slice_get-map (λ (m : Node). m.lit) nodes i ∙ ap (λ (o : Option Node). option_map (λ (m : Node). m.lit) o) is) in
        let none : times_in i (list_at threaded.lists (index_of node.lit)) ≡ 0 =
        ap (λ ns. times_in i ns) (get_or_past threaded.lists (index_of node.lit) [] (omega (arith, outside, threaded.are.long))) in
        absurd (omega (arith, one, none))

-- there is as much room, for no more than there was
pub roomy_left : (variables : ℕ) (t after : Table) (names : List Name) (shorts most fresh left left_most left_fresh : ℕ) (clauses : List NamedClause) (trail done : List Entry) →
    AreRoomy variables t shorts most fresh → IsTable clauses trail done after → after.rows.items ≡ kept_rows names t.rows.items →
    load_of after.noted.notes.items after.noted.flags.items ≤ load_of t.noted.notes.items t.noted.flags.items → IsRoomKept t after →
    left ≤ shorts → left_most ≡ most → left_fresh ≤ fresh → AreRoomy variables after left left_most left_fresh
roomy_left variables t after names shorts most fresh left left_most left_fresh clauses trail done roomy table rows load same fewer_shorts same_most fewer_fresh =
    let fewer : length after.rows.items ≤ length t.rows.items = left_fewer (stays names) t.rows.items after.rows.items rows in
    let nodes = table.sized.nodes in
    let flags = table.sized.flags in
    let old_nodes = roomy.sized.nodes in
    let old_flags = roomy.sized.flags in
    record {
      sized = table.sized;
      flagged = table.flagged;
      wide = same.heads ∙ roomy.wide;
      few = omega (arith, fewer, nodes, old_nodes, fewer_fresh, roomy.few);
      rows_room = omega (arith, fewer, fewer_fresh, same.rows_room, roomy.rows_room);
      nodes_room = omega (arith, fewer, nodes, old_nodes, fewer_fresh, same.nodes_room, roomy.nodes_room);
      flags_room = omega (arith, fewer, flags, old_flags, fewer_fresh, same.flags_room, roomy.flags_room);
      notes_room = omega (arith, load, fewer_fresh, same.notes_room, roomy.notes_room);
      notes_anew = omega (arith, fewer, fewer_shorts, fewer_fresh, same.notes_room, roomy.notes_anew);
      shorts_room = omega (arith, fewer_shorts, fewer_fresh, same_most, roomy.shorts_room);
    }

-- the clauses that are left are attached
pub attached_left : (r after : RoundsState) (names : List Name) (attached : List NamedClause) (fresh : List Name) (seen : List Entry) →
    ((clauses : List NamedClause) (trail done : List Entry) → IsTable clauses trail done r.table → IsTable (clauses_without names clauses) trail done after.table) →
    after.table.rows.items ≡ kept_rows names r.table.rows.items →
    ((name : Name) → is_among names name ≡ false → IsNoted r.table.noted.notes.items name → IsNoted after.table.noted.notes.items name) →
    after.shorts ≡ filter (λ (s : Short). not (is_among names s.name)) r.shorts → after.fresh ≡ clauses_without names r.fresh → after.propagated ≡ r.propagated → after.seen ≡ r.seen →
    IsAttachedBy r attached fresh seen → IsAttachedBy after (clauses_without names attached) (names_without names fresh) seen
attached_left r after names attached fresh seen table rows notes shorts fresh_now propagated seen_same is = record {
  fresh_are = ap names_of fresh_now ∙ (map_left (λ (c : NamedClause). c.name) (λ n. not (is_among names n)) r.fresh ∙ ap (λ ns. names_without names ns) is.fresh_are);
  seen_are = seen_same ∙ is.seen_are;
  found = λ n. lits_at-less names attached n ∙ (ap (λ o. cond (is_among names n) None o) (is.found n) ∙ sym (lits_in-left r after names n fresh_now among shorts propagated));
  distinct = is.distinct;
  are = record {
    rising = rising-left names attached is.are.rising;
    table = table attached seen seen is.are.table;
    apart = subst (λ (rs : List Row). AreNamedApart (row_names rs)) (sym rows) (apart_still names r.table.rows.items is.are.apart);
    short = subst (λ ss. AllByRecursion (IsShortOf (clauses_without names attached)) ss) (sym shorts)
        (each_left (λ (s : Short). s.name) (IsShortOf attached) (IsShortOf (clauses_without names attached)) names (λ s kept one. stays_found s.name kept ∙ one) r.shorts is.are.short);
    known = each_left (λ (c : NamedClause). c.name) (IsKnown seen r.table r.shorts fresh) (IsKnown seen after.table after.shorts (names_without names fresh)) names
        (known_left seen r.table after.table r.shorts after.shorts fresh names among shorts notes) attached is.are.known;
    fresh_found = each_left (λ (n : Name). n) (λ n. IsSome (lits_at attached n)) (λ n. IsSome (lits_at (clauses_without names attached) n)) names (λ n kept one. ap is_some (stays_found n kept) ∙ one) fresh is.are.fresh_found;
    fresh_apart = IsDistinct-filter same_name (λ n. not (is_among names n)) fresh is.are.fresh_apart;
    fresh_new = each_left (λ (n : Name). n) (λ n. IsFalse (is_among (row_names r.table.rows.items) n)) (λ n. IsFalse (is_among (row_names after.table.rows.items) n)) names
        (λ n kept one. among n ∙ ap (λ b. b && not (is_among names n)) one) fresh is.are.fresh_new;
  };
}
  where
    among : (m : Name) → is_among (row_names after.table.rows.items) m ≡ (is_among (row_names r.table.rows.items) m && not (is_among names m))
    among m = ap (λ (rs : List Row). is_among (row_names rs) m) rows ∙ among-left (λ (row : Row). row.name) names r.table.rows.items m

    stays_found : (n : Name) → is_among names n ≡ false → lits_at (clauses_without names attached) n ≡ lits_at attached n
    stays_found n kept = lits_at-less names attached n ∙ cond-false (is_among names n) None (lits_at attached n) kept
