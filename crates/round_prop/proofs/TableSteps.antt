-- Tables, before and after a walk and its steps.
use Rattle.std.proofs.Common.{◌≡◌, ◌≢◌, ◌⊎◌, ◌||◌, ℕ, ◌+◌, ◌*◌, ◌/◌, ◌<◌, ◌≤◌, Bool, true, false, cond, List, [], ◌∷◌, length, get_or, set, All, refl, inl, inr, ap, sym, ◌∙◌, subst, arith}
use Rattle.std.specs.Prelude.{Option, Some, None, option_map, slice_get, if◌then◌else◌}
use Rattle.std.specs.List.{list_any}
use Rattle.std.proofs.lemmas.Bool.{cases_Bool, cases_eq}
use Rattle.std.proofs.lemmas.List.{length-map, length-set, get_or-set_same, get_or-set_other}
use Rattle.std.proofs.lemmas.List.Elements.{All-head, All-tail}
use Rattle.std.proofs.lemmas.Option.{same_Some, slice_get-map, slice_get_read, slice_get-get_or}
use Rattle.lit_base.specs.Literal.{Literal, same, IsWithin}
use Rattle.lit_base.specs.Named.{lits_at, same_name}
use Rattle.lit_base.specs.Rounds.{NamedClause}
use Rattle.lit_base.specs.Quiet.{IsOneOf}
use Rattle.lit_base.specs.declared.trail.Entry.{Entry}
use Rattle.lit_base.specs.declared.name.Name.{Name}
use Rattle.lit_base.proofs.DistinctLits.{same-true}
use Rattle.lit_base.proofs.HeldClauses.{lits_at-cons}
use Rattle.trail_book.specs.Arrays.{index_of}
use Rattle.round_prop.specs.declared.node.Node.{Node}
use Rattle.round_prop.specs.declared.note.Note.{Note}
use Rattle.round_prop.specs.declared.noted.Noted.{Noted}
use Rattle.round_prop.specs.declared.row.Row.{Row}
use Rattle.round_prop.specs.declared.table.Table.{Table}
use Rattle.round_prop.specs.Chains.{no_node, nexts_of, lits_of, IsChain, list_at, times_in, times, onto, last_of, in_place, AreLists}
use Rattle.round_prop.specs.Linked.{IsStep}
use Rattle.round_prop.specs.Noting.{IsNoted, AreFlagged, HasMoreNotes}
use Rattle.round_prop.specs.Pairs.{occurrences_of}
use Rattle.round_prop.specs.Readied.{row_names, flip, IsRow, IsTable, AreNamedApart, HaveSameRows}
use Rattle.round_prop.specs.Walking.{HasPair, IsWalkOf, IsWalk, IsInWalk, MayWalk}
use Rattle.round_prop.proofs.ChainSteps.{total_one, times-set, times_one, first_once}
use Rattle.round_prop.proofs.InPlace.{chain_low, times_in-onto, in_place-zero, in_place-own, in_place-other, in_place-long, in_place-times, is_in_place}
use Rattle.round_prop.proofs.ThreadSteps.{set_same}
use Rattle.round_prop.proofs.CountSteps.{list_most}
use Rattle.round_prop.proofs.WalkSteps.{walk_begins, walk_met, walk_threads, walk_rows, popped, index_apart, node_own, flip_within}

-- same rows, and more notes
pub same_rows-trans : (a b c : Table) → HaveSameRows a b → HaveSameRows b c → HaveSameRows a c
same_rows-trans a b c one two = record {
  rows = two.rows ∙ one.rows;
  heads = two.heads ∙ one.heads;
  nodes = two.nodes ∙ one.nodes;
  flags = two.flags ∙ one.flags;
  load = omega (arith, one.load, two.load);
  rows_room = two.rows_room ∙ one.rows_room;
  nodes_room = two.nodes_room ∙ one.nodes_room;
  notes_room = two.notes_room ∙ one.notes_room;
  flags_room = two.flags_room ∙ one.flags_room;
}

pub same_rows-refl : (a : Table) → HaveSameRows a a
same_rows-refl a = record { rows = refl; heads = refl; nodes = refl; flags = refl; load = omega arith; rows_room = refl; nodes_room = refl; notes_room = refl; flags_room = refl }

pub more_notes-trans : (trail : List Entry) (clauses : List NamedClause) (names : List Name) (a b c : Noted) → HasMoreNotes trail clauses names a b → HasMoreNotes trail clauses names b c → HasMoreNotes trail clauses names a c
more_notes-trans trail clauses names a b c one two = record {
  kept = λ name noted. two.kept name (one.kept name noted);
  sound = λ all. two.sound (one.sound all);
  flagged = λ all. two.flagged (one.flagged all);
  load = omega (arith, one.load, two.load);
  flags = two.flags ∙ one.flags;
  notes_room = two.notes_room ∙ one.notes_room;
  flags_room = two.flags_room ∙ one.flags_room;
}

pub more_notes-refl : (trail : List Entry) (clauses : List NamedClause) (names : List Name) (a : Noted) → HasMoreNotes trail clauses names a a
more_notes-refl trail clauses names a = record { kept = λ name noted. noted; sound = λ all. all; flagged = λ all. all; load = omega arith; flags = refl; notes_room = refl; flags_room = refl }

-- a walk on a table
pub begun_walk : (clauses : List NamedClause) (trail done next : List Entry) (l : Literal) (t : Table) (steps most : ℕ) → IsStep trail done next l → (table : IsTable clauses trail done t) → 1 ≤ index_of l → index_of l < length t.links.heads.items →
    steps + length (list_at table.threaded.lists (index_of l)) ≤ most → IsWalk clauses trail done next l (length t.links.nodes.items) steps most no_node t
begun_walk clauses trail done next l t steps most step table real inside cheap =
    walk_begins clauses trail done next l (length t.links.nodes.items) steps most t.links.heads.items t.links.nodes.items (row_names t.rows.items) t.noted.notes.items step
    (omega (arith, table.sized.nodes, length-map t.rows.items (λ (r : Row). r.name))) table.threaded table.rows real inside
    (let one = total_one table.threaded.lists (index_of l) in omega (arith, one, table.threaded.all)) cheap

pub in_walk : (clauses : List NamedClause) (trail : List Entry) (l : Literal) (t : Table) → MayWalk clauses trail l t → 1 ≤ index_of l → index_of l < length t.links.heads.items → IsInWalk clauses trail l no_node t
in_walk clauses trail l t may real inside =
    let list = list_at may.table.threaded.lists (index_of l) in
    record {
      done = may.done;
      next = may.next;
      left = length t.links.nodes.items;
      steps = 0;
      most = length list;
      step = may.step;
      walk = begun_walk clauses trail may.done may.next l t 0 (length list) may.step may.table real inside (omega arith);
      flagged = may.table.flagged;
    }

-- other numbers for the same walk
pub walk_again : (clauses : List NamedClause) (trail done next : List Entry) (l : Literal) (left steps most last : ℕ) (t : Table) (more other : ℕ) → left ≤ more → IsWalk clauses trail done next l left steps most last t →
    IsWalk clauses trail done next l more other (other + left) last t
walk_again clauses trail done next l left steps most last t more other less walk = record {
  sized = walk.sized;
  begun = walk.begun;
  lists = walk.lists;
  long = walk.long;
  once = walk.once;
  are = walk.are;
  stays = walk.stays;
  placed = walk.placed;
  real = walk.real;
  all = walk.all;
  unmet = walk.unmet;
  rows = walk.rows;
  few = omega (arith, walk.few, less);
  cheap = omega (arith, walk.few);
}

-- the table behind a walk
pub walked_table : (clauses : List NamedClause) (trail done next : List Entry) (l : Literal) (steps most last : ℕ) (before after : Table) → 1 ≤ index_of l → index_of l < length after.links.heads.items →
    IsTable clauses trail done before → HaveSameRows before after → HasMoreNotes trail clauses (row_names before.rows.items) before.noted after.noted → IsWalk clauses trail done next l 0 steps most last after → IsTable clauses trail next after
walked_table clauses trail done next l steps most last before after real inside table rows more walk = record {
  sized = record {
    nodes = let c = ap length rows.rows in omega (arith, c, rows.nodes, table.sized.nodes);
    flags = let c = ap length rows.rows in omega (arith, c, rows.flags, table.sized.flags);
  };
  threaded = walk_threads clauses trail done next l steps most last after.links.heads.items after.links.nodes.items (row_names after.rows.items) after.noted.notes.items walk real inside;
  rows = walk_rows clauses trail done next l steps most last after.links.heads.items after.links.nodes.items (row_names after.rows.items) after.noted.notes.items walk real inside;
  flagged = subst (λ rs. AreFlagged (row_names rs) after.noted.flags.items after.noted.notes.items) (sym rows.rows) (more.flagged table.flagged);
  sound = more.sound table.sound;
}

-- literals of clauses are within the variables, and so have lists
pub lits_within : (n : ℕ) (clauses : List NamedClause) (name : Name) (lits : List Literal) → All (λ (c : NamedClause). All (IsWithin n) c.lits) clauses → lits_at clauses name ≡ Some lits → All (IsWithin n) lits
lits_within n [] name lits within found = absurd (none found)
  where
    none : {X : Type 0} {x : X} → None ≡ Some x → ⊥
    none is = cc
lits_within n (c ∷ later) name lits within found = by_test (cases_Bool (same_name c.name name)) (lits_within n later name lits (All-tail (λ (d : NamedClause). All (IsWithin n) d.lits) c later within))
  where
    by_test : (same_name c.name name ≡ true) ⊎ (same_name c.name name ≡ false) → (lits_at later name ≡ Some lits → All (IsWithin n) lits) → All (IsWithin n) lits
    by_test (inl is) rest =
        subst (λ ls. All (IsWithin n) ls) (same_Some c.lits lits (sym (ap (λ b. cond b (Some c.lits) (lits_at later name)) is) ∙ (sym (lits_at-cons c later name) ∙ found)))
        (All-head (λ (d : NamedClause). All (IsWithin n) d.lits) c later within)
    by_test (inr apart) rest = rest (sym (ap (λ b. cond b (Some c.lits) (lits_at later name)) apart) ∙ (sym (lits_at-cons c later name) ∙ found))

pub one_within : (n : ℕ) (lits : List Literal) (l : Literal) → All (IsWithin n) lits → IsOneOf lits l → IsWithin n l
one_within n [] l within held = cc
one_within n (m ∷ later) l within held = by_test (cases_Bool (same m l)) (one_within n later l (All-tail (IsWithin n) m later within))
  where
    skip : (a b : Bool) → a ≡ false → (a || b) ≡ true → b ≡ true
    skip true b is either = cc
    skip false b is either = either

    by_test : (same m l ≡ true) ⊎ (same m l ≡ false) → (IsOneOf later l → IsWithin n l) → IsWithin n l
    by_test (inl is) rest = subst (λ k. IsWithin n k) (same-true m l is) (All-head (IsWithin n) m later within)
    by_test (inr apart) rest = rest (skip (same m l) (list_any (λ k. same k l) later) apart held)

pub index_inside : (n : ℕ) (l : Literal) → IsWithin n l → (1 ≤ index_of l) × (index_of l < 2 * n + 2)
index_inside n l within = by_sign l.positive refl
  where
    by_sign : (b : Bool) → l.positive ≡ b → (1 ≤ index_of l) × (index_of l < 2 * n + 2)
    by_sign true is =
        let e : index_of l ≡ 2 * l.variable + 0 = ap (λ (s : Bool). 2 * l.variable + (if s then 0 else 1)) is in
        (omega (arith, e, within.0), omega (arith, e, within.1))
    by_sign false is =
        let e : index_of l ≡ 2 * l.variable + 1 = ap (λ (s : Bool). 2 * l.variable + (if s then 0 else 1)) is in
        (omega (arith, e, within.0), omega (arith, e, within.1))

pub pair_inside : (n : ℕ) (clauses : List NamedClause) (name : Name) (a b : Literal) → All (λ (c : NamedClause). All (IsWithin n) c.lits) clauses → HasPair clauses name a b → (1 ≤ index_of a) × (index_of a < 2 * n + 2)
pair_inside n clauses name a b within has = index_inside n a (one_within n has.lits a (lits_within n clauses name has.lits within has.found) has.pair.first)

-- what was read of a node
pub lit_read : (nodes : List Node) (k : ℕ) (node : Node) → k < length nodes → node ≡ get_or nodes k node → slice_get (lits_of nodes) k ≡ Some node.lit
lit_read nodes k node inside is = slice_get-map (λ (m : Node). m.lit) nodes k ∙ ap (λ (o : Option Node). option_map (λ (m : Node). m.lit) o) (slice_get_read nodes (length nodes) k node refl inside is)

-- a step of a walk, whose list has a node left
module _ (clauses : List NamedClause) (trail done next : List Entry) (l : Literal) (left steps most last : ℕ) (heads : List ℕ) (nodes : List Node) (names : List Name) (notes : List Note)
    (walk : IsWalkOf clauses trail done next l left steps most last heads nodes names notes) (real : 1 ≤ index_of l) (inside : index_of l < length heads) (n : ℕ) (later : List ℕ) (first : list_at walk.lists (index_of l) ≡ n ∷ later) where
  pub own_list : list_at (in_place (index_of l) walk.lists) (index_of l) ≡ onto (list_at walk.lists 0) (n ∷ later)
  own_list = in_place-own (index_of l) walk.lists real (omega (arith, inside, walk.long)) ∙ ap (λ rest. onto (list_at walk.lists 0) rest) first

  pub node_inside : n < length nodes
  node_inside =
      let chain = subst (λ ns. IsChain (nexts_of nodes) (get_or heads (index_of l) 0) ns) own_list (walk.are.chains (index_of l) inside) in
      omega (arith, chain_low (nexts_of nodes) (get_or heads (index_of l) 0) (list_at walk.lists 0) n later chain, length-map nodes (λ (m : Node). m.next))

  pub half_inside : n / 2 < length names
  half_inside = omega (arith, node_inside, walk.sized)

  pub other_inside : flip n < length nodes
  other_inside = omega (arith, flip_within n (length names) (omega (arith, node_inside, walk.sized)), walk.sized)

  here : 1 ≤ times_in n (list_at walk.lists (index_of l))
  here = let e = ap (λ ns. times_in n ns) first ∙ first_once n later in omega (arith, e)

  pub own_lit : slice_get (lits_of nodes) n ≡ Some l
  own_lit =
      let any : Literal = l in
      let found = slice_get-get_or (lits_of nodes) n any (omega (arith, node_inside, length-map nodes (λ (m : Node). m.lit))) in
      found ∙ ap (λ a. Some a) (node_own clauses trail done next l left steps most last heads nodes names notes walk n (get_or (lits_of nodes) n any) here found)

  pub own_row : (name : Name) (b : Literal) → slice_get names (n / 2) ≡ Some name → slice_get (lits_of nodes) (flip n) ≡ Some b → IsRow clauses trail done notes name l b
  own_row name b named other = walk.unmet n name b named own_lit other (omega (arith, here, walk.once n, times_one n walk.lists (index_of l)))

  pub own_pair : (b : Literal) → slice_get (lits_of nodes) (flip n) ≡ Some b → (name : Name) → slice_get names (n / 2) ≡ Some name → HasPair clauses name l b
  own_pair b other name named = let row = own_row name b named other in record { lits = row.lits; found = row.found; pair = row.pair }

-- a node was met, and stays or leaves
module _ (clauses : List NamedClause) (trail done next : List Entry) (l : Literal) (left steps most last : ℕ) (heads : List ℕ) (nodes : List Node) (names : List Name) (notes : List Note)
    (walk : IsWalkOf clauses trail done next l (left + 1) steps most last heads nodes names notes) (real : 1 ≤ index_of l) (inside : index_of l < length heads) (n : ℕ) (later : List ℕ) (first : list_at walk.lists (index_of l) ≡ n ∷ later)
    (m b : Literal) (other : slice_get (lits_of nodes) (flip n) ≡ Some b) (after-names : List Name) (after-notes : List Note) (names-same : after-names ≡ names)
    (row : (name : Name) → slice_get names (n / 2) ≡ Some name → IsRow clauses trail done notes name l b → IsRow clauses trail next after-notes name m b) (kept : (name : Name) → IsNoted notes name → IsNoted after-notes name)
    (now : ℕ) (paid : now ≤ steps + 1) where
  abbrev any : Name
  any = record { period = 0; core = 0; index = 0 }

  own : slice_get (lits_of nodes) n ≡ Some l
  own = own_lit clauses trail done next l (left + 1) steps most last heads nodes names notes walk real inside n later first

  half : n / 2 < length names
  half = half_inside clauses trail done next l (left + 1) steps most last heads nodes names notes walk real inside n later first

  named : slice_get names (n / 2) ≡ Some (get_or names (n / 2) any)
  named = slice_get-get_or names (n / 2) any half

  right : IsRow clauses trail next after-notes (get_or names (n / 2) any) m b
  right = row (get_or names (n / 2) any) named (own_row clauses trail done next l (left + 1) steps most last heads nodes names notes walk real inside n later first (get_or names (n / 2) any) b named other)

  abbrev taken_lists : List (List ℕ)
  taken_lists = popped clauses trail done next l left steps most last heads nodes names notes walk n later first

  lists_long : length taken_lists ≡ length walk.lists
  lists_long = length-set walk.lists (index_of l) later

  low : index_of l < length walk.lists
  low = omega (arith, inside, walk.long)

  zero_taken : list_at taken_lists 0 ≡ list_at walk.lists 0
  zero_taken = get_or-set_other walk.lists (index_of l) 0 later [] (λ z. absurd (omega (arith, z, real)))

  own_taken : list_at taken_lists (index_of l) ≡ later
  own_taken = get_or-set_same walk.lists (index_of l) later [] low

  other_taken : (r : ℕ) → r ≢ index_of l → list_at taken_lists r ≡ list_at walk.lists r
  other_taken r apart = get_or-set_other walk.lists (index_of l) r later [] apart

  -- it stays, and is the last of those that do
  pub stayed : m ≡ l → IsWalkOf clauses trail done next l left now most n heads nodes after-names after-notes
  stayed is =
      subst (λ ns. IsWalkOf clauses trail done next l left now most n heads nodes ns after-notes) (sym names-same)
      (walk_met clauses trail done next l left steps most last heads nodes names notes walk n later first 0 real m b (subst (λ k. 1 ≤ index_of k) (sym is) real) (get_or names (n / 2) any) heads nodes after-notes now n named own other (inl (is, refl))
      (omega (arith, low)) (sym (set_same (lits_of nodes) n m (subst (λ k. slice_get (lits_of nodes) n ≡ Some k) (sym is) own))) refl are stays kept right paid)
    where
      pushed : List (List ℕ)
      pushed = set taken_lists 0 (n ∷ list_at taken_lists 0)

      zero_low : 0 < length taken_lists
      zero_low = omega (arith, low, lists_long)

      zero_pushed : list_at pushed 0 ≡ n ∷ list_at walk.lists 0
      zero_pushed = get_or-set_same taken_lists 0 (n ∷ list_at taken_lists 0) [] zero_low ∙ ap (λ ns. n ∷ ns) zero_taken

      own_pushed : list_at pushed (index_of l) ≡ later
      own_pushed = get_or-set_other taken_lists 0 (index_of l) (n ∷ list_at taken_lists 0) [] (λ z. absurd (omega (arith, z, real))) ∙ own_taken

      same_place : in_place (index_of l) walk.lists ≡ in_place (index_of l) pushed
      same_place =
          let long : length pushed ≡ length walk.lists = length-set taken_lists 0 (n ∷ list_at taken_lists 0) ∙ lists_long in
          is_in_place (index_of l) pushed real (omega (arith, low, long)) (in_place (index_of l) walk.lists) (in_place-long (index_of l) walk.lists real low ∙ sym long)
          (in_place-zero (index_of l) walk.lists real low)
          (own_list clauses trail done next l (left + 1) steps most last heads nodes names notes walk real inside n later first
          ∙ (ap (λ ns. onto ns later) (sym zero_pushed) ∙ ap (λ ns. onto (list_at pushed 0) ns) (sym own_pushed)))
          (λ r some apart. in_place-other (index_of l) walk.lists real low r some apart ∙ (sym (other_taken r apart) ∙ sym (get_or-set_other taken_lists 0 r (n ∷ list_at taken_lists 0) [] some)))

      are : AreLists heads (nexts_of nodes) (in_place (index_of l) pushed)
      are = subst (λ lists. AreLists heads (nexts_of nodes) lists) same_place walk.are

      stays : n ≡ last_of (list_at pushed 0)
      stays = ap last_of (sym zero_pushed)

  -- it leaves for the list of another literal
  pub left_list : m ≢ l → 1 ≤ index_of m → index_of m < length heads → (mid-heads : List ℕ) (mid-nodes : List Node) → AreLists mid-heads (nexts_of mid-nodes) (set (in_place (index_of l) walk.lists) (index_of l) (onto (list_at walk.lists 0) later)) →
      lits_of mid-nodes ≡ lits_of nodes → length mid-heads ≡ length heads → (put-heads : List ℕ) (put-nodes : List Node) →
      ((lists : List (List ℕ)) → AreLists mid-heads (nexts_of mid-nodes) lists → times n lists ≡ 0 → AreLists put-heads (nexts_of put-nodes) (set lists (index_of m) (n ∷ list_at lists (index_of m)))) →
      lits_of put-nodes ≡ set (lits_of mid-nodes) n m → length put-heads ≡ length mid-heads →
      IsWalkOf clauses trail done next l left now most last put-heads put-nodes after-names after-notes
  left_list apart real_m low_m mid-heads mid-nodes mid mid-lits mid-long put-heads put-nodes put put-lits put-long =
      subst (λ ns. IsWalkOf clauses trail done next l left now most last put-heads put-nodes ns after-notes) (sym names-same)
      (walk_met clauses trail done next l left steps most last heads nodes names notes walk n later first (index_of m) real m b real_m (get_or names (n / 2) any) put-heads put-nodes after-notes now last named own other (inr (apart, refl))
      (omega (arith, low_m, walk.long)) (put-lits ∙ ap (λ ls. set ls n m) mid-lits) (put-long ∙ mid-long) are stays kept right paid)
    where
      q_own : index_of m ≢ index_of l
      q_own is = apart (index_apart m l is)

      q_zero : index_of m ≢ 0
      q_zero z = absurd (omega (arith, z, real_m))

      pushed : List (List ℕ)
      pushed = set taken_lists (index_of m) (n ∷ list_at taken_lists (index_of m))

      q_low : index_of m < length taken_lists
      q_low = omega (arith, low_m, walk.long, lists_long)

      long : length pushed ≡ length walk.lists
      long = length-set taken_lists (index_of m) (n ∷ list_at taken_lists (index_of m)) ∙ lists_long

      middle : List (List ℕ)
      middle = set (in_place (index_of l) walk.lists) (index_of l) (onto (list_at walk.lists 0) later)

      place_low : index_of l < length (in_place (index_of l) walk.lists)
      place_low = omega (arith, low, in_place-long (index_of l) walk.lists real low)

      middle_long : length middle ≡ length walk.lists
      middle_long = length-set (in_place (index_of l) walk.lists) (index_of l) (onto (list_at walk.lists 0) later) ∙ in_place-long (index_of l) walk.lists real low

      middle_own : list_at middle (index_of l) ≡ onto (list_at walk.lists 0) later
      middle_own = get_or-set_same (in_place (index_of l) walk.lists) (index_of l) (onto (list_at walk.lists 0) later) [] place_low

      middle_other : (r : ℕ) → r ≢ index_of l → list_at middle r ≡ list_at (in_place (index_of l) walk.lists) r
      middle_other r other_list = get_or-set_other (in_place (index_of l) walk.lists) (index_of l) r (onto (list_at walk.lists 0) later) [] other_list

      gone : times n middle ≡ 0
      gone =
          let a = times-set n (in_place (index_of l) walk.lists) (index_of l) (onto (list_at walk.lists 0) later) place_low in
          let b = ap (λ ns. times_in n ns) (own_list clauses trail done next l (left + 1) steps most last heads nodes names notes walk real inside n later first) in
          omega (arith, a, b, times_in-onto n (list_at walk.lists 0) later, times_in-onto n (list_at walk.lists 0) (n ∷ later), first_once n later, in_place-times (index_of l) walk.lists real low n, walk.once n)

      after-lists : List (List ℕ)
      after-lists = set middle (index_of m) (n ∷ list_at middle (index_of m))

      after_other : (r : ℕ) → r ≢ index_of m → list_at after-lists r ≡ list_at middle r
      after_other r other_list = get_or-set_other middle (index_of m) r (n ∷ list_at middle (index_of m)) [] other_list

      pushed_other : (r : ℕ) → r ≢ index_of m → list_at pushed r ≡ list_at taken_lists r
      pushed_other r other_list = get_or-set_other taken_lists (index_of m) r (n ∷ list_at taken_lists (index_of m)) [] other_list

      zero_pushed : list_at pushed 0 ≡ list_at walk.lists 0
      zero_pushed = pushed_other 0 (λ z. q_zero (sym z)) ∙ zero_taken

      own_pushed : list_at pushed (index_of l) ≡ later
      own_pushed = pushed_other (index_of l) (λ e. q_own (sym e)) ∙ own_taken

      at_q : list_at after-lists (index_of m) ≡ list_at pushed (index_of m)
      at_q =
          get_or-set_same middle (index_of m) (n ∷ list_at middle (index_of m)) [] (omega (arith, q_low, lists_long, middle_long))
          ∙ (ap (λ ns. n ∷ ns) (middle_other (index_of m) q_own ∙ (in_place-other (index_of l) walk.lists real low (index_of m) q_zero q_own ∙ sym (other_taken (index_of m) q_own)))
          ∙ sym (get_or-set_same taken_lists (index_of m) (n ∷ list_at taken_lists (index_of m)) [] q_low))

      at_other : (r : ℕ) → r ≢ 0 → r ≢ index_of l → list_at after-lists r ≡ list_at pushed r
      at_other r some other_list = by_case (cases_eq r (index_of m))
        where
          by_case : (r ≡ index_of m) ⊎ (r ≢ index_of m) → list_at after-lists r ≡ list_at pushed r
          by_case (inl is) = subst (λ k. list_at after-lists k ≡ list_at pushed k) (sym is) at_q
          by_case (inr not_q) = after_other r not_q ∙ (middle_other r other_list ∙ (in_place-other (index_of l) walk.lists real low r some other_list ∙ (sym (other_taken r other_list) ∙ sym (pushed_other r not_q))))

      same_place : after-lists ≡ in_place (index_of l) pushed
      same_place =
          is_in_place (index_of l) pushed real (omega (arith, low, long)) after-lists (length-set middle (index_of m) (n ∷ list_at middle (index_of m)) ∙ (middle_long ∙ sym long))
          (after_other 0 (λ z. q_zero (sym z)) ∙ (middle_other 0 (λ z. absurd (omega (arith, z, real))) ∙ in_place-zero (index_of l) walk.lists real low))
          (after_other (index_of l) (λ e. q_own (sym e)) ∙ (middle_own ∙ (ap (λ ns. onto ns later) (sym zero_pushed) ∙ ap (λ ns. onto (list_at pushed 0) ns) (sym own_pushed))))
          at_other

      are : AreLists put-heads (nexts_of put-nodes) (in_place (index_of l) pushed)
      are = subst (λ lists. AreLists put-heads (nexts_of put-nodes) lists) same_place (put middle mid gone)

      stays : last ≡ last_of (list_at pushed 0)
      stays = walk.stays ∙ ap last_of (sym zero_pushed)

-- a walk whose list is empty
pub walk_emptied : (clauses : List NamedClause) (trail done next : List Entry) (l : Literal) (left steps most last : ℕ) (heads : List ℕ) (nodes : List Node) (names : List Name) (notes : List Note)
    (walk : IsWalkOf clauses trail done next l left steps most last heads nodes names notes) → list_at walk.lists (index_of l) ≡ [] → IsWalkOf clauses trail done next l 0 steps most last heads nodes names notes
walk_emptied clauses trail done next l left steps most last heads nodes names notes walk empty =
    let e = ap length empty in
    record {
      sized = walk.sized;
      begun = walk.begun;
      lists = walk.lists;
      long = walk.long;
      once = walk.once;
      are = walk.are;
      stays = walk.stays;
      placed = walk.placed;
      real = walk.real;
      all = walk.all;
      unmet = walk.unmet;
      rows = walk.rows;
      few = omega (arith, e);
      cheap = walk.cheap;
    }

-- a walk is on still
pub on_still : (clauses : List NamedClause) (trail : List Entry) (l : Literal) (last newest : ℕ) (t after : Table) (b : Bool) (steps now : ℕ) → IsInWalk clauses trail l last t → b ≡ true →
    ((done next : List Entry) (left most : ℕ) → IsStep trail done next l → AreFlagged (row_names t.rows.items) t.noted.flags.items t.noted.notes.items → IsWalk clauses trail done next l (left + 1) steps most last t →
    IsWalk clauses trail done next l (if b then left else 0) now most newest after) →
    HasMoreNotes trail clauses (row_names t.rows.items) t.noted after.noted → row_names after.rows.items ≡ row_names t.rows.items → IsInWalk clauses trail l newest after
on_still clauses trail l last newest t after b steps now on is goes more names = record {
  done = on.done;
  next = on.next;
  left = if b then on.left else 0;
  steps = now;
  most = steps + on.left;
  step = on.step;
  walk = goes on.done on.next on.left (steps + on.left) on.step on.flagged (walk_again clauses trail on.done on.next l on.left on.steps on.most last t (on.left + 1) steps (omega arith) on.walk);
  flagged = subst (λ ns. AreFlagged ns after.noted.flags.items after.noted.notes.items) (sym names) (more.flagged on.flagged);
}

pub index_under : (n : ℕ) (l : Literal) → l.variable ≤ n → index_of l < 2 * n + 2
index_under n l most = by_sign l.positive refl
  where
    by_sign : (b : Bool) → l.positive ≡ b → index_of l < 2 * n + 2
    by_sign true is = let e : index_of l ≡ 2 * l.variable + 0 = ap (λ (s : Bool). 2 * l.variable + (if s then 0 else 1)) is in omega (arith, e, most)
    by_sign false is = let e : index_of l ≡ 2 * l.variable + 1 = ap (λ (s : Bool). 2 * l.variable + (if s then 0 else 1)) is in omega (arith, e, most)

-- as many flags as rows
pub flags_kept : (before after : Table) → HaveSameRows before after → length before.noted.flags.items ≡ length before.rows.items → length after.noted.flags.items ≡ length after.rows.items
flags_kept before after rows sized =
    let e = ap length rows.rows in omega (arith, e, rows.flags, sized)

-- a walk has read no more than there are clauses with the literal
pub walk_few : (clauses : List NamedClause) (trail : List Entry) (l : Literal) (last : ℕ) (before after : Table) (steps now : ℕ) → MayWalk clauses trail l before → AreNamedApart (row_names before.rows.items) → 1 ≤ index_of l → index_of l < length before.links.heads.items →
    ((done next : List Entry) (most : ℕ) → IsStep trail done next l → AreFlagged (row_names before.rows.items) before.noted.flags.items before.noted.notes.items →
    IsWalk clauses trail done next l (length before.links.nodes.items) steps most no_node before → IsWalk clauses trail done next l 0 now most last after) → now ≤ steps + occurrences_of l clauses
walk_few clauses trail l last before after steps now may apart real inside goes =
    let most = steps + occurrences_of l clauses in
    let short = list_most clauses trail may.done before.noted.notes.items before.links.heads.items before.links.nodes.items (row_names before.rows.items) may.table.threaded
    (omega (arith, may.table.sized.nodes, length-map before.rows.items (λ (r : Row). r.name))) may.table.rows apart l inside in
    let walk = goes may.done may.next most may.step may.table.flagged (begun_walk clauses trail may.done may.next l before steps most may.step may.table real inside (omega (arith, short))) in
    omega (arith, walk.cheap)
