-- A step of a walk, by what its calls tell.
use Rattle.std.proofs.Common.{◌≡◌, ◌≢◌, ℕ, ◌+◌, ◌*◌, ◌/◌, ◌<◌, ◌≤◌, ◌==◌, Bool, true, false, List, ◌∷◌, length, get_or, set, All, refl, ap, sym, ◌∙◌, subst, arith, vec_capacity}
use Rattle.std.specs.Prelude.{Option, Some, None, slice_get}
use Rattle.std.proofs.lemmas.List.{length-map, length-set}
use Rattle.std.proofs.lemmas.Option.{slice_get-get_or}
use Rattle.lit_base.specs.Literal.{Literal, same, IsWithin}
use Rattle.lit_base.specs.Rounds.{NamedClause}
use Rattle.lit_base.specs.declared.trail.Entry.{Entry}
use Rattle.lit_base.specs.declared.name.Name.{Name}
use Rattle.lit_base.proofs.DistinctLits.{same-true, same-places}
use Rattle.lit_base.proofs.Known.{same_itself}
use Rattle.trail_book.specs.Arrays.{index_of}
use Rattle.round_prop.specs.declared.links.Links.{Links}
use Rattle.round_prop.specs.declared.node.Node.{Node}
use Rattle.round_prop.specs.declared.noted.Noted.{Noted}
use Rattle.round_prop.specs.declared.row.Row.{Row}
use Rattle.round_prop.specs.declared.table.Table.{Table}
use Rattle.round_prop.specs.Chains.{nexts_of, lits_of, list_at, times, onto, last_of, in_place, AreLists, IsFront}
use Rattle.round_prop.specs.Noting.{IsNoted, HasMoreNotes}
use Rattle.round_prop.specs.Readied.{row_names, flip, IsRow, HaveSameRows}
use Rattle.round_prop.specs.Walking.{HasPair, IsWalkOf, IsWalk, IsInWalk}
use Rattle.round_prop.proofs.TableSteps.{own_list, node_inside, other_inside, half_inside, own_pair, lit_read, pair_inside, index_under, stayed, left_list, walk_emptied}
use Rattle.round_prop.proofs.InPlace.{in_place-own}
use Rattle.round_prop.proofs.LinkSteps.{not_both}

-- what is told of the node behind the last one that was met
abbrev pub Behind : Table → ℕ → ℕ → Option ℕ → Type 0
Behind t last p o = (lists : List (List ℕ)) (met rest : List ℕ) → AreLists t.links.heads.items (nexts_of t.links.nodes.items) lists → list_at lists p ≡ onto met rest → last ≡ last_of met → IsFront rest o

-- it is the first of those that are left
pub fronted : (clauses : List NamedClause) (trail done next : List Entry) (l : Literal) (left steps most last : ℕ) (t : Table) (p : ℕ) (o r : Option ℕ) → (walk : IsWalk clauses trail done next l left steps most last t) → 1 ≤ p → p ≡ index_of l →
    index_of l < length t.links.heads.items → o ≡ r → Behind t last p o → IsFront (list_at walk.lists (index_of l)) r
fronted clauses trail done next l left steps most last t p o r walk real place inside is behind =
    subst (λ z. IsFront (list_at walk.lists (index_of l)) z) is
    (behind (in_place (index_of l) walk.lists) (list_at walk.lists 0) (list_at walk.lists (index_of l)) walk.are
    (ap (λ k. list_at (in_place (index_of l) walk.lists) k) place ∙ in_place-own (index_of l) walk.lists (omega (arith, real, place)) (omega (arith, inside, walk.long))) walk.stays)

-- what is told of the node that is met
pub record IsMet (clauses : List NamedClause) (l : Literal) (t : Table) (n : ℕ) : Type 0 where
  pub node_in : n < length t.links.nodes.items
  pub other_in : flip n < length t.links.nodes.items
  pub half_in : n / 2 < length t.rows.items
  pub other : (k : ℕ) (node : Node) → k ≡ flip n → node ≡ get_or t.links.nodes.items k node → slice_get (lits_of t.links.nodes.items) (flip n) ≡ Some node.lit
  pub pair : (k : ℕ) (node : Node) → k ≡ flip n → node ≡ get_or t.links.nodes.items k node → (name : Name) → slice_get (row_names t.rows.items) (n / 2) ≡ Some name → HasPair clauses name l node.lit

pub is_met : (clauses : List NamedClause) (trail : List Entry) (l : Literal) (variables last : ℕ) (t : Table) (p n : ℕ) (o : Option ℕ) → IsInWalk clauses trail l last t → length t.links.heads.items ≡ 2 * variables + 2 → l.variable ≤ variables →
    1 ≤ p → p ≡ index_of l → o ≡ Some n → Behind t last p o → IsMet clauses l t n
is_met clauses trail l variables last t p n o on wide own real place is behind = record {
  node_in = node_in;
  other_in = other_in;
  half_in = omega (arith, half_in, length-map t.rows.items (λ (r : Row). r.name));
  other = other_lit;
  pair = λ k node at read name named.
      own_pair clauses trail on.done on.next l on.left on.steps on.most last t.links.heads.items t.links.nodes.items (row_names t.rows.items) t.noted.notes.items on.walk real_own inside n front.0 front.1 node.lit (other_lit k node at read) name named;
}
  where
    real_own : 1 ≤ index_of l
    real_own = omega (arith, real, place)

    inside : index_of l < length t.links.heads.items
    inside = omega (arith, wide, index_under variables l own)

    front : IsFront (list_at on.walk.lists (index_of l)) (Some n)
    front = fronted clauses trail on.done on.next l on.left on.steps on.most last t p o (Some n) on.walk real place inside is behind

    node_in : n < length t.links.nodes.items
    node_in = node_inside clauses trail on.done on.next l on.left on.steps on.most last t.links.heads.items t.links.nodes.items (row_names t.rows.items) t.noted.notes.items on.walk real_own inside n front.0 front.1

    other_in : flip n < length t.links.nodes.items
    other_in = other_inside clauses trail on.done on.next l on.left on.steps on.most last t.links.heads.items t.links.nodes.items (row_names t.rows.items) t.noted.notes.items on.walk real_own inside n front.0 front.1

    half_in : n / 2 < length (row_names t.rows.items)
    half_in = half_inside clauses trail on.done on.next l on.left on.steps on.most last t.links.heads.items t.links.nodes.items (row_names t.rows.items) t.noted.notes.items on.walk real_own inside n front.0 front.1

    other_lit : (k : ℕ) (node : Node) → k ≡ flip n → node ≡ get_or t.links.nodes.items k node → slice_get (lits_of t.links.nodes.items) (flip n) ≡ Some node.lit
    other_lit k node at read = subst (λ j. slice_get (lits_of t.links.nodes.items) j ≡ Some node.lit) at (lit_read t.links.nodes.items k node (omega (arith, at, other_in)) read)

-- the literal by which it is linked has a list
pub link_inside : (clauses : List NamedClause) (m b : Literal) (variables : ℕ) (t : Table) (n : ℕ) → All (λ (c : NamedClause). All (IsWithin variables) c.lits) clauses → n / 2 < length t.rows.items →
    ((name : Name) → slice_get (row_names t.rows.items) (n / 2) ≡ Some name → HasPair clauses name m b) → (1 ≤ index_of m) × (index_of m < 2 * variables + 2)
link_inside clauses m b variables t n within half pair =
    let any : Name = record { period = 0; core = 0; index = 0 } in
    let has = pair (get_or (row_names t.rows.items) (n / 2) any) (slice_get-get_or (row_names t.rows.items) (n / 2) any (omega (arith, half, length-map t.rows.items (λ (r : Row). r.name)))) in
    pair_inside variables clauses (get_or (row_names t.rows.items) (n / 2) any) m b within has

-- whether its link is the literal that became false
pub link_stays : (m l : Literal) (b : Bool) → b ≡ (index_of m == index_of l) → b ≡ true → m ≡ l
link_stays m l b is holds = same-true m l (same-places m l ∙ (sym is ∙ holds))

pub link_leaves : (m l : Literal) (b : Bool) → b ≡ (index_of m == index_of l) → b ≡ false → m ≢ l
link_leaves m l b is fails equal = not_both (same m l) (subst (λ z. same m z ≡ true) equal (same_itself m)) (same-places m l ∙ (sym is ∙ fails))

-- no node comes in or goes
pub nodes_kept : (before after : List Node) (n : ℕ) → lits_of after ≡ lits_of before → n < length before → n < length after
nodes_kept before after n lits low = let e = ap length lits in omega (arith, e, low, length-map before (λ (m : Node). m.lit), length-map after (λ (m : Node). m.lit))

-- the walk goes on: the node stays, or leaves
module _ (clauses : List NamedClause) (trail done next : List Entry) (l : Literal) (variables left steps most last : ℕ) (t : Table) (p n : ℕ) (o : Option ℕ) (walk : IsWalk clauses trail done next l (left + 1) steps most last t)
    (wide : length t.links.heads.items ≡ 2 * variables + 2) (own : l.variable ≤ variables) (real : 1 ≤ p) (place : p ≡ index_of l) (is : o ≡ Some n) (behind : Behind t last p o) (m b : Literal) (other : slice_get (lits_of t.links.nodes.items) (flip n) ≡ Some b)
    (after : Table) (names : row_names after.rows.items ≡ row_names t.rows.items)
    (row : (name : Name) → slice_get (row_names t.rows.items) (n / 2) ≡ Some name → IsRow clauses trail done t.noted.notes.items name l b → IsRow clauses trail next after.noted.notes.items name m b)
    (kept : (name : Name) → IsNoted t.noted.notes.items name → IsNoted after.noted.notes.items name) (now : ℕ) (paid : now ≤ steps + 1) where
  inside : index_of l < length t.links.heads.items
  inside = omega (arith, wide, index_under variables l own)

  real_own : 1 ≤ index_of l
  real_own = omega (arith, real, place)

  front : IsFront (list_at walk.lists (index_of l)) (Some n)
  front = fronted clauses trail done next l (left + 1) steps most last t p o (Some n) walk real place inside is behind

  pub step_stays : m ≡ l → after.links ≡ t.links → IsWalk clauses trail done next l left now most n after
  step_stays same_link links =
      subst (λ (v : Links). IsWalkOf clauses trail done next l left now most n v.heads.items v.nodes.items (row_names after.rows.items) after.noted.notes.items) (sym links)
      (stayed clauses trail done next l left steps most last t.links.heads.items t.links.nodes.items (row_names t.rows.items) t.noted.notes.items walk real_own inside n front.0 front.1 m b other
      (row_names after.rows.items) after.noted.notes.items names row kept now paid same_link)

  pub step_leaves : m ≢ l → 1 ≤ index_of m → index_of m < length t.links.heads.items → (mid : Links) →
      ((lists : List (List ℕ)) (met later : List ℕ) → AreLists t.links.heads.items (nexts_of t.links.nodes.items) lists → list_at lists p ≡ onto met (n ∷ later) → last ≡ last_of met → AreLists mid.heads.items (nexts_of mid.nodes.items) (set lists p (onto met later))) →
      lits_of mid.nodes.items ≡ lits_of t.links.nodes.items → length mid.heads.items ≡ length t.links.heads.items → (q : ℕ) → q ≡ index_of m →
      ((lists : List (List ℕ)) → AreLists mid.heads.items (nexts_of mid.nodes.items) lists → times n lists ≡ 0 → AreLists after.links.heads.items (nexts_of after.links.nodes.items) (set lists q (n ∷ list_at lists q))) →
      lits_of after.links.nodes.items ≡ set (lits_of mid.nodes.items) n m → length after.links.heads.items ≡ length mid.heads.items → IsWalk clauses trail done next l left now most last after
  step_leaves apart real_m low_m mid unlinked mid_lits mid_long q q_is pushed lits long =
      left_list clauses trail done next l left steps most last t.links.heads.items t.links.nodes.items (row_names t.rows.items) t.noted.notes.items walk real_own inside n front.0 front.1 m b other
      (row_names after.rows.items) after.noted.notes.items names row kept now paid apart real_m low_m mid.heads.items mid.nodes.items
      (subst (λ r. AreLists mid.heads.items (nexts_of mid.nodes.items) (set (in_place (index_of l) walk.lists) r (onto (list_at walk.lists 0) front.0))) place
      (unlinked (in_place (index_of l) walk.lists) (list_at walk.lists 0) front.0 walk.are (ap (λ k. list_at (in_place (index_of l) walk.lists) k) place ∙ first_in_place) walk.stays))
      mid_lits mid_long after.links.heads.items after.links.nodes.items
      (subst (λ r. (lists : List (List ℕ)) → AreLists mid.heads.items (nexts_of mid.nodes.items) lists → times n lists ≡ 0 → AreLists after.links.heads.items (nexts_of after.links.nodes.items) (set lists r (n ∷ list_at lists r))) q_is pushed) lits long
    where
      first_in_place : list_at (in_place (index_of l) walk.lists) (index_of l) ≡ onto (list_at walk.lists 0) (n ∷ front.0)
      first_in_place = own_list clauses trail done next l (left + 1) steps most last t.links.heads.items t.links.nodes.items (row_names t.rows.items) t.noted.notes.items walk real_own inside n front.0 front.1

-- the walk is over
pub step_over : (clauses : List NamedClause) (trail done next : List Entry) (l : Literal) (variables left steps most last : ℕ) (t : Table) (p : ℕ) (o : Option ℕ) → IsWalk clauses trail done next l left steps most last t → length t.links.heads.items ≡ 2 * variables + 2 → l.variable ≤ variables →
    1 ≤ p → p ≡ index_of l → o ≡ None → Behind t last p o → IsWalk clauses trail done next l 0 steps most last t
step_over clauses trail done next l variables left steps most last t p o walk wide own real place is behind =
    walk_emptied clauses trail done next l left steps most last t.links.heads.items t.links.nodes.items (row_names t.rows.items) t.noted.notes.items walk
    (fronted clauses trail done next l left steps most last t p o None walk real place (omega (arith, wide, index_under variables l own)) is behind)

-- and no row is lost
pub same_stayed : (trail : List Entry) (clauses : List NamedClause) (old : Table) (noted : Noted) →
    HasMoreNotes trail clauses (row_names old.rows.items) old.noted noted → HaveSameRows old (record old { noted = noted })
same_stayed trail clauses old noted more = record {
  rows = refl;
  heads = refl;
  nodes = refl;
  flags = more.flags;
  load = more.load;
  rows_room = refl;
  nodes_room = refl;
  notes_room = more.notes_room;
  flags_room = more.flags_room;
}

pub same_left : (trail : List Entry) (clauses : List NamedClause) (old : Table) (links mid : Links) (noted : Noted) (n : ℕ) (l : Literal) →
    lits_of mid.nodes.items ≡ lits_of old.links.nodes.items → length mid.heads.items ≡ length old.links.heads.items → vec_capacity mid.nodes ≡ vec_capacity old.links.nodes → lits_of links.nodes.items ≡ set (lits_of mid.nodes.items) n l →
    length links.heads.items ≡ length mid.heads.items → vec_capacity links.nodes ≡ vec_capacity mid.nodes →
    HasMoreNotes trail clauses (row_names old.rows.items) old.noted noted → HaveSameRows old (record { rows = old.rows; links = links; noted = noted })
same_left trail clauses old links mid noted n l mid_lits mid_heads mid_room lits put_heads put_room more = record {
  rows = refl;
  heads = put_heads ∙ mid_heads;
  nodes =
      let e = ap length lits in let f = ap length mid_lits in
      omega (arith, e, f, length-set (lits_of mid.nodes.items) n l, length-map links.nodes.items (λ (m : Node). m.lit), length-map mid.nodes.items (λ (m : Node). m.lit), length-map old.links.nodes.items (λ (m : Node). m.lit));
  flags = more.flags;
  load = more.load;
  rows_room = refl;
  nodes_room = put_room ∙ mid_room;
  notes_room = more.notes_room;
  flags_room = more.flags_room;
}
