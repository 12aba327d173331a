-- Rows that stay, moved to the front one by one.
use Rattle.std.proofs.Common.{◌≡◌, ℕ, zero, suc, ◌+◌, ◌*◌, ◌<◌, Bool, true, false, cond, List, [], ◌∷◌, ◌++◌, length, take, drop, set, refl, ap, sym, ◌∙◌, arith, append_assoc}
use Rattle.std.specs.Prelude.{Some, None, slice_get, map, if◌then◌else◌}
use Rattle.std.proofs.lemmas.List.{length-set, take_more_set, drop-set-lt, append-nil}
use Rattle.std.proofs.lemmas.Option.{same_Some, slice_get_within}
use Rattle.lit_base.specs.declared.name.Name.{Name}
use Rattle.round_prop.specs.declared.node.Node.{Node}
use Rattle.round_prop.specs.declared.row.Row.{Row}
use Rattle.round_prop.specs.declared.table.Table.{Table}
use Rattle.round_prop.specs.Readied.{AreSized, IsRoomKept}
use Rattle.round_prop.specs.Removal.{stays, kept_rows, kept_items, kept_pairs, AreMoved}

none-some : {X : Type 0} {x : X} → None ≡ Some x → ⊥
none-some is = cc

pub one_up : (i : ℕ) → i + 1 ≡ suc i
one_up i = omega arith

map_up : {X : Type 0} (f : X → X) (xs : List X) (i : ℕ) (x : X) → slice_get (map f (take i xs) ++ drop i xs) i ≡ Some x →
    set (map f (take i xs) ++ drop i xs) i (f x) ≡ map f (take (suc i) xs) ++ drop (suc i) xs
map_up f [] zero x is = absurd (none-some is)
map_up f [] (suc i) x is = absurd (none-some is)
map_up f (first ∷ later) zero x is = ap (λ y. f y ∷ later) (sym (same_Some first x is))
map_up f (first ∷ later) (suc i) x is = ap (λ ys. f first ∷ ys) (map_up f later i x is)

-- a write over the next item of a list that is mapped from its front
pub map_step : {X : Type 0} (f : X → X) (xs ys : List X) (i : ℕ) (x : X) → ys ≡ map f (take i xs) ++ drop i xs → slice_get ys i ≡ Some x →
    set ys i (f x) ≡ map f (take (i + 1) xs) ++ drop (i + 1) xs
map_step f xs ys i x are is =
    ap (λ zs. set zs i (f x)) are
    ∙ (map_up f xs i x (ap (λ zs. slice_get zs i) (sym are) ∙ is) ∙ ap (λ n. map f (take n xs) ++ drop n xs) (sym (one_up i)))

pub drop_one : {X : Type 0} (xs : List X) (i : ℕ) → drop (suc i) xs ≡ drop 1 (drop i xs)
drop_one xs zero = refl
drop_one [] (suc i) = refl
drop_one (first ∷ later) (suc i) = drop_one later i

first_of-drop : {X : Type 0} (xs : List X) (i : ℕ) → slice_get (drop i xs) 0 ≡ slice_get xs i
first_of-drop xs zero = refl
first_of-drop [] (suc i) = refl
first_of-drop (first ∷ later) (suc i) = first_of-drop later i

-- lists with the same end from a place on have the same there, and behind it the same end
same_now : {X : Type 0} (xs ys : List X) (i : ℕ) → drop i xs ≡ drop i ys → slice_get xs i ≡ slice_get ys i
same_now xs ys i same = sym (first_of-drop xs i) ∙ (ap (λ zs. slice_get zs 0) same ∙ first_of-drop ys i)

same_end : {X : Type 0} (xs ys : List X) (i : ℕ) → drop i xs ≡ drop i ys → drop (i + 1) xs ≡ drop (i + 1) ys
same_end xs ys i same =
    ap (λ n. drop n xs) (one_up i) ∙ (drop_one xs i ∙ (ap (λ zs. drop 1 zs) same ∙ (sym (drop_one ys i) ∙ ap (λ n. drop n ys) (sym (one_up i)))))

pair_end : {X : Type 0} (xs ys : List X) (i : ℕ) → drop (2 * i) xs ≡ drop (2 * i) ys → drop (2 * (i + 1)) xs ≡ drop (2 * (i + 1)) ys
pair_end xs ys i same =
    ap (λ n. drop n xs) (let e : 2 * (i + 1) ≡ 2 * i + 1 + 1 = omega arith in e)
    ∙ (same_end xs ys (2 * i + 1) (same_end xs ys (2 * i) same) ∙ ap (λ n. drop n ys) (let e : 2 * i + 1 + 1 ≡ 2 * (i + 1) = omega arith in e))

-- one row more is done
module _ (names : List Name) where
  rows_up : (rows : List Row) (i : ℕ) (row : Row) → slice_get rows i ≡ Some row → kept_rows names (take (suc i) rows) ≡ kept_rows names (take i rows) ++ (if stays names row then row ∷ [] else [])
  rows_up [] i row is = absurd (none-some is)
  rows_up (first ∷ later) zero row is = ap (λ r. let rs : List Row = if stays names r then r ∷ [] else [] in rs) (same_Some first row is)
  rows_up (first ∷ later) (suc i) row is = by_test (stays names first) (rows_up later i row is)
    where
      by_test : (b : Bool) → kept_rows names (take (suc i) later) ≡ kept_rows names (take i later) ++ (if stays names row then row ∷ [] else []) →
          cond b (first ∷ kept_rows names (take (suc i) later)) (kept_rows names (take (suc i) later)) ≡
          cond b (first ∷ kept_rows names (take i later)) (kept_rows names (take i later)) ++ (if stays names row then row ∷ [] else [])
      by_test true rest = ap (λ rs. first ∷ rs) rest
      by_test false rest = rest

  items_up : {X : Type 0} (rows : List Row) (items : List X) (i : ℕ) (row : Row) (x : X) → slice_get rows i ≡ Some row → slice_get items i ≡ Some x →
      kept_items names (take (suc i) rows) items ≡ kept_items names (take i rows) items ++ (if stays names row then x ∷ [] else [])
  items_up [] items i row x is one = absurd (none-some is)
  items_up (first ∷ later) [] i row x is one = absurd (none-some one)
  items_up {X = X} (first ∷ later) (y ∷ items) zero row x is one =
      ap (λ r. let xs : List X = if stays names r then y ∷ [] else [] in xs) (same_Some first row is) ∙ ap (λ z. let xs : List X = if stays names row then z ∷ [] else [] in xs) (same_Some y x one)
  items_up {X = X} (first ∷ later) (y ∷ items) (suc i) row x is one = by_test (stays names first) (items_up later items i row x is one)
    where
      by_test : (b : Bool) → kept_items names (take (suc i) later) items ≡ kept_items names (take i later) items ++ (if stays names row then x ∷ [] else []) →
          cond b (y ∷ kept_items names (take (suc i) later) items) (kept_items names (take (suc i) later) items) ≡
          cond b (y ∷ kept_items names (take i later) items) (kept_items names (take i later) items) ++ (if stays names row then x ∷ [] else [])
      by_test true rest = ap (λ rs. y ∷ rs) rest
      by_test false rest = rest

  pairs_up : {X : Type 0} (rows : List Row) (items : List X) (i : ℕ) (row : Row) (x y : X) → slice_get rows i ≡ Some row → slice_get items (2 * i) ≡ Some x → slice_get items (suc (2 * i)) ≡ Some y →
      kept_pairs names (take (suc i) rows) items ≡ kept_pairs names (take i rows) items ++ (if stays names row then x ∷ y ∷ [] else [])
  pairs_up [] items i row x y is one two = absurd (none-some is)
  pairs_up (first ∷ later) [] i row x y is one two = absurd (none-some one)
  pairs_up (first ∷ later) (p ∷ []) zero row x y is one two = absurd (none-some two)
  pairs_up {X = X} (first ∷ later) (p ∷ []) (suc i) row x y is one two = absurd (none-some (ap (λ n. slice_get {X = X} (p ∷ []) n) (let e : suc (suc (2 * i)) ≡ 2 * suc i = omega arith in e) ∙ one))
  pairs_up {X = X} (first ∷ later) (p ∷ q ∷ items) zero row x y is one two =
      ap (λ r. let xs : List X = if stays names r then p ∷ q ∷ [] else [] in xs) (same_Some first row is)
      ∙ (ap (λ z. let xs : List X = if stays names row then z ∷ q ∷ [] else [] in xs) (same_Some p x one) ∙ ap (λ z. let xs : List X = if stays names row then x ∷ z ∷ [] else [] in xs) (same_Some q y two))
  pairs_up {X = X} (first ∷ later) (p ∷ q ∷ items) (suc i) row x y is one two =
      by_test (stays names first) (pairs_up later items i row x y is (ap (λ n. slice_get (p ∷ q ∷ items) n) even ∙ one) (ap (λ n. slice_get (p ∷ q ∷ items) (suc n)) even ∙ two))
    where
      even : suc (suc (2 * i)) ≡ 2 * suc i
      even = omega arith

      by_test : (b : Bool) → kept_pairs names (take (suc i) later) items ≡ kept_pairs names (take i later) items ++ (if stays names row then x ∷ y ∷ [] else []) →
          cond b (p ∷ q ∷ kept_pairs names (take (suc i) later) items) (kept_pairs names (take (suc i) later) items) ≡
          cond b (p ∷ q ∷ kept_pairs names (take i later) items) (kept_pairs names (take i later) items) ++ (if stays names row then x ∷ y ∷ [] else [])
      by_test true rest = ap (λ rs. p ∷ q ∷ rs) rest
      by_test false rest = rest

  rows_more : (rows : List Row) (i : ℕ) (row : Row) → slice_get rows i ≡ Some row → kept_rows names (take (i + 1) rows) ≡ kept_rows names (take i rows) ++ (if stays names row then row ∷ [] else [])
  rows_more rows i row is = ap (λ n. kept_rows names (take n rows)) (one_up i) ∙ rows_up rows i row is

  items_more : {X : Type 0} (rows : List Row) (items : List X) (i : ℕ) (row : Row) (x : X) → slice_get rows i ≡ Some row → slice_get items i ≡ Some x →
      kept_items names (take (i + 1) rows) items ≡ kept_items names (take i rows) items ++ (if stays names row then x ∷ [] else [])
  items_more rows items i row x is one = ap (λ n. kept_items names (take n rows) items) (one_up i) ∙ items_up rows items i row x is one

  pairs_more : {X : Type 0} (rows : List Row) (items : List X) (i : ℕ) (row : Row) (x y : X) → slice_get rows i ≡ Some row → slice_get items (2 * i) ≡ Some x → slice_get items (2 * i + 1) ≡ Some y →
      kept_pairs names (take (i + 1) rows) items ≡ kept_pairs names (take i rows) items ++ (if stays names row then x ∷ y ∷ [] else [])
  pairs_more rows items i row x y is one two =
      ap (λ n. kept_pairs names (take n rows) items) (one_up i) ∙ pairs_up rows items i row x y is one (ap (λ n. slice_get items n) (sym (one_up (2 * i))) ∙ two)

-- a pair of writes over the next pair
take_pair : {X : Type 0} (xs : List X) (k : ℕ) (x y : X) → 2 * k + 1 < length xs → take (2 * (k + 1)) (set (set xs (2 * k) x) (2 * k + 1) y) ≡ take (2 * k) xs ++ x ∷ y ∷ []
take_pair xs k x y inside =
    ap (λ n. take n (set (set xs (2 * k) x) (2 * k + 1) y)) (omega arith)
    ∙ (take_more_set (set xs (2 * k) x) (2 * k + 1) y (omega (arith, length-set xs (2 * k) x, inside))
    ∙ (ap (λ zs. zs ++ y ∷ []) (take_more_set xs (2 * k) x (omega (arith, inside))) ∙ append_assoc (take (2 * k) xs) (x ∷ []) (y ∷ [])))

drop_pair : {X : Type 0} (xs : List X) (n k : ℕ) (x y : X) → 2 * k + 1 < n → drop n (set (set xs (2 * k) x) (2 * k + 1) y) ≡ drop n xs
drop_pair xs n k x y inside = drop-set-lt n (set xs (2 * k) x) (2 * k + 1) y inside ∙ drop-set-lt n xs (2 * k) x (omega (arith, inside))

-- a row that stays is moved to the others that stay
moved_row : (names : List Name) (before now after : Table) (done kept : ℕ) (row : Row) (flag : Bool) (x y : Node) → AreMoved names before now done kept →
    slice_get now.rows.items done ≡ Some row → slice_get now.noted.flags.items done ≡ Some flag → slice_get now.links.nodes.items (2 * done) ≡ Some x →
    slice_get now.links.nodes.items (2 * done + 1) ≡ Some y → stays names row ≡ true → after.rows.items ≡ set now.rows.items kept row → after.noted.flags.items ≡ set now.noted.flags.items kept flag →
    after.links.nodes.items ≡ set (set now.links.nodes.items (2 * kept) x) (2 * kept + 1) y → AreMoved names before after (done + 1) (kept + 1)
moved_row names before now after done kept row flag x y moved is_row is_flag is_one is_two stay rows flags nodes =
    let row_in : done < length now.rows.items = slice_get_within now.rows.items done row is_row in
    let flag_in : done < length now.noted.flags.items = slice_get_within now.noted.flags.items done flag is_flag in
    let node_in : 2 * done + 1 < length now.links.nodes.items = slice_get_within now.links.nodes.items (2 * done + 1) y is_two in
    let few = moved.few in
    let old_row : slice_get before.rows.items done ≡ Some row = sym (same_now now.rows.items before.rows.items done moved.rows_back) ∙ is_row in
    let old_flag : slice_get before.noted.flags.items done ≡ Some flag = sym (same_now now.noted.flags.items before.noted.flags.items done moved.flags_back) ∙ is_flag in
    let old_one : slice_get before.links.nodes.items (2 * done) ≡ Some x = sym (same_now now.links.nodes.items before.links.nodes.items (2 * done) moved.nodes_back) ∙ is_one in
    let old_two : slice_get before.links.nodes.items (2 * done + 1) ≡ Some y = sym (same_now now.links.nodes.items before.links.nodes.items (2 * done + 1) (same_end now.links.nodes.items before.links.nodes.items (2 * done) moved.nodes_back)) ∙ is_two in
    record {
      few = omega (arith, few);
      rows_long = ap length rows ∙ (length-set now.rows.items kept row ∙ moved.rows_long);
      flags_long = ap length flags ∙ (length-set now.noted.flags.items kept flag ∙ moved.flags_long);
      nodes_long = ap length nodes ∙ (length-set (set now.links.nodes.items (2 * kept) x) (2 * kept + 1) y ∙ (length-set now.links.nodes.items (2 * kept) x ∙ moved.nodes_long));
      rows_front = ap (λ rs. take (kept + 1) rs) rows ∙ (take_more_set now.rows.items kept row (omega (arith, row_in, few))
          ∙ (ap (λ rs. rs ++ row ∷ []) moved.rows_front
          ∙ sym (rows_more names before.rows.items done row old_row ∙ ap (λ b. kept_rows names (take done before.rows.items) ++ (if b then row ∷ [] else [])) stay)));
      flags_front = ap (λ fs. take (kept + 1) fs) flags ∙ (take_more_set now.noted.flags.items kept flag (omega (arith, flag_in, few))
          ∙ (ap (λ fs. fs ++ flag ∷ []) moved.flags_front
          ∙ sym (items_more names before.rows.items before.noted.flags.items done row flag old_row old_flag ∙ ap (λ b. kept_items names (take done before.rows.items) before.noted.flags.items ++ (if b then flag ∷ [] else [])) stay)));
      nodes_front = ap (λ ns. take (2 * (kept + 1)) ns) nodes ∙ (take_pair now.links.nodes.items kept x y (omega (arith, node_in, few))
          ∙ (ap (λ ns. ns ++ x ∷ y ∷ []) moved.nodes_front
          ∙ sym (pairs_more names before.rows.items before.links.nodes.items done row x y old_row old_one old_two ∙ ap (λ b. kept_pairs names (take done before.rows.items) before.links.nodes.items ++ (if b then x ∷ y ∷ [] else [])) stay)));
      rows_back = ap (λ rs. drop (done + 1) rs) rows ∙ (drop-set-lt (done + 1) now.rows.items kept row (omega (arith, few)) ∙ same_end now.rows.items before.rows.items done moved.rows_back);
      flags_back = ap (λ fs. drop (done + 1) fs) flags ∙ (drop-set-lt (done + 1) now.noted.flags.items kept flag (omega (arith, few)) ∙ same_end now.noted.flags.items before.noted.flags.items done moved.flags_back);
      nodes_back = ap (λ ns. drop (2 * (done + 1)) ns) nodes ∙ (drop_pair now.links.nodes.items (2 * (done + 1)) kept x y (omega (arith, few)) ∙ pair_end now.links.nodes.items before.links.nodes.items done moved.nodes_back);
    }

-- a row that leaves stands where it stood
left_row : (names : List Name) (before now : Table) (done kept : ℕ) (row : Row) (flag : Bool) (x y : Node) → AreMoved names before now done kept →
    slice_get now.rows.items done ≡ Some row → slice_get now.noted.flags.items done ≡ Some flag → slice_get now.links.nodes.items (2 * done) ≡ Some x →
    slice_get now.links.nodes.items (2 * done + 1) ≡ Some y → stays names row ≡ false → AreMoved names before now (done + 1) kept
left_row names before now done kept row flag x y moved is_row is_flag is_one is_two leaves =
    let few = moved.few in
    let old_row : slice_get before.rows.items done ≡ Some row = sym (same_now now.rows.items before.rows.items done moved.rows_back) ∙ is_row in
    let old_flag : slice_get before.noted.flags.items done ≡ Some flag = sym (same_now now.noted.flags.items before.noted.flags.items done moved.flags_back) ∙ is_flag in
    let old_one : slice_get before.links.nodes.items (2 * done) ≡ Some x = sym (same_now now.links.nodes.items before.links.nodes.items (2 * done) moved.nodes_back) ∙ is_one in
    let old_two : slice_get before.links.nodes.items (2 * done + 1) ≡ Some y = sym (same_now now.links.nodes.items before.links.nodes.items (2 * done + 1) (same_end now.links.nodes.items before.links.nodes.items (2 * done) moved.nodes_back)) ∙ is_two in
    record {
      few = omega (arith, few);
      rows_long = moved.rows_long;
      flags_long = moved.flags_long;
      nodes_long = moved.nodes_long;
      rows_front = moved.rows_front
          ∙ sym (rows_more names before.rows.items done row old_row
          ∙ (ap (λ b. kept_rows names (take done before.rows.items) ++ (if b then row ∷ [] else [])) leaves ∙ append-nil (kept_rows names (take done before.rows.items))));
      flags_front = moved.flags_front
          ∙ sym (items_more names before.rows.items before.noted.flags.items done row flag old_row old_flag
          ∙ (ap (λ b. kept_items names (take done before.rows.items) before.noted.flags.items ++ (if b then flag ∷ [] else [])) leaves ∙ append-nil (kept_items names (take done before.rows.items) before.noted.flags.items)));
      nodes_front = moved.nodes_front
          ∙ sym (pairs_more names before.rows.items before.links.nodes.items done row x y old_row old_one old_two
          ∙ (ap (λ b. kept_pairs names (take done before.rows.items) before.links.nodes.items ++ (if b then x ∷ y ∷ [] else [])) leaves ∙ append-nil (kept_pairs names (take done before.rows.items) before.links.nodes.items)));
      rows_back = same_end now.rows.items before.rows.items done moved.rows_back;
      flags_back = same_end now.noted.flags.items before.noted.flags.items done moved.flags_back;
      nodes_back = pair_end now.links.nodes.items before.links.nodes.items done moved.nodes_back;
    }

read : {X : Type 0} (xs : List X) (i : ℕ) → i < length xs → (x : X) × (slice_get xs i ≡ Some x)
read [] i inside = absurd (omega (arith, inside))
read (first ∷ later) zero inside = (first, refl)
read (first ∷ later) (suc i) inside = read later i (omega (arith, inside))

-- a flag and two nodes stand beside each row that isn't done
rest_long : (names : List Name) (before now : Table) (done kept : ℕ) → AreSized before → AreMoved names before now done kept → done < length now.rows.items →
    (done < length now.noted.flags.items) × (2 * done + 1 < length now.links.nodes.items)
rest_long names before now done kept sized moved inside =
    (omega (arith, inside, sized.flags, moved.rows_long, moved.flags_long), omega (arith, inside, sized.nodes, moved.rows_long, moved.nodes_long))

-- the row is moved
pub step_moved : (names : List Name) (before now after : Table) (done kept : ℕ) (row : Row) → AreSized before → AreMoved names before now done kept → slice_get now.rows.items done ≡ Some row →
    stays names row ≡ true → ((r : Row) → slice_get now.rows.items done ≡ Some r → after.rows.items ≡ set now.rows.items kept r) →
    ((flag : Bool) → slice_get now.noted.flags.items done ≡ Some flag → after.noted.flags.items ≡ set now.noted.flags.items kept flag) →
    ((x y : Node) → slice_get now.links.nodes.items (2 * done) ≡ Some x → slice_get now.links.nodes.items (2 * done + 1) ≡ Some y →
    after.links.nodes.items ≡ set (set now.links.nodes.items (2 * kept) x) (2 * kept + 1) y) → AreMoved names before after (done + 1) (kept + 1)
step_moved names before now after done kept row sized moved is_row stay rows flags nodes =
    let long = rest_long names before now done kept sized moved (slice_get_within now.rows.items done row is_row) in
    let flag = read now.noted.flags.items done long.0 in
    let x = read now.links.nodes.items (2 * done) (omega (arith, long.1)) in
    let y = read now.links.nodes.items (2 * done + 1) long.1 in
    moved_row names before now after done kept row flag.0 x.0 y.0 moved is_row flag.1 x.1 y.1 stay (rows row is_row) (flags flag.0 flag.1) (nodes x.0 y.0 x.1 y.1)

-- the row is left
pub step_left : (names : List Name) (before now : Table) (done kept : ℕ) (row : Row) → AreSized before → AreMoved names before now done kept → slice_get now.rows.items done ≡ Some row →
    stays names row ≡ false → AreMoved names before now (done + 1) kept
step_left names before now done kept row sized moved is_row leaves =
    let long = rest_long names before now done kept sized moved (slice_get_within now.rows.items done row is_row) in
    let flag = read now.noted.flags.items done long.0 in
    let x = read now.links.nodes.items (2 * done) (omega (arith, long.1)) in
    let y = read now.links.nodes.items (2 * done + 1) long.1 in
    left_row names before now done kept row flag.0 x.0 y.0 moved is_row flag.1 x.1 y.1 leaves

-- the same room as that of what was the same
pub room_trans : (a b c : Table) → IsRoomKept a b → IsRoomKept b c → IsRoomKept a c
room_trans a b c first second = record {
  heads = second.heads ∙ first.heads;
  rows_room = second.rows_room ∙ first.rows_room;
  nodes_room = second.nodes_room ∙ first.nodes_room;
  notes_room = second.notes_room ∙ first.notes_room;
  flags_room = second.flags_room ∙ first.flags_room;
}
