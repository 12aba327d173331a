-- A walk over the list of a literal that has become false: how it begins, goes on and ends.
use Rattle.std.proofs.Common.{◌≡◌, ◌≢◌, ◌⊎◌, ℕ, ◌+◌, ◌-◌, ◌*◌, ◌/◌, ◌%◌, ◌<◌, ◌≤◌, ◌==◌, Bool, true, false, List, [], ◌∷◌, length, set, refl, inl, inr, ap, sym, ◌∙◌, subst, arith}
use Rattle.std.specs.Prelude.{Some, slice_get, if◌then◌else◌}
use Rattle.std.proofs.lemmas.Bool.{cases_eq, cases_lt, eqb-true, eqb-false, ne_eqb, eq-eqb}
use Rattle.std.proofs.lemmas.List.{length-set, length-map, get_or_past, nil_from_length}
use Rattle.std.proofs.lemmas.Option.{same_Some}
use Rattle.lit_base.specs.Literal.{Literal, same}
use Rattle.lit_base.specs.Trail.{is_false}
use Rattle.lit_base.specs.Rounds.{NamedClause}
use Rattle.lit_base.specs.declared.trail.Entry.{Entry}
use Rattle.lit_base.specs.declared.name.Name.{Name}
use Rattle.lit_base.proofs.Known.{same_itself}
use Rattle.trail_book.specs.Arrays.{index_of}
use Rattle.round_prop.specs.declared.node.Node.{Node}
use Rattle.round_prop.specs.declared.note.Note.{Note}
use Rattle.round_prop.specs.Chains.{no_node, nexts_of, lits_of, list_at, times_in, times, onto, last_of, in_place, AreLists, AreThreaded}
use Rattle.round_prop.specs.Linked.{IsGuarded, IsLinked, IsWaiting, IsPending, IsStep, AreFalseWith}
use Rattle.round_prop.specs.Noting.{IsNoted}
use Rattle.round_prop.specs.Readied.{flip, IsRow, AreRows}
use Rattle.round_prop.specs.Walking.{IsInList, IsWalkOf}
use Rattle.round_prop.proofs.ChainSteps.{times-set, total-set, times_one, times_two, list_at-set, first_once}
use Rattle.round_prop.proofs.InPlace.{times_in-onto, in_place-zero, in_place-own, in_place-other, in_place-total, is_in_place}
use Rattle.round_prop.proofs.LinkSteps.{not_both, pair_swap, guarded_swap, linked_swap, only_own}
use Rattle.round_prop.proofs.NoteSteps.{slice_get-set}

-- indexes of literals
pub index_apart : (a b : Literal) → index_of a ≡ index_of b → a ≡ b
index_apart a b is = by_signs a.positive b.positive refl refl
  where
    joined : (v w : ℕ) (p q : Bool) → v ≡ w → p ≡ q → (let k : Literal = record { variable = v; positive = p } in k) ≡ record { variable = w; positive = q }
    joined v w p q one two = cc

    number : (v : ℕ) (p : Bool) → ℕ
    number v p = 2 * v + (if p then 0 else 1)

    by_signs : (p q : Bool) → a.positive ≡ p → b.positive ≡ q → a ≡ b
    by_signs true true one two =
        let e : number a.variable true ≡ number b.variable true = sym (ap (λ s. number a.variable s) one) ∙ (is ∙ ap (λ s. number b.variable s) two) in
        joined a.variable b.variable a.positive b.positive (omega (arith, e)) (one ∙ sym two)
    by_signs false false one two =
        let e : number a.variable false ≡ number b.variable false = sym (ap (λ s. number a.variable s) one) ∙ (is ∙ ap (λ s. number b.variable s) two) in
        joined a.variable b.variable a.positive b.positive (omega (arith, e)) (one ∙ sym two)
    by_signs true false one two =
        let e : number a.variable true ≡ number b.variable false = sym (ap (λ s. number a.variable s) one) ∙ (is ∙ ap (λ s. number b.variable s) two) in
        absurd (omega (arith, e))
    by_signs false true one two =
        let e : number a.variable false ≡ number b.variable true = sym (ap (λ s. number a.variable s) one) ∙ (is ∙ ap (λ s. number b.variable s) two) in
        absurd (omega (arith, e))

-- the two nodes of a row
pub flip_flip : (n : ℕ) → flip (flip n) ≡ n
flip_flip n = by_test (n % 2 == 0) refl
  where
    by_test : (b : Bool) → (n % 2 == 0) ≡ b → flip (flip n) ≡ n
    by_test true even =
        let e : n % 2 ≡ 0 = eqb-true (n % 2) 0 even in
        let here : flip n ≡ n + 1 = ap (λ b. if b then n + 1 else n - 1) even in
        let odd : ((n + 1) % 2 == 0) ≡ false = ne_eqb ((n + 1) % 2) 0 (λ z. absurd (omega (arith, z, e))) in
        let there : flip (n + 1) ≡ n + 1 - 1 = ap (λ b. if b then n + 1 + 1 else n + 1 - 1) odd in
        ap flip here ∙ (there ∙ omega arith)
    by_test false odd =
        let e : n % 2 ≡ 0 → ⊥ = eqb-false (n % 2) 0 odd in
        let some : 1 ≤ n = at_least n (cases_eq n 0) e in
        let here : flip n ≡ n - 1 = ap (λ b. if b then n + 1 else n - 1) odd in
        let even : ((n - 1) % 2 == 0) ≡ true = eq-eqb ((n - 1) % 2) 0 (one_less n e some) in
        let there : flip (n - 1) ≡ n - 1 + 1 = ap (λ b. if b then n - 1 + 1 else n - 1 - 1) even in
        ap flip here ∙ (there ∙ omega (arith, some))
      where
        at_least : (n : ℕ) → (n ≡ 0) ⊎ (n ≢ 0) → (n % 2 ≡ 0 → ⊥) → 1 ≤ n
        at_least n (inl z) odd = absurd (odd (ap (λ m. m % 2) z))
        at_least n (inr some) odd = omega (arith, some)

        one_less : (n : ℕ) → (n % 2 ≡ 0 → ⊥) → 1 ≤ n → (n - 1) % 2 ≡ 0
        one_less n odd some = grind arith

pub flip_half : (n : ℕ) → flip n / 2 ≡ n / 2
flip_half n = by_test (n % 2 == 0) refl
  where
    by_test : (b : Bool) → (n % 2 == 0) ≡ b → flip n / 2 ≡ n / 2
    by_test true even =
        let e : n % 2 ≡ 0 = eqb-true (n % 2) 0 even in
        let here : flip n ≡ n + 1 = ap (λ b. if b then n + 1 else n - 1) even in
        ap (λ m. m / 2) here ∙ omega (arith, e)
    by_test false odd =
        let e : n % 2 ≡ 0 → ⊥ = eqb-false (n % 2) 0 odd in
        let here : flip n ≡ n - 1 = ap (λ b. if b then n + 1 else n - 1) odd in
        ap (λ m. m / 2) here ∙ half n e
      where
        half : (n : ℕ) → (n % 2 ≡ 0 → ⊥) → (n - 1) / 2 ≡ n / 2
        half n odd = grind arith

pub flip_other : (n : ℕ) → flip n ≢ n
flip_other n is = by_test (n % 2 == 0) refl
  where
    by_test : (b : Bool) → (n % 2 == 0) ≡ b → ⊥
    by_test true even = let here : flip n ≡ n + 1 = ap (λ b. if b then n + 1 else n - 1) even in absurd (omega (arith, here, is))
    by_test false odd =
        let e : n % 2 ≡ 0 → ⊥ = eqb-false (n % 2) 0 odd in
        let here : flip n ≡ n - 1 = ap (λ b. if b then n + 1 else n - 1) odd in
        let zero_is : n ≡ 0 = omega (arith, here, is) in absurd (e (ap (λ m. m % 2) zero_is))

pub flip_within : (n rows : ℕ) → n < 2 * rows → flip n < 2 * rows
flip_within n rows inside = by_test (n % 2 == 0) refl
  where
    by_test : (b : Bool) → (n % 2 == 0) ≡ b → flip n < 2 * rows
    by_test true even =
        let e : n % 2 ≡ 0 = eqb-true (n % 2) 0 even in
        let here : flip n ≡ n + 1 = ap (λ b. if b then n + 1 else n - 1) even in
        omega (arith, here, e, inside)
    by_test false odd = let here : flip n ≡ n - 1 = ap (λ b. if b then n + 1 else n - 1) odd in omega (arith, here, inside)

-- rows
pub pending_swap : (trail done : List Entry) (lits : List Literal) (a b : Literal) → IsPending trail done lits a b → IsPending trail done lits b a
pending_swap trail done lits a b (inl one) = inr one
pending_swap trail done lits a b (inr two) = inl two

pub row_swap : (clauses : List NamedClause) (trail done : List Entry) (notes : List Note) (name : Name) (a b : Literal) → IsRow clauses trail done notes name a b → IsRow clauses trail done notes name b a
row_swap clauses trail done notes name a b row = record { lits = row.lits; found = row.found; pair = pair_swap row.lits a b row.pair; met = by_case row.met }
  where
    by_case : (IsLinked trail row.lits a b × (IsGuarded trail a b ⊎ IsNoted notes name)) ⊎ IsPending trail done row.lits a b →
        (IsLinked trail row.lits b a × (IsGuarded trail b a ⊎ IsNoted notes name)) ⊎ IsPending trail done row.lits b a
    by_case (inl (linked, inl guarded)) = inl (linked_swap trail row.lits a b linked, inl (guarded_swap trail a b guarded))
    by_case (inl (linked, inr noted)) = inl (linked_swap trail row.lits a b linked, inr noted)
    by_case (inr pending) = inr (pending_swap trail done row.lits a b pending)

pub row_notes : (clauses : List NamedClause) (trail done : List Entry) (notes more : List Note) (name : Name) (a b : Literal) → (IsNoted notes name → IsNoted more name) → IsRow clauses trail done notes name a b → IsRow clauses trail done more name a b
row_notes clauses trail done notes more name a b kept row = record { lits = row.lits; found = row.found; pair = row.pair; met = by_case row.met }
  where
    by_case : (IsLinked trail row.lits a b × (IsGuarded trail a b ⊎ IsNoted notes name)) ⊎ IsPending trail done row.lits a b →
        (IsLinked trail row.lits a b × (IsGuarded trail a b ⊎ IsNoted more name)) ⊎ IsPending trail done row.lits a b
    by_case (inl (linked, inl guarded)) = inl (linked, inl guarded)
    by_case (inl (linked, inr noted)) = inl (linked, inr (kept noted))
    by_case (inr pending) = inr pending

-- a row that the entry doesn't concern
pub row_passed : (clauses : List NamedClause) (trail done next : List Entry) (l : Literal) (notes : List Note) (name : Name) (a b : Literal) → IsStep trail done next l → a ≢ l → b ≢ l →
    IsRow clauses trail done notes name a b → IsRow clauses trail next notes name a b
row_passed clauses trail done next l notes name a b step not_a not_b row = record { lits = row.lits; found = row.found; pair = row.pair; met = by_case row.met }
  where
    still : (x : Literal) → x ≢ l → is_false done x ≡ false → is_false next x ≡ false
    still x apart lives = by_test (is_false next x) refl
      where
        by_step : (is_false done x ≡ true) ⊎ (x ≡ l) → ⊥
        by_step (inl lost) = not_both (is_false done x) lost lives
        by_step (inr is) = apart is

        by_test : (s : Bool) → is_false next x ≡ s → s ≡ false
        by_test true now = absurd (by_step (only_own trail done next l step x now))
        by_test false now = refl

    waiting : (x y : Literal) → x ≢ l → y ≢ l → IsWaiting trail done row.lits x y → IsWaiting trail next row.lits x y
    waiting x y not_x not_y one = record { late = record { now = one.late.now; before = still x not_x one.late.before }; other = by_other one.other }
      where
        by_other : (is_false done y ≡ false) ⊎ AreFalseWith trail row.lits x y y → (is_false next y ≡ false) ⊎ AreFalseWith trail row.lits x y y
        by_other (inl lives) = inl (still y not_y lives)
        by_other (inr others) = inr others

    by_case : (IsLinked trail row.lits a b × (IsGuarded trail a b ⊎ IsNoted notes name)) ⊎ IsPending trail done row.lits a b →
        (IsLinked trail row.lits a b × (IsGuarded trail a b ⊎ IsNoted notes name)) ⊎ IsPending trail next row.lits a b
    by_case (inl linked) = inl linked
    by_case (inr (inl one)) = inr (inl (waiting a b not_a not_b one))
    by_case (inr (inr two)) = inr (inr (waiting b a not_b not_a two))

literal_cases : (a l : Literal) → (a ≡ l) ⊎ (a ≢ l)
literal_cases a l = by_case (cases_eq (index_of a) (index_of l))
  where
    by_case : (index_of a ≡ index_of l) ⊎ (index_of a ≢ index_of l) → (a ≡ l) ⊎ (a ≢ l)
    by_case (inl is) = inl (index_apart a l is)
    by_case (inr apart) = inr (λ is. apart (ap index_of is))

-- a walk begins
pub walk_begins : (clauses : List NamedClause) (trail done next : List Entry) (l : Literal) (left steps most : ℕ) (heads : List ℕ) (nodes : List Node) (names : List Name) (notes : List Note) →
    IsStep trail done next l → length nodes ≡ 2 * length names → (threaded : AreThreaded heads nodes) → AreRows clauses trail done notes names (lits_of nodes) →
    1 ≤ index_of l → index_of l < length heads → length (list_at threaded.lists (index_of l)) ≤ left → steps + length (list_at threaded.lists (index_of l)) ≤ most →
    IsWalkOf clauses trail done next l left steps most no_node heads nodes names notes
walk_begins clauses trail done next l left steps most heads nodes names notes step sized threaded rows real inside few cheap = record {
  sized = sized;
  begun = threaded.begun;
  lists = threaded.lists;
  long = threaded.are.long;
  once = threaded.are.once;
  are = subst (λ lists. AreLists heads (nexts_of nodes) lists) begun_in_place threaded.are;
  stays = ap last_of (sym threaded.stage);
  placed = λ n a is. inl (threaded.placed n a is);
  real = λ n a is. some_index n a is (cases_eq (index_of a) 0);
  all = threaded.all;
  unmet = λ n name b named own other inside. rows n name l b named own other;
  rows = λ n name a b named own other. by_cases n name a b named own other (literal_cases a l) (literal_cases b l);
  few = few;
  cheap = cheap;
}
  where
    begun_in_place : threaded.lists ≡ in_place (index_of l) threaded.lists
    begun_in_place =
        is_in_place (index_of l) threaded.lists real (omega (arith, inside, threaded.are.long)) threaded.lists refl threaded.stage
        (sym (ap (λ met. onto met (list_at threaded.lists (index_of l))) threaded.stage)) (λ r some other. refl)

    some_index : (n : ℕ) (a : Literal) → slice_get (lits_of nodes) n ≡ Some a → (index_of a ≡ 0) ⊎ (index_of a ≢ 0) → 1 ≤ index_of a
    some_index n a is (inl z) =
        let one = threaded.placed n a is in let none : times_in n (list_at threaded.lists (index_of a)) ≡ 0 = ap (λ r. times_in n (list_at threaded.lists r)) z ∙ ap (λ ns. times_in n ns) threaded.stage in
        absurd (omega (arith, one, none))
    some_index n a is (inr some) = omega (arith, some)

    by_cases : (n : ℕ) (name : Name) (a b : Literal) → slice_get names (n / 2) ≡ Some name → slice_get (lits_of nodes) n ≡ Some a → slice_get (lits_of nodes) (flip n) ≡ Some b → (a ≡ l) ⊎ (a ≢ l) → (b ≡ l) ⊎ (b ≢ l) →
        IsRow clauses trail next notes name a b ⊎ (((a ≡ l) × IsInList threaded.lists l n) ⊎ ((b ≡ l) × IsInList threaded.lists l (flip n)))
    by_cases n name a b named own other (inl is) second = inr (inl (is, subst (λ k. IsInList threaded.lists k n) is (threaded.placed n a own)))
    by_cases n name a b named own other (inr not_a) (inl is) = inr (inr (is, subst (λ k. IsInList threaded.lists k (flip n)) is (threaded.placed (flip n) b other)))
    by_cases n name a b named own other (inr not_a) (inr not_b) = inl (row_passed clauses trail done next l notes name a b step not_a not_b (rows n name a b named own other))

-- the literal of a node that is in the list
pub node_own : (clauses : List NamedClause) (trail done next : List Entry) (l : Literal) (left steps most last : ℕ) (heads : List ℕ) (nodes : List Node) (names : List Name) (notes : List Note) →
    (walk : IsWalkOf clauses trail done next l left steps most last heads nodes names notes) (n : ℕ) (a : Literal) → 1 ≤ times_in n (list_at walk.lists (index_of l)) → slice_get (lits_of nodes) n ≡ Some a → a ≡ l
node_own clauses trail done next l left steps most last heads nodes names notes walk n a inside is = by_case (walk.placed n a is)
  where
    by_index : times_in n (list_at walk.lists (index_of a)) ≡ 1 → (index_of a ≡ index_of l) ⊎ (index_of a ≢ index_of l) → a ≡ l
    by_index one (inl same_index) = index_apart a l same_index
    by_index one (inr apart) = absurd (omega (arith, one, inside, times_two n walk.lists (index_of a) (index_of l) apart, walk.once n))

    by_case : IsInList walk.lists a n ⊎ ((a ≡ l) × (times_in n (list_at walk.lists 0) ≡ 1)) → a ≡ l
    by_case (inl one) = by_index one (cases_eq (index_of a) (index_of l))
    by_case (inr (own, one)) = own

-- a walk goes on: the first node of the list is taken, and put where its new link says
module _ (clauses : List NamedClause) (trail done next : List Entry) (l : Literal) (left steps most last : ℕ) (heads : List ℕ) (nodes : List Node) (names : List Name) (notes : List Note)
    (walk : IsWalkOf clauses trail done next l (left + 1) steps most last heads nodes names notes) (n : ℕ) (later : List ℕ) (first : list_at walk.lists (index_of l) ≡ n ∷ later) where
  abbrev pub p : ℕ
  p = index_of l

  once_first : times_in n (list_at walk.lists p) ≡ 1 + times_in n later
  once_first = ap (λ ns. times_in n ns) first ∙ first_once n later

  none_later : times_in n later ≡ 0
  none_later = omega (arith, once_first, times_one n walk.lists p, walk.once n)

  pub in_list : IsInList walk.lists l n
  in_list = omega (arith, once_first, none_later)

  p_inside : p < length walk.lists
  p_inside = by_case (cases_lt p (length walk.lists))
    where
      by_case : (p < length walk.lists) ⊎ (length walk.lists ≤ p) → p < length walk.lists
      by_case (inl less) = less
      by_case (inr past) = absurd (never (sym (get_or_past walk.lists p [] past) ∙ first))
        where
          never : [] ≡ n ∷ later → ⊥
          never is = cc

  abbrev pub popped : List (List ℕ)
  popped = set walk.lists p later

  -- it is in no list now
  pub out_of_lists : times n popped ≡ 0
  out_of_lists = omega (arith, times-set n walk.lists p later p_inside, once_first, none_later, walk.once n, times_one n walk.lists p)

  module _ (q : ℕ) (real : 1 ≤ index_of l) (m b : Literal) (real_m : 1 ≤ index_of m) (name : Name) (after-heads : List ℕ) (after-nodes : List Node) (after-notes : List Note) (now after : ℕ)
      (named : slice_get names (n / 2) ≡ Some name) (own : slice_get (lits_of nodes) n ≡ Some l) (other : slice_get (lits_of nodes) (flip n) ≡ Some b)
      (queue : ((m ≡ l) × (q ≡ 0)) ⊎ ((m ≢ l) × (q ≡ index_of m))) (q_inside : q < length walk.lists)
      (lits : lits_of after-nodes ≡ set (lits_of nodes) n m) (heads_len : length after-heads ≡ length heads)
      (are : AreLists after-heads (nexts_of after-nodes) (in_place (index_of l) (set popped q (n ∷ list_at popped q)))) (stays : after ≡ last_of (list_at (set popped q (n ∷ list_at popped q)) 0))
      (kept : (k : Name) → IsNoted notes k → IsNoted after-notes k) (row : IsRow clauses trail next after-notes name m b) (paid : now ≤ steps + 1) where
    abbrev pub pushed : List (List ℕ)
    pushed = set popped q (n ∷ list_at popped q)

    q_in_popped : q < length popped
    q_in_popped = omega (arith, q_inside, length-set walk.lists p later)

    q_other : q ≢ p
    q_other is = by_case queue
      where
        by_case : ((m ≡ l) × (q ≡ 0)) ⊎ ((m ≢ l) × (q ≡ index_of m)) → ⊥
        by_case (inl (same_lit, z)) = absurd (no_zero (sym is ∙ z))
          where
            no_zero : index_of l ≡ 0 → ⊥
            no_zero e = absurd (omega (arith, e, real))
        by_case (inr (apart, i)) = apart (index_apart m l (sym i ∙ is))

    -- another node is where it was
    others_stay : (k r : ℕ) → k ≢ n → times_in k (list_at pushed r) ≡ times_in k (list_at walk.lists r)
    others_stay k r apart = by_cases (list_at-set popped q r (n ∷ list_at popped q) q_in_popped) (list_at-set walk.lists p r later p_inside) (list_at-set walk.lists p q later p_inside)
      where
        skip : (ns : List ℕ) → times_in k (n ∷ ns) ≡ times_in k ns
        skip ns = let e : times_in k (n ∷ ns) ≡ 0 + times_in k ns = ap (λ s. (if s then 1 else 0) + times_in k ns) (ne_eqb n k (λ is. apart (sym is))) in omega (arith, e)

        by_cases : ((r ≡ q) × (list_at pushed r ≡ n ∷ list_at popped q)) ⊎ ((r ≢ q) × (list_at pushed r ≡ list_at popped r)) →
            ((r ≡ p) × (list_at popped r ≡ later)) ⊎ ((r ≢ p) × (list_at popped r ≡ list_at walk.lists r)) →
            ((q ≡ p) × (list_at popped q ≡ later)) ⊎ ((q ≢ p) × (list_at popped q ≡ list_at walk.lists q)) → times_in k (list_at pushed r) ≡ times_in k (list_at walk.lists r)
        by_cases (inl (is, here)) second (inl (wrong, _)) = absurd (q_other wrong)
        by_cases (inl (is, here)) second (inr (_, old)) = ap (λ ns. times_in k ns) here ∙ (skip (list_at popped q) ∙ (ap (λ ns. times_in k ns) old ∙ ap (λ s. times_in k (list_at walk.lists s)) (sym is)))
        by_cases (inr (_, here)) (inl (is, gone)) third = ap (λ ns. times_in k ns) (here ∙ gone) ∙ (sym (skip later) ∙ (ap (λ ns. times_in k ns) (sym first) ∙ ap (λ s. times_in k (list_at walk.lists s)) (sym is)))
        by_cases (inr (_, here)) (inr (_, old)) third = ap (λ ns. times_in k ns) (here ∙ old)

    here_once : times_in n (list_at pushed q) ≡ 1
    here_once = by_case (list_at-set popped q q (n ∷ list_at popped q) q_in_popped)
      where
        by_case : ((q ≡ q) × (list_at pushed q ≡ n ∷ list_at popped q)) ⊎ ((q ≢ q) × (list_at pushed q ≡ list_at popped q)) → times_in n (list_at pushed q) ≡ 1
        by_case (inl (_, here)) = let e = ap (λ ns. times_in n ns) here ∙ first_once n (list_at popped q) in omega (arith, e, times_one n popped q, out_of_lists)
        by_case (inr (wrong, _)) = absurd (wrong refl)

    -- what is read behind the write
    lit_cases : (k : ℕ) (a : Literal) → slice_get (lits_of after-nodes) k ≡ Some a → ((k ≡ n) × (a ≡ m)) ⊎ ((k ≢ n) × (slice_get (lits_of nodes) k ≡ Some a))
    lit_cases k a is = slice_get-set (lits_of nodes) n k m a (subst (λ ls. slice_get ls k ≡ Some a) lits is)

    left_list : list_at pushed p ≡ later
    left_list = by_cases (list_at-set popped q p (n ∷ list_at popped q) q_in_popped) (list_at-set walk.lists p p later p_inside)
      where
        by_cases : ((p ≡ q) × (list_at pushed p ≡ n ∷ list_at popped q)) ⊎ ((p ≢ q) × (list_at pushed p ≡ list_at popped p)) →
            ((p ≡ p) × (list_at popped p ≡ later)) ⊎ ((p ≢ p) × (list_at popped p ≡ list_at walk.lists p)) → list_at pushed p ≡ later
        by_cases (inl (wrong, _)) second = absurd (q_other (sym wrong))
        by_cases (inr (_, same_list)) (inl (_, here)) = same_list ∙ here
        by_cases (inr (_, same_list)) (inr (wrong, _)) = absurd (wrong refl)

    placed_after : (k : ℕ) (a : Literal) → slice_get (lits_of after-nodes) k ≡ Some a → IsInList pushed a k ⊎ ((a ≡ l) × (times_in k (list_at pushed 0) ≡ 1))
    placed_after k a is = by_case (lit_cases k a is)
      where
        by_queue : k ≡ n → a ≡ m → ((m ≡ l) × (q ≡ 0)) ⊎ ((m ≢ l) × (q ≡ index_of m)) → IsInList pushed a k ⊎ ((a ≡ l) × (times_in k (list_at pushed 0) ≡ 1))
        by_queue at new (inl (stays, z)) = inr (new ∙ stays, subst (λ j. times_in j (list_at pushed 0) ≡ 1) (sym at) (subst (λ r. times_in n (list_at pushed r) ≡ 1) z here_once))
        by_queue at new (inr (_, i)) = inl (subst (λ j. times_in j (list_at pushed (index_of a)) ≡ 1) (sym at) (subst (λ r. times_in n (list_at pushed r) ≡ 1) (i ∙ ap index_of (sym new)) here_once))

        by_old : k ≢ n → IsInList walk.lists a k ⊎ ((a ≡ l) × (times_in k (list_at walk.lists 0) ≡ 1)) → IsInList pushed a k ⊎ ((a ≡ l) × (times_in k (list_at pushed 0) ≡ 1))
        by_old apart (inl one) = inl (others_stay k (index_of a) apart ∙ one)
        by_old apart (inr (own_lit, one)) = inr (own_lit, others_stay k 0 apart ∙ one)

        by_case : ((k ≡ n) × (a ≡ m)) ⊎ ((k ≢ n) × (slice_get (lits_of nodes) k ≡ Some a)) → IsInList pushed a k ⊎ ((a ≡ l) × (times_in k (list_at pushed 0) ≡ 1))
        by_case (inl (at, new)) = by_queue at new queue
        by_case (inr (apart, old)) = by_old apart (walk.placed k a old)

    not_in_list : IsInList pushed l n → ⊥
    not_in_list one = absurd (omega (arith, one, e, none_later))
      where
        e : times_in n (list_at pushed p) ≡ times_in n later
        e = ap (λ ns. times_in n ns) left_list

    flip_apart : (k : ℕ) → flip k ≡ n → k ≡ flip n
    flip_apart k is = sym (flip_flip k) ∙ ap flip is

    pair_apart : (x : Name) → IsRow clauses trail done notes x l l → ⊥
    pair_apart x bad = not_both (same l l) (same_itself l) bad.pair.apart

    unmet_after : (k : ℕ) (x : Name) (c : Literal) → slice_get names (k / 2) ≡ Some x → slice_get (lits_of after-nodes) k ≡ Some l → slice_get (lits_of after-nodes) (flip k) ≡ Some c → IsInList pushed l k → IsRow clauses trail done after-notes x l c
    unmet_after k x c at here there inside = by_case (lit_cases k l here)
      where
        by_flip : k ≢ n → slice_get (lits_of nodes) k ≡ Some l → ((flip k ≡ n) × (c ≡ m)) ⊎ ((flip k ≢ n) × (slice_get (lits_of nodes) (flip k) ≡ Some c)) → IsRow clauses trail done after-notes x l c
        by_flip apart old (inl (is, _)) =
            absurd (pair_apart x (walk.unmet k x l at old (subst (λ j. slice_get (lits_of nodes) j ≡ Some l) (sym is) own) (sym (others_stay k p apart) ∙ inside)))
        by_flip apart old (inr (_, old_too)) = row_notes clauses trail done notes after-notes x l c (kept x) (walk.unmet k x c at old old_too (sym (others_stay k p apart) ∙ inside))

        by_case : ((k ≡ n) × (l ≡ m)) ⊎ ((k ≢ n) × (slice_get (lits_of nodes) k ≡ Some l)) → IsRow clauses trail done after-notes x l c
        by_case (inl (is, _)) = absurd (not_in_list (subst (λ j. IsInList pushed l j) is inside))
        by_case (inr (apart, old)) = by_flip apart old (lit_cases (flip k) c there)

    rows_after : (k : ℕ) (x : Name) (a c : Literal) → slice_get names (k / 2) ≡ Some x → slice_get (lits_of after-nodes) k ≡ Some a → slice_get (lits_of after-nodes) (flip k) ≡ Some c →
        IsRow clauses trail next after-notes x a c ⊎ (((a ≡ l) × IsInList pushed l k) ⊎ ((c ≡ l) × IsInList pushed l (flip k)))
    rows_after k x a c at here there = by_cases (lit_cases k a here) (lit_cases (flip k) c there)
      where
        name_at : k / 2 ≡ n / 2 → x ≡ name
        name_at half = same_Some x name (sym at ∙ (ap (λ j. slice_get names j) half ∙ named))

        this_row : k ≡ n → a ≡ m → slice_get (lits_of nodes) (flip k) ≡ Some c → IsRow clauses trail next after-notes x a c ⊎ (((a ≡ l) × IsInList pushed l k) ⊎ ((c ≡ l) × IsInList pushed l (flip k)))
        this_row is new old =
            let same_b : c ≡ b = same_Some c b (sym old ∙ (ap (λ j. slice_get (lits_of nodes) (flip j)) is ∙ other)) in
            let same_x : x ≡ name = name_at (ap (λ j. j / 2) is) in
            inl (subst (λ z. IsRow clauses trail next after-notes z a c) (sym same_x) (subst (λ z. IsRow clauses trail next after-notes name z c) (sym new) (subst (λ z. IsRow clauses trail next after-notes name m z) (sym same_b) row)))

        that_row : flip k ≡ n → c ≡ m → slice_get (lits_of nodes) k ≡ Some a → IsRow clauses trail next after-notes x a c ⊎ (((a ≡ l) × IsInList pushed l k) ⊎ ((c ≡ l) × IsInList pushed l (flip k)))
        that_row is new old =
            let same_b : a ≡ b = same_Some a b (sym old ∙ (ap (λ j. slice_get (lits_of nodes) j) (flip_apart k is) ∙ other)) in
            let same_x : x ≡ name = name_at (sym (flip_half k) ∙ ap (λ j. j / 2) is) in
            let swapped = row_swap clauses trail next after-notes name m b row in
            inl (subst (λ z. IsRow clauses trail next after-notes z a c) (sym same_x) (subst (λ z. IsRow clauses trail next after-notes name z c) (sym same_b) (subst (λ z. IsRow clauses trail next after-notes name b z) (sym new) swapped)))

        by_old : k ≢ n → flip k ≢ n → IsRow clauses trail next notes x a c ⊎ (((a ≡ l) × IsInList walk.lists l k) ⊎ ((c ≡ l) × IsInList walk.lists l (flip k))) → IsRow clauses trail next after-notes x a c ⊎ (((a ≡ l) × IsInList pushed l k) ⊎ ((c ≡ l) × IsInList pushed l (flip k)))
        by_old apart too (inl right) = inl (row_notes clauses trail next notes after-notes x a c (kept x) right)
        by_old apart too (inr (inl (is, one))) = inr (inl (is, others_stay k p apart ∙ one))
        by_old apart too (inr (inr (is, one))) = inr (inr (is, others_stay (flip k) p too ∙ one))

        by_cases : ((k ≡ n) × (a ≡ m)) ⊎ ((k ≢ n) × (slice_get (lits_of nodes) k ≡ Some a)) → ((flip k ≡ n) × (c ≡ m)) ⊎ ((flip k ≢ n) × (slice_get (lits_of nodes) (flip k) ≡ Some c)) → IsRow clauses trail next after-notes x a c ⊎ (((a ≡ l) × IsInList pushed l k) ⊎ ((c ≡ l) × IsInList pushed l (flip k)))
        by_cases (inl (is, new)) (inl (is_too, _)) = absurd (flip_other n (ap flip (sym is) ∙ is_too))
        by_cases (inl (is, new)) (inr (_, old)) = this_row is new old
        by_cases (inr (_, old)) (inl (is, new)) = that_row is new old
        by_cases (inr (apart, old)) (inr (too, old_too)) = by_old apart too (walk.rows k x a c at old old_too)

    pub walk_met : IsWalkOf clauses trail done next l left now most after after-heads after-nodes names after-notes
    walk_met = record {
      sized = omega (arith, walk.sized, same_nodes);
      begun = omega (arith, walk.begun, heads_len);
      lists = pushed;
      long = omega (arith, length-set popped q (n ∷ list_at popped q), length-set walk.lists p later, walk.long, heads_len);
      once = once_after;
      are = are;
      stays = stays;
      placed = placed_after;
      real = λ k a is. real_after k a (lit_cases k a is);
      all = omega (arith, total-set popped q (n ∷ list_at popped q) q_in_popped, total-set walk.lists p later p_inside, long_first, walk.all, same_nodes);
      unmet = unmet_after;
      rows = rows_after;
      few = omega (arith, long_left, long_first, walk.few);
      cheap = omega (arith, long_left, long_first, walk.cheap, paid);
    }
      where
        once_after : (k : ℕ) → times k pushed ≤ 1
        once_after k =
            let a = times-set k popped q (n ∷ list_at popped q) q_in_popped in
            let b = times-set k walk.lists p later p_inside in
            let c = ap (λ ns. times_in k ns) first in
            omega (arith, a, b, c, walk.once k)

        real_after : (k : ℕ) (a : Literal) → ((k ≡ n) × (a ≡ m)) ⊎ ((k ≢ n) × (slice_get (lits_of nodes) k ≡ Some a)) → 1 ≤ index_of a
        real_after k a (inl (_, new)) = subst (λ z. 1 ≤ index_of z) (sym new) real_m
        real_after k a (inr (_, old)) = walk.real k a old

        long_first : length (list_at walk.lists p) ≡ 1 + length later
        long_first = let e = ap length first in omega (arith, e)

        long_left : length (list_at pushed p) ≡ length later
        long_left = ap length left_list

        same_nodes : length after-nodes ≡ length nodes
        same_nodes = let e = ap length lits in omega (arith, e, length-set (lits_of nodes) n m, length-map nodes (λ (k : Node). k.lit), length-map after-nodes (λ (k : Node). k.lit))

-- a walk ends: what was met and stays is the list
module _ (clauses : List NamedClause) (trail done next : List Entry) (l : Literal) (steps most last : ℕ) (heads : List ℕ) (nodes : List Node) (names : List Name) (notes : List Note)
    (walk : IsWalkOf clauses trail done next l 0 steps most last heads nodes names notes) (real : 1 ≤ index_of l) (inside : index_of l < length heads) where
  empty : list_at walk.lists (index_of l) ≡ []
  empty = nil_from_length (list_at walk.lists (index_of l)) (omega (arith, walk.few))

  abbrev pub ended : List (List ℕ)
  ended = in_place (index_of l) walk.lists

  p_within : index_of l < length walk.lists
  p_within = omega (arith, walk.long, inside)

  times_own : (k : ℕ) → times_in k (list_at ended (index_of l)) ≡ times_in k (list_at walk.lists 0)
  times_own k =
      let a = ap (λ ns. times_in k ns) (in_place-own (index_of l) walk.lists real p_within) in
      let b = ap (λ ns. times_in k ns) empty in
      omega (arith, a, b, times_in-onto k (list_at walk.lists 0) (list_at walk.lists (index_of l)))

  placed_end : (k : ℕ) (a : Literal) → slice_get (lits_of nodes) k ≡ Some a → times_in k (list_at ended (index_of a)) ≡ 1
  placed_end k a is = by_case (walk.placed k a is) (cases_eq (index_of a) (index_of l)) (cases_eq (index_of a) 0)
    where
      gone : times_in k (list_at walk.lists (index_of l)) ≡ 0
      gone = ap (λ ns. times_in k ns) empty

      by_case : IsInList walk.lists a k ⊎ ((a ≡ l) × (times_in k (list_at walk.lists 0) ≡ 1)) → (index_of a ≡ index_of l) ⊎ (index_of a ≢ index_of l) → (index_of a ≡ 0) ⊎ (index_of a ≢ 0) → times_in k (list_at ended (index_of a)) ≡ 1
      by_case (inr (own, one)) second third = ap (λ b. times_in k (list_at ended (index_of b))) own ∙ (times_own k ∙ one)
      by_case (inl one) (inl is_own) third = absurd (omega (arith, gone, e))
        where
          e : times_in k (list_at walk.lists (index_of l)) ≡ 1
          e = ap (λ r. times_in k (list_at walk.lists r)) (sym is_own) ∙ one
      by_case (inl one) (inr apart) (inr some) = ap (λ ns. times_in k ns) (in_place-other (index_of l) walk.lists real p_within (index_of a) some apart) ∙ one
      by_case (inl one) (inr apart) (inl z) = no_literal (walk.real k a is) z
        where
          no_literal : 1 ≤ index_of a → index_of a ≡ 0 → times_in k (list_at ended (index_of a)) ≡ 1
          no_literal some zero_is = absurd (omega (arith, some, zero_is))

  pub walk_threads : AreThreaded heads nodes
  walk_threads = record {
    lists = ended;
    are = walk.are;
    begun = walk.begun;
    stage = in_place-zero (index_of l) walk.lists real p_within;
    placed = placed_end;
    all = in_place-total (index_of l) walk.lists real p_within ∙ walk.all;
  }

  pub walk_rows : AreRows clauses trail next notes names (lits_of nodes)
  walk_rows n name a b named own other = by_case (walk.rows n name a b named own other)
    where
      none : (k : ℕ) → IsInList walk.lists l k → ⊥
      none k one = absurd (omega (arith, one, e))
        where
          e : times_in k (list_at walk.lists (index_of l)) ≡ 0
          e = ap (λ ns. times_in k ns) empty

      by_case : IsRow clauses trail next notes name a b ⊎ (((a ≡ l) × IsInList walk.lists l n) ⊎ ((b ≡ l) × IsInList walk.lists l (flip n))) → IsRow clauses trail next notes name a b
      by_case (inl right) = right
      by_case (inr (inl (is, one))) = absurd (none n one)
      by_case (inr (inr (is, one))) = absurd (none (flip n) one)
