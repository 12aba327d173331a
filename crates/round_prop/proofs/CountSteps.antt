-- How many nodes a list has: no more than there are clauses that hold its literal.
use Rattle.std.proofs.Common.{◌≡◌, ◌≢◌, ◌⊎◌, ℕ, ◌+◌, ◌-◌, ◌*◌, ◌/◌, ◌%◌, ◌<◌, ◌≤◌, ◌==◌, Bool, true, false, cond, List, [], ◌∷◌, ◌++◌, length, get_or, map, refl, inl, inr, ap, sym, ◌∙◌, subst, arith}
use Rattle.std.specs.Prelude.{⊤, Some, None, slice_get, if◌then◌else◌}
use Rattle.std.specs.List.{list_any, AllByRecursion}
use Rattle.std.proofs.lemmas.Bool.{cases_Bool, cases_eq, eqb-true, eqb-false}
use Rattle.std.proofs.lemmas.List.{length-map}
use Rattle.std.proofs.lemmas.Option.{same_Some, slice_get-get_or}
use Rattle.lit_base.specs.Literal.{Literal, same}
use Rattle.lit_base.specs.Named.{lits_at, same_name}
use Rattle.lit_base.specs.Rounds.{NamedClause}
use Rattle.lit_base.specs.Quiet.{IsOneOf}
use Rattle.lit_base.specs.declared.trail.Entry.{Entry}
use Rattle.lit_base.specs.declared.name.Name.{Name}
use Rattle.lit_base.proofs.HeldClauses.{same_name-true, lits_at-cons}
use Rattle.lit_base.proofs.Known.{same_itself}
use Rattle.trail_book.specs.Arrays.{index_of}
use Rattle.round_prop.specs.declared.node.Node.{Node}
use Rattle.round_prop.specs.declared.note.Note.{Note}
use Rattle.round_prop.specs.Chains.{nexts_of, lits_of, IsChain, list_at, times_in, AreThreaded}
use Rattle.round_prop.specs.Pairs.{occurrences_of, pairs_of}
use Rattle.round_prop.specs.Readied.{flip, IsRow, AreRows, AreNamedApart}
use Rattle.round_prop.proofs.ChainSteps.{times_one, times_two, first_once}
use Rattle.round_prop.proofs.LinkSteps.{not_both}
use Rattle.round_prop.proofs.WalkSteps.{index_apart, flip_within}

-- the clause of the name holds the literal
record Holds (clauses : List NamedClause) (l : Literal) (name : Name) : Type 0 where
  lits : List Literal
  found : lits_at clauses name ≡ Some lits
  held : IsOneOf lits l

-- no name stands twice
abbrev AreDistinct : List Name → Type 0
AreDistinct [] = ⊤
AreDistinct (n ∷ later) = AllByRecursion (λ m. same_name n m ≡ false) later × AreDistinct later

-- the names but one
abbrev others_than : Name → List Name → List Name
others_than name [] = []
others_than name (m ∷ later) = if same_name name m then others_than name later else m ∷ others_than name later

none_there : (name : Name) (names : List Name) → AllByRecursion (λ m. same_name name m ≡ false) names → length (others_than name names) ≡ length names
none_there name [] apart = refl
none_there name (m ∷ later) apart =
    let e = ap (λ b. length (if b then others_than name later else m ∷ others_than name later)) apart.0 in
    let rest = none_there name later apart.1 in omega (arith, e, rest)

abbrev one_if : Bool → ℕ
one_if b = if b then 1 else 0

one_less : (l : Literal) (c : NamedClause) (clauses : List NamedClause) (names : List Name) → AreDistinct names → AllByRecursion (Holds (c ∷ clauses) l) names →
    length names ≤ one_if (list_any (λ m. same m l) c.lits) + length (others_than c.name names)
one_less l c clauses [] distinct all = omega arith
one_less l c clauses (m ∷ later) distinct all = by_test (cases_Bool (same_name c.name m)) (one_less l c clauses later distinct.1 all.1)
  where
    first : Holds (c ∷ clauses) l m
    first = all.0

    by_test : (same_name c.name m ≡ true) ⊎ (same_name c.name m ≡ false) → length later ≤ one_if (list_any (λ k. same k l) c.lits) + length (others_than c.name later) →
        length (m ∷ later) ≤ one_if (list_any (λ k. same k l) c.lits) + length (others_than c.name (m ∷ later))
    by_test (inl is) rest =
        let lits : c.lits ≡ first.lits = same_Some c.lits first.lits (sym (ap (λ b. cond b (Some c.lits) (lits_at clauses m)) is) ∙ (sym (lits_at-cons c clauses m) ∙ first.found)) in
        let one : one_if (list_any (λ k. same k l) c.lits) ≡ 1 = ap (λ ls. one_if (list_any (λ k. same k l) ls)) lits ∙ ap one_if first.held in
        let e = ap (λ b. length (if b then others_than c.name later else m ∷ others_than c.name later)) is in
        let all_there = none_there c.name later (subst (λ n. AllByRecursion (λ k. same_name n k ≡ false) later) (sym (same_name-true c.name m is)) distinct.0) in
        omega (arith, one, e, all_there)
    by_test (inr other) rest =
        let e = ap (λ b. length (if b then others_than c.name later else m ∷ others_than c.name later)) other in
        omega (arith, e, rest)

apart_others : (name k : Name) (names : List Name) → AllByRecursion (λ m. same_name k m ≡ false) names → AllByRecursion (λ m. same_name k m ≡ false) (others_than name names)
apart_others name k [] apart = tt
apart_others name k (m ∷ later) apart = by_test (same_name name m) (apart_others name k later apart.1)
  where
    by_test : (b : Bool) → AllByRecursion (λ n. same_name k n ≡ false) (others_than name later) → AllByRecursion (λ n. same_name k n ≡ false) (if b then others_than name later else m ∷ others_than name later)
    by_test true rest = rest
    by_test false rest = (apart.0, rest)

distinct_others : (name : Name) (names : List Name) → AreDistinct names → AreDistinct (others_than name names)
distinct_others name [] distinct = tt
distinct_others name (m ∷ later) distinct = by_test (same_name name m) (distinct_others name later distinct.1)
  where
    by_test : (b : Bool) → AreDistinct (others_than name later) → AreDistinct (if b then others_than name later else m ∷ others_than name later)
    by_test true rest = rest
    by_test false rest = (apart_others name m later distinct.0, rest)

holds_others : (l : Literal) (c : NamedClause) (clauses : List NamedClause) (names : List Name) → AllByRecursion (Holds (c ∷ clauses) l) names → AllByRecursion (Holds clauses l) (others_than c.name names)
holds_others l c clauses [] all = tt
holds_others l c clauses (m ∷ later) all = by_test (same_name c.name m) refl (holds_others l c clauses later all.1)
  where
    first : Holds (c ∷ clauses) l m
    first = all.0

    by_test : (b : Bool) → same_name c.name m ≡ b → AllByRecursion (Holds clauses l) (others_than c.name later) → AllByRecursion (Holds clauses l) (if b then others_than c.name later else m ∷ others_than c.name later)
    by_test true is rest = rest
    by_test false is rest =
        (record { lits = first.lits; found = sym (ap (λ b. cond b (Some c.lits) (lits_at clauses m)) is) ∙ (sym (lits_at-cons c clauses m) ∙ first.found); held = first.held }, rest)

names_most : (l : Literal) (clauses : List NamedClause) (names : List Name) → AreDistinct names → AllByRecursion (Holds clauses l) names → length names ≤ occurrences_of l clauses
names_most l [] [] distinct all = omega arith
names_most l [] (m ∷ later) distinct all = absurd (none all.0.found)
  where
    none : {X : Type 0} {x : X} → None ≡ Some x → ⊥
    none is = cc
names_most l (c ∷ clauses) names distinct all =
    let rest = names_most l clauses (others_than c.name names) (distinct_others c.name names distinct) (holds_others l c clauses names all) in
    let less = one_less l c clauses names distinct all in
    omega (arith, rest, less)

-- two nodes of one row
same_half : (n m : ℕ) → n / 2 ≡ m / 2 → m ≢ n → m ≡ flip n
same_half n m half apart = by_test (n % 2 == 0) refl
  where
    up : (n m : ℕ) → n % 2 ≡ 0 → n / 2 ≡ m / 2 → m ≢ n → m ≡ n + 1
    up n m even half apart = grind arith

    down : (n m : ℕ) → (n % 2 ≡ 0 → ⊥) → n / 2 ≡ m / 2 → m ≢ n → m ≡ n - 1
    down n m odd half apart = grind arith

    by_test : (b : Bool) → (n % 2 == 0) ≡ b → m ≡ flip n
    by_test true even = up n m (eqb-true (n % 2) 0 even) half apart ∙ sym (ap (λ b. if b then n + 1 else n - 1) even)
    by_test false odd = down n m (eqb-false (n % 2) 0 odd) half apart ∙ sym (ap (λ b. if b then n + 1 else n - 1) odd)

module _ (clauses : List NamedClause) (trail done : List Entry) (notes : List Note) (heads : List ℕ) (nodes : List Node) (names : List Name) (threaded : AreThreaded heads nodes)
    (sized : length nodes ≡ 2 * length names) (rows : AreRows clauses trail done notes names (lits_of nodes)) (apart : AreNamedApart names) (l : Literal) where
  any_name : Name
  any_name = record { period = 0; core = 0; index = 0 }

  any_lit : Literal
  any_lit = record { variable = 0; positive = true }

  name_at : ℕ → Name
  name_at n = get_or names (n / 2) any_name

  -- a node of the list
  record IsOwn (n : ℕ) : Type 0 where
    inside : n < length nodes
    own : slice_get (lits_of nodes) n ≡ Some l

  -- a name of a node
  named : (n : ℕ) → n < length nodes → slice_get names (n / 2) ≡ Some (name_at n)
  unfolding name_at
  named n inside = slice_get-get_or names (n / 2) any_name (omega (arith, inside, sized))

  row_of : (n : ℕ) → IsOwn n → IsRow clauses trail done notes (name_at n) l (get_or (lits_of nodes) (flip n) any_lit)
  row_of n one =
      rows n (name_at n) l (get_or (lits_of nodes) (flip n) any_lit) (named n one.inside) one.own
      (slice_get-get_or (lits_of nodes) (flip n) any_lit (omega (arith, flip_within n (length names) (omega (arith, one.inside, sized)), sized, length-map nodes (λ (m : Node). m.lit))))

  apart_names : (n m : ℕ) → IsOwn n → IsOwn m → m ≢ n → same_name (name_at n) (name_at m) ≡ false
  apart_names n m one two other = by_test (same_name (name_at n) (name_at m)) refl
    where
      by_test : (b : Bool) → same_name (name_at n) (name_at m) ≡ b → b ≡ false
      by_test true is =
          let equal : name_at n ≡ name_at m = same_name-true (name_at n) (name_at m) is in
          let half : n / 2 ≡ m / 2 = apart (n / 2) (m / 2) (name_at n) (named n one.inside) (named m two.inside ∙ ap (λ k. Some k) (sym equal)) in
          let flipped : m ≡ flip n = same_half n m half other in
          let bad = rows n (name_at n) l l (named n one.inside) one.own (subst (λ k. slice_get (lits_of nodes) k ≡ Some l) flipped two.own) in
          absurd (not_both (same l l) (same_itself l) bad.pair.apart)
      by_test false is = refl

  node_names : List ℕ → List Name
  node_names ns = map name_at ns

  absent : (n : ℕ) (ns : List ℕ) → AllByRecursion IsOwn ns → IsOwn n → times_in n ns ≡ 0 → AllByRecursion (λ m. same_name (name_at n) m ≡ false) (node_names ns)
  unfolding node_names
  absent n [] all one none = tt
  absent n (m ∷ later) all one none =
      (apart_names n m one all.0 (λ is. absurd (omega (arith, none, ap (λ k. times_in k (m ∷ later)) (sym is) ∙ first_once m later))), absent n later all.1 one (omega (arith, none)))

  distinct_nodes : (ns : List ℕ) → AllByRecursion IsOwn ns → ((k : ℕ) → times_in k ns ≤ 1) → AreDistinct (node_names ns)
  unfolding node_names
  distinct_nodes [] all once = tt
  distinct_nodes (n ∷ later) all once =
      (absent n later all.1 all.0 (omega (arith, once n, first_once n later)), distinct_nodes later all.1 (λ k. let most = once k in omega (arith, most)))

  holding : (ns : List ℕ) → AllByRecursion IsOwn ns → AllByRecursion (Holds clauses l) (node_names ns)
  unfolding node_names
  holding [] all = tt
  holding (n ∷ later) all = let row = row_of n all.0 in (record { lits = row.lits; found = row.found; held = row.pair.first }, holding later all.1)

  -- the nodes of the literal's list are its own
  chain_own : (at : ℕ) (ns : List ℕ) → IsChain (nexts_of nodes) at ns → ((n : ℕ) → times_in n ns ≤ times_in n (list_at threaded.lists (index_of l))) → AllByRecursion IsOwn ns
  chain_own at [] chain part = tt
  chain_own at (n ∷ later) chain part =
      let inside : n < length nodes = omega (arith, chain.1, length-map nodes (λ (m : Node). m.next)) in
      let found = slice_get-get_or (lits_of nodes) n any_lit (omega (arith, inside, length-map nodes (λ (m : Node). m.lit))) in
      let here : 1 ≤ times_in n (list_at threaded.lists (index_of l)) = omega (arith, part n, first_once n later) in (
        record { inside = inside; own = found ∙ ap (λ a. Some a) (literal n (get_or (lits_of nodes) n any_lit) found here) },
        chain_own (get_or (nexts_of nodes) n 0) later chain.2 (λ k. let most = part k in omega (arith, most)),
      )
    where
      literal : (n : ℕ) (a : Literal) → slice_get (lits_of nodes) n ≡ Some a → 1 ≤ times_in n (list_at threaded.lists (index_of l)) → a ≡ l
      literal n a is here = by_case (cases_eq (index_of a) (index_of l))
        where
          by_case : (index_of a ≡ index_of l) ⊎ (index_of a ≢ index_of l) → a ≡ l
          by_case (inl equal) = index_apart a l equal
          by_case (inr other) = absurd (omega (arith, threaded.placed n a is, here, times_two n threaded.lists (index_of a) (index_of l) other, threaded.are.once n))

  pub list_most : index_of l < length heads → length (list_at threaded.lists (index_of l)) ≤ occurrences_of l clauses
  unfolding node_names
  list_most inside =
      let ns = list_at threaded.lists (index_of l) in
      let all = chain_own (get_or heads (index_of l) 0) ns (threaded.are.chains (index_of l) inside) (λ n. omega arith) in
      let most = names_most l clauses (node_names ns) (distinct_nodes ns all (λ k. let one = times_one k threaded.lists (index_of l) in let once = threaded.are.once k in omega (arith, one, once))) (holding ns all) in
      omega (arith, most, length-map ns name_at)

-- pairs of entries in two parts
pub pairs-append : (clauses : List NamedClause) (newer older : List Entry) → pairs_of clauses (newer ++ older) ≡ pairs_of clauses newer + pairs_of clauses older
pairs-append clauses [] older = omega arith
pairs-append clauses (e ∷ newer) older = let rest = pairs-append clauses newer older in omega (arith, rest)
