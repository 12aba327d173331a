-- Nodes that are threaded into the lists of their literals one by one.
use Rattle.std.proofs.Common.{◌≡◌, ◌≢◌, ◌⊎◌, ℕ, zero, suc, ◌+◌, ◌<◌, ◌≤◌, Bool, true, List, [], ◌∷◌, ◌++◌, length, get_or, set, replicate, All, refl, inl, inr, ap, sym, ◌∙◌, subst, arith}
use Rattle.std.specs.Prelude.{Option, Some, option_map, slice_get, if◌then◌else◌}
use Rattle.std.proofs.lemmas.Bool.{cases_lt, ne_eqb}
use Rattle.std.proofs.lemmas.List.{length-set, length-map, length-append, length-replicate, get_or_append_left, get_or_past, get_or-replicate, map-append}
use Rattle.std.proofs.lemmas.Option.{same_Some, slice_get_within, slice_get-map, slice_get-get_or}
use Rattle.lit_base.specs.Literal.{Literal}
use Rattle.trail_book.specs.Arrays.{index_of}
use Rattle.round_prop.specs.declared.node.Node.{Node}
use Rattle.round_prop.specs.Chains.{no_node, nexts_of, lits_of, IsChain, list_at, times_in, times, total, AreLists, AreThreaded, ArePartlyThreaded}
use Rattle.round_prop.proofs.ChainSteps.{times-set, total-set, times_one, list_at-set, first_once}
use Rattle.round_prop.proofs.NoteSteps.{slice_get-set, slice_get-parts}

-- behind the nodes a chain has none
chain_absent : (nexts : List ℕ) (at : ℕ) (nodes : List ℕ) (n : ℕ) → length nexts ≤ n → IsChain nexts at nodes → times_in n nodes ≡ 0
chain_absent nexts at [] n past chain = refl
chain_absent nexts at (m ∷ later) n past chain =
    let rest = chain_absent nexts (get_or nexts m 0) later n past chain.2 in
    let e : times_in n (m ∷ later) ≡ 0 + times_in n later = ap (λ (b : Bool). (if b then 1 else 0) + times_in n later) (ne_eqb m n (λ is. absurd (omega (arith, is, chain.1, past)))) in
    omega (arith, e, rest)

times_none : (n : ℕ) (lists : List (List ℕ)) → ((p : ℕ) → times_in n (list_at lists p) ≡ 0) → times n lists ≡ 0
times_none n [] none = refl
times_none n (first ∷ later) none = let rest = times_none n later (λ p. none (suc p)) in let here = none 0 in omega (arith, rest, here)

absent_behind : (heads nexts : List ℕ) (lists : List (List ℕ)) (n : ℕ) → AreLists heads nexts lists → length nexts ≤ n → times n lists ≡ 0
absent_behind heads nexts lists n are past = times_none n lists (λ p. by_place p (cases_lt p (length heads)))
  where
    by_place : (p : ℕ) → (p < length heads) ⊎ (length heads ≤ p) → times_in n (list_at lists p) ≡ 0
    by_place p (inl inside) = chain_absent nexts (get_or heads p 0) (list_at lists p) n past (are.chains p inside)
    by_place p (inr outside) = ap (λ ns. times_in n ns) (get_or_past lists p [] (omega (arith, outside, are.long)))

-- when all are threaded
pub all_threaded : (heads : List ℕ) (nodes : List Node) (count : ℕ) → count ≡ length nodes → ArePartlyThreaded heads nodes count → AreThreaded heads nodes
all_threaded heads nodes count whole part = record {
  lists = part.lists;
  are = part.are;
  begun = part.begun;
  stage = part.stage;
  placed = λ n l is. part.placed n l (omega (arith, slice_get_within (lits_of nodes) n l is, length-map nodes (λ (m : Node). m.lit), whole)) is;
  all = part.all ∙ whole;
}

-- before a node more is threaded
chain-append : (nexts : List ℕ) (x at : ℕ) (nodes : List ℕ) → IsChain nexts at nodes → IsChain (nexts ++ x ∷ []) at nodes
chain-append nexts x at [] chain = chain
chain-append nexts x at (m ∷ later) chain = (
  chain.0,
  omega (arith, chain.1, length-append nexts (x ∷ [])),
  subst (λ next. IsChain (nexts ++ x ∷ []) next later) (sym (get_or_append_left nexts (x ∷ []) 0 m chain.1)) (chain-append nexts x (get_or nexts m 0) later chain.2),
)

pub one_unthreaded : (heads : List ℕ) (nodes : List Node) (node : Node) → length nodes < no_node → AreThreaded heads nodes → ArePartlyThreaded heads (nodes ++ node ∷ []) (length nodes)
one_unthreaded heads nodes node few threaded =
    let nexts = nexts_of nodes in
    let same : nexts_of (nodes ++ node ∷ []) ≡ nexts ++ node.next ∷ [] = map-append (λ (m : Node). m.next) nodes (node ∷ []) in
    record {
      lists = threaded.lists;
      are = subst (λ ns. AreLists heads ns threaded.lists) (sym same) (record {
        long = threaded.are.long;
        few = omega (arith, length-append nexts (node.next ∷ []), length-map nodes (λ (m : Node). m.next), few);
        chains = λ p inside. chain-append nexts node.next (get_or heads p 0) (list_at threaded.lists p) (threaded.are.chains p inside);
        once = threaded.are.once;
      });
      begun = threaded.begun;
      stage = threaded.stage;
      placed = λ n l low is. threaded.placed n l (in_front n l low is);
      absent = λ n past. absent_behind heads nexts threaded.lists n threaded.are (omega (arith, past, length-map nodes (λ (m : Node). m.next)));
      all = threaded.all;
    }
  where
    in_front : (n : ℕ) (l : Literal) → n < length nodes → slice_get (lits_of (nodes ++ node ∷ [])) n ≡ Some l → slice_get (lits_of nodes) n ≡ Some l
    in_front n l low is = by_case (slice_get-parts (lits_of nodes) (node.lit ∷ []) n l (subst (λ ls. slice_get ls n ≡ Some l) (map-append (λ (m : Node). m.lit) nodes (node ∷ [])) is))
      where
        by_case : (slice_get (lits_of nodes) n ≡ Some l) ⊎ ((k : ℕ) × ((n ≡ length (lits_of nodes) + k) × (slice_get (node.lit ∷ []) k ≡ Some l))) → slice_get (lits_of nodes) n ≡ Some l
        by_case (inl here) = here
        by_case (inr (k, (at, _))) = absurd (omega (arith, at, low, length-map nodes (λ (m : Node). m.lit)))

abbrev no_list : List ℕ
no_list = []

-- no node is threaded yet
pub none_threaded : (count : ℕ) (nodes : List Node) → 0 < count → length nodes ≤ no_node → ArePartlyThreaded (replicate count no_node) nodes 0
none_threaded count nodes begun few = record {
  lists = replicate count no_list;
  are = record {
    long = length-replicate count no_list ∙ sym (length-replicate count no_node);
    few = omega (arith, few, length-map nodes (λ (m : Node). m.next));
    chains = λ p inside. empty p (omega (arith, inside, length-replicate count no_node));
    once = λ n. omega (arith, times_none n (replicate count no_list) (λ p. empty_times n p));
  };
  begun = omega (arith, begun, length-replicate count no_node);
  stage = empty_list 0;
  placed = λ n l low is. absurd (omega (arith, low));
  absent = λ n past. times_none n (replicate count no_list) (λ p. empty_times n p);
  all = empty_total count;
}
  where
    empty_list : (p : ℕ) → list_at (replicate count no_list) p ≡ []
    empty_list p = by_place (cases_lt p count)
      where
        by_place : (p < count) ⊎ (count ≤ p) → list_at (replicate count no_list) p ≡ []
        by_place (inl inside) = get_or-replicate count p no_list [] inside
        by_place (inr outside) = get_or_past (replicate count no_list) p [] (omega (arith, outside, length-replicate count no_list))

    empty_times : (n p : ℕ) → times_in n (list_at (replicate count no_list) p) ≡ 0
    empty_times n p = ap (λ ns. times_in n ns) (empty_list p)

    empty_total : (k : ℕ) → total (replicate k no_list) ≡ 0
    empty_total zero = refl
    empty_total (suc k) = let rest = empty_total k in omega (arith, rest)

    empty : (p : ℕ) → p < count → IsChain (nexts_of nodes) (get_or (replicate count no_node) p 0) (list_at (replicate count no_list) p)
    empty p inside = subst (λ ns. IsChain (nexts_of nodes) (get_or (replicate count no_node) p 0) ns) (sym (empty_list p)) (get_or-replicate count p no_node 0 inside)

-- one node more is threaded
pub one_threaded : (heads : List ℕ) (nodes : List Node) (n : ℕ) (l : Literal) (put-heads : List ℕ) (put-nodes : List Node) → 1 ≤ index_of l → index_of l < length heads → slice_get (lits_of nodes) n ≡ Some l →
    ((lists : List (List ℕ)) → AreLists heads (nexts_of nodes) lists → times n lists ≡ 0 → AreLists put-heads (nexts_of put-nodes) (set lists (index_of l) (n ∷ list_at lists (index_of l)))) →
    lits_of put-nodes ≡ set (lits_of nodes) n l → length put-heads ≡ length heads → ArePartlyThreaded heads nodes n → ArePartlyThreaded put-heads put-nodes (n + 1)
one_threaded heads nodes n l put-heads put-nodes real inside own pushed lits long part =
    let p = index_of l in
    let lists = part.lists in
    let now = set lists p (n ∷ list_at lists p) in
    record {
      lists = now;
      are = pushed lists part.are (part.absent n (omega arith));
      begun = omega (arith, part.begun, long);
      stage = by_stage (list_at-set lists p 0 (n ∷ list_at lists p) p_inside);
      placed = λ k m low is. by_lit k m low (slice_get-set (lits_of nodes) n k l m (subst (λ ls. slice_get ls k ≡ Some m) lits is));
      absent = λ k past. let e = times-set k lists p (n ∷ list_at lists p) p_inside in let skip = skip_first k (omega (arith, past)) in let none = part.absent k (omega (arith, past)) in omega (arith, e, skip, none);
      all = let e = total-set lists p (n ∷ list_at lists p) p_inside in omega (arith, e, part.all);
    }
  where
    p_inside : index_of l < length part.lists
    p_inside = omega (arith, inside, part.are.long)

    skip_first : (k : ℕ) → n < k → times_in k (n ∷ list_at part.lists (index_of l)) ≡ times_in k (list_at part.lists (index_of l))
    skip_first k less =
        let e : times_in k (n ∷ list_at part.lists (index_of l)) ≡ 0 + times_in k (list_at part.lists (index_of l)) = ap (λ (b : Bool). (if b then 1 else 0) + times_in k (list_at part.lists (index_of l))) (ne_eqb n k (λ is. absurd (omega (arith, is, less)))) in
        omega (arith, e)

    by_stage : ((0 ≡ index_of l) × (list_at (set part.lists (index_of l) (n ∷ list_at part.lists (index_of l))) 0 ≡ n ∷ list_at part.lists (index_of l))) ⊎ ((0 ≢ index_of l) × (list_at (set part.lists (index_of l) (n ∷ list_at part.lists (index_of l))) 0 ≡ list_at part.lists 0)) → list_at (set part.lists (index_of l) (n ∷ list_at part.lists (index_of l))) 0 ≡ []
    by_stage (inl (wrong, _)) = absurd (omega (arith, wrong, real))
    by_stage (inr (_, same)) = same ∙ part.stage

    now_at : (q : ℕ) → ((q ≡ index_of l) × (list_at (set part.lists (index_of l) (n ∷ list_at part.lists (index_of l))) q ≡ n ∷ list_at part.lists (index_of l))) ⊎
        ((q ≢ index_of l) × (list_at (set part.lists (index_of l) (n ∷ list_at part.lists (index_of l))) q ≡ list_at part.lists q))
    now_at q = list_at-set part.lists (index_of l) q (n ∷ list_at part.lists (index_of l)) p_inside

    here : times_in n (list_at (set part.lists (index_of l) (n ∷ list_at part.lists (index_of l))) (index_of l)) ≡ 1
    here = by_case (now_at (index_of l))
      where
        by_case : ((index_of l ≡ index_of l) × (list_at (set part.lists (index_of l) (n ∷ list_at part.lists (index_of l))) (index_of l) ≡ n ∷ list_at part.lists (index_of l))) ⊎
            ((index_of l ≢ index_of l) × (list_at (set part.lists (index_of l) (n ∷ list_at part.lists (index_of l))) (index_of l) ≡ list_at part.lists (index_of l))) →
            times_in n (list_at (set part.lists (index_of l) (n ∷ list_at part.lists (index_of l))) (index_of l)) ≡ 1
        by_case (inl (_, is)) = let e = ap (λ ns. times_in n ns) is ∙ first_once n (list_at part.lists (index_of l)) in omega (arith, e, times_one n part.lists (index_of l), part.absent n (omega arith))
        by_case (inr (wrong, _)) = absurd (wrong refl)

    others : (k q : ℕ) → k < n → times_in k (list_at (set part.lists (index_of l) (n ∷ list_at part.lists (index_of l))) q) ≡ times_in k (list_at part.lists q)
    others k q less = by_case (now_at q)
      where
        skip : times_in k (n ∷ list_at part.lists (index_of l)) ≡ times_in k (list_at part.lists (index_of l))
        skip =
            let e : times_in k (n ∷ list_at part.lists (index_of l)) ≡ 0 + times_in k (list_at part.lists (index_of l)) = ap (λ (b : Bool). (if b then 1 else 0) + times_in k (list_at part.lists (index_of l))) (ne_eqb n k (λ is. absurd (omega (arith, is, less)))) in
            omega (arith, e)

        by_case : ((q ≡ index_of l) × (list_at (set part.lists (index_of l) (n ∷ list_at part.lists (index_of l))) q ≡ n ∷ list_at part.lists (index_of l))) ⊎
            ((q ≢ index_of l) × (list_at (set part.lists (index_of l) (n ∷ list_at part.lists (index_of l))) q ≡ list_at part.lists q)) →
            times_in k (list_at (set part.lists (index_of l) (n ∷ list_at part.lists (index_of l))) q) ≡ times_in k (list_at part.lists q)
        by_case (inl (at, is)) = ap (λ ns. times_in k ns) is ∙ (skip ∙ ap (λ r. times_in k (list_at part.lists r)) (sym at))
        by_case (inr (_, is)) = ap (λ ns. times_in k ns) is

    by_lit : (k : ℕ) (m : Literal) → k < n + 1 → ((k ≡ n) × (m ≡ l)) ⊎ ((k ≢ n) × (slice_get (lits_of nodes) k ≡ Some m)) → times_in k (list_at (set part.lists (index_of l) (n ∷ list_at part.lists (index_of l))) (index_of m)) ≡ 1
    by_lit k m low (inl (at, is)) =
        subst (λ j. times_in j (list_at (set part.lists (index_of l) (n ∷ list_at part.lists (index_of l))) (index_of m)) ≡ 1) (sym at)
        (subst (λ z. times_in n (list_at (set part.lists (index_of l) (n ∷ list_at part.lists (index_of l))) (index_of z)) ≡ 1) (sym is) here)
    by_lit k m low (inr (apart, old)) = let less : k < n = below k low apart in others k (index_of m) less ∙ part.placed k m less old
      where
        below : (k : ℕ) → k < n + 1 → k ≢ n → k < n
        below k low apart = omega (arith, low, apart)

-- the literal of the last node
pub lit_last : (lits : List Literal) (l : Literal) → slice_get (lits ++ l ∷ []) (length lits) ≡ Some l
lit_last [] l = refl
lit_last (m ∷ later) l = lit_last later l

pub set_last : (lits : List Literal) (l : Literal) → set (lits ++ l ∷ []) (length lits) l ≡ lits ++ l ∷ []
set_last [] l = refl
set_last (m ∷ later) l = ap (λ ls. m ∷ ls) (set_last later l)

-- a node that came in behind the others is threaded
pub added_threaded : (heads : List ℕ) (nodes : List Node) (next n : ℕ) (l : Literal) (pushed : List Node) (put-heads : List ℕ) (put-nodes : List Node) → n ≡ length nodes → length nodes < no_node → 1 ≤ index_of l → index_of l < length heads →
    pushed ≡ nodes ++ (record { next = next; lit = l }) ∷ [] →
    ((lists : List (List ℕ)) → AreLists heads (nexts_of pushed) lists → times n lists ≡ 0 → AreLists put-heads (nexts_of put-nodes) (set lists (index_of l) (n ∷ list_at lists (index_of l)))) →
    lits_of put-nodes ≡ set (lits_of pushed) n l → length put-heads ≡ length heads → AreThreaded heads nodes → AreThreaded put-heads put-nodes
added_threaded heads nodes next n l pushed put-heads put-nodes last few real inside grown putting lits long threaded =
    let node : Node = record { next = next; lit = l } in
    let part = subst (λ ns. ArePartlyThreaded heads ns n) (sym grown) (subst (λ k. ArePartlyThreaded heads (nodes ++ node ∷ []) k) (sym last) (one_unthreaded heads nodes node few threaded)) in
    let own : slice_get (lits_of pushed) n ≡ Some l =
    ap (λ ns. slice_get (lits_of ns) n) grown ∙ (ap (λ ls. slice_get ls n) (map-append (λ (m : Node). m.lit) nodes (node ∷ []))
    ∙ (ap (λ k. slice_get (lits_of nodes ++ l ∷ []) k) (last ∙ sym (length-map nodes (λ (m : Node). m.lit))) ∙ lit_last (lits_of nodes) l)) in
    let next_part = one_threaded heads pushed n l put-heads put-nodes real inside own putting lits long part in
    all_threaded put-heads put-nodes (n + 1)
    (let e = ap length lits in let f = ap length grown in
    omega (arith, e, f, last, length-set (lits_of pushed) n l, length-map put-nodes (λ (m : Node). m.lit), length-map pushed (λ (m : Node). m.lit), length-append nodes (node ∷ []))) next_part

pub added_lits : (nodes : List Node) (next n : ℕ) (l : Literal) (pushed put-nodes : List Node) → n ≡ length nodes → pushed ≡ nodes ++ (record { next = next; lit = l }) ∷ [] → lits_of put-nodes ≡ set (lits_of pushed) n l →
    lits_of put-nodes ≡ lits_of nodes ++ l ∷ []
added_lits nodes next n l pushed put-nodes last grown lits =
    let node : Node = record { next = next; lit = l } in
    lits ∙ (ap (λ ns. set (lits_of ns) n l) grown ∙ (ap (λ ls. set ls n l) (map-append (λ (m : Node). m.lit) nodes (node ∷ []))
    ∙ (ap (λ k. set (lits_of nodes ++ l ∷ []) k l) (last ∙ sym (length-map nodes (λ (m : Node). m.lit))) ∙ set_last (lits_of nodes) l)))

-- heads that were filled with none
pub filled_threaded : (heads : List ℕ) (count : ℕ) (nodes : List Node) → heads ≡ replicate count no_node → 0 < count → length nodes ≤ no_node → ArePartlyThreaded heads nodes 0
filled_threaded heads count nodes filled begun few = subst (λ hs. ArePartlyThreaded hs nodes 0) (sym filled) (none_threaded count nodes begun few)

-- the literal of a node has a list
pub node_wide : (count : ℕ) (nodes : List Node) (i : ℕ) (l : Literal) → All (λ (n : Node). index_of n.lit < count) nodes → slice_get (lits_of nodes) i ≡ Some l → index_of l < count
node_wide count nodes i l wide is =
    let any : Node = record { next = 0; lit = record { variable = 0; positive = true } } in
    let inside : i < length nodes = omega (arith, slice_get_within (lits_of nodes) i l is, length-map nodes (λ (m : Node). m.lit)) in
    let lit : (get_or nodes i any).lit ≡ l =
    same_Some (get_or nodes i any).lit l (sym (slice_get-map (λ (m : Node). m.lit) nodes i ∙ ap (λ (o : Option Node). option_map (λ (m : Node). m.lit) o) (slice_get-get_or nodes i any inside)) ∙ is) in
    subst (λ k. index_of k < count) lit (wide i any inside)

-- a literal set where it stands
pub set_same : (lits : List Literal) (i : ℕ) (l : Literal) → slice_get lits i ≡ Some l → set lits i l ≡ lits
set_same [] i l is = refl
set_same (m ∷ later) zero l is = ap (λ k. k ∷ later) (sym (same_Some m l is))
set_same (m ∷ later) (suc i) l is = ap (λ ls. m ∷ ls) (set_same later i l is)
