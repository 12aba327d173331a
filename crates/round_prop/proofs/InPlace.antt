-- A list from which nodes are taken while it is walked, as it stands in the arrays.
use Rattle.std.proofs.Common.{◌≡◌, ◌≢◌, ◌⊎◌, ℕ, ◌+◌, ◌<◌, ◌≤◌, List, [], ◌∷◌, length, get_or, set, refl, inl, inr, ap, sym, ◌∙◌, subst, arith}
use Rattle.std.specs.Prelude.{Some, None}
use Rattle.std.proofs.lemmas.Bool.{cases_eq}
use Rattle.std.proofs.lemmas.List.{ext_get_or, length-set, length-map, map-set, set-get_or, get_or-map, get_or-set_same, get_or-set_other}
use Rattle.round_prop.specs.declared.node.Node.{Node}
use Rattle.round_prop.specs.Chains.{no_node, nexts_of, lits_of, IsChain, list_at, times_in, times, total, onto, last_of, in_place, IsFront, AreLists}
use Rattle.round_prop.proofs.ChainSteps.{chain-set, times-set, total-set, times_one, times_two, list_at-set, list_begins, list_empty, first_once, at_zero, next_read, lists_popped}

-- what was met, and what is left
pub times_in-onto : (n : ℕ) (met rest : List ℕ) → times_in n (onto met rest) ≡ times_in n met + times_in n rest
times_in-onto n [] rest = omega arith
times_in-onto n (m ∷ older) rest = let e = times_in-onto n older (m ∷ rest) in omega (arith, e)

pub length-onto : (met rest : List ℕ) → length (onto met rest) ≡ length met + length rest
length-onto [] rest = omega arith
length-onto (m ∷ older) rest = let e = length-onto older (m ∷ rest) in omega (arith, e)

-- from behind the last node met, the chain is what is left
pub chain_left : (nexts : List ℕ) (at m : ℕ) (older rest : List ℕ) → IsChain nexts at (onto older (m ∷ rest)) → (m < length nexts) × IsChain nexts (get_or nexts m 0) rest
chain_left nexts at m [] rest chain = (chain.1, chain.2)
chain_left nexts at m (k ∷ older) rest chain =
    let part = chain_left nexts at k older (m ∷ rest) chain in
    (part.1.1, part.1.2)

-- and its first node is one of the array
pub chain_low : (nexts : List ℕ) (at : ℕ) (met : List ℕ) (n : ℕ) (later : List ℕ) → IsChain nexts at (onto met (n ∷ later)) → n < length nexts
chain_low nexts at [] n later chain = chain.1
chain_low nexts at (m ∷ older) n later chain = (chain_left nexts at m older (n ∷ later) chain).1.1

-- what is left of a chain is exchanged, and the nodes that were met before tell the same
chain_exchanged : (nexts after : List ℕ) (at : ℕ) (met rest others : List ℕ) → length after ≡ length nexts → ((k : ℕ) → 1 ≤ times_in k met → get_or after k 0 ≡ get_or nexts k 0) →
    ((start : ℕ) → IsChain nexts start rest → IsChain after start others) → IsChain nexts at (onto met rest) → IsChain after at (onto met others)
chain_exchanged nexts after at [] rest others long told turn chain = turn at chain
chain_exchanged nexts after at (m ∷ older) rest others long told turn chain =
    chain_exchanged nexts after at older (m ∷ rest) (m ∷ others) long (λ k some. told k (omega (arith, some)))
    (λ start c. (c.0, omega (arith, c.1, long), subst (λ next. IsChain after next others) (sym (told m (let e = first_once m older in omega (arith, e)))) (turn (get_or nexts m 0) c.2))) chain

-- the chain behind a node that was met goes on behind the next one
pub chain_unlinked : (nexts : List ℕ) (at m n : ℕ) (older later : List ℕ) → times_in m older ≡ 0 → times_in m later ≡ 0 → IsChain nexts at (onto older (m ∷ n ∷ later)) →
    IsChain (set nexts m (get_or nexts n 0)) at (onto older (m ∷ later))
chain_unlinked nexts at m n older later before behind chain =
    chain_exchanged nexts after at older (m ∷ n ∷ later) (m ∷ later) (length-set nexts m (get_or nexts n 0)) told turn chain
  where
    after : List ℕ
    after = set nexts m (get_or nexts n 0)

    told : (k : ℕ) → 1 ≤ times_in k older → get_or after k 0 ≡ get_or nexts k 0
    told k some = by_case (cases_eq k m)
      where
        by_case : (k ≡ m) ⊎ (k ≢ m) → get_or after k 0 ≡ get_or nexts k 0
        by_case (inl is) = let e = ap (λ j. times_in j older) is in absurd (omega (arith, e, some, before))
        by_case (inr apart) = get_or-set_other nexts m k (get_or nexts n 0) 0 apart

    turn : (start : ℕ) → IsChain nexts start (m ∷ n ∷ later) → IsChain after start (m ∷ later)
    turn start c = (
      c.0,
      omega (arith, c.1, length-set nexts m (get_or nexts n 0)),
      subst (λ next. IsChain after next later) (sym (get_or-set_same nexts m (get_or nexts n 0) 0 c.1)) (chain-set nexts (get_or nexts n 0) later m (get_or nexts n 0) behind c.2.2),
    )

-- a list that is walked, of which something was met
module _ (heads nexts : List ℕ) (lists : List (List ℕ)) (p : ℕ) (met rest : List ℕ) (are : AreLists heads nexts lists) (inside : p < length heads) (is : list_at lists p ≡ onto met rest) where
  walked : IsChain nexts (get_or heads p 0) (onto met rest)
  walked = subst (λ ns. IsChain nexts (get_or heads p 0) ns) is (are.chains p inside)

  -- what is told behind the last node met
  pub left_behind : (last : ℕ) → last ≡ last_of met → last < length nexts → IsChain nexts (get_or nexts last 0) rest
  left_behind last last_is low = by_met met walked last_is
    where
      by_met : (ms : List ℕ) → IsChain nexts (get_or heads p 0) (onto ms rest) → last ≡ last_of ms → IsChain nexts (get_or nexts last 0) rest
      by_met [] chain none = absurd (omega (arith, none, low, are.few))
      by_met (m ∷ older) chain one = subst (λ k. IsChain nexts (get_or nexts k 0) rest) (sym one) (chain_left nexts (get_or heads p 0) m older rest chain).1

  -- and in front of the list, where none was
  none_met : (last : ℕ) → last ≡ last_of met → length nexts ≤ last → met ≡ []
  none_met last last_is past = by_met met walked last_is
    where
      by_met : (ms : List ℕ) → IsChain nexts (get_or heads p 0) (onto ms rest) → last ≡ last_of ms → ms ≡ []
      by_met [] chain none = refl
      by_met (m ∷ older) chain one = let low = (chain_left nexts (get_or heads p 0) m older rest chain).0 in absurd (omega (arith, low, one, past))

  pub left_in_front : (last : ℕ) → last ≡ last_of met → length nexts ≤ last → IsChain nexts (get_or heads p 0) rest
  left_in_front last last_is past = subst (λ ms. IsChain nexts (get_or heads p 0) (onto ms rest)) (none_met last last_is past) walked

-- the same, of what was read
pub behind_read : (heads : List ℕ) (nodes : List Node) (lists : List (List ℕ)) (p last : ℕ) (node : Node) (met rest : List ℕ) → p < length heads → last < length nodes → node ≡ get_or nodes last node →
    AreLists heads (nexts_of nodes) lists → list_at lists p ≡ onto met rest → last ≡ last_of met → IsChain (nexts_of nodes) node.next rest
behind_read heads nodes lists p last node met rest inside low read are is last_is =
    subst (λ at. IsChain (nexts_of nodes) at rest) (next_read nodes last node low read)
    (left_behind heads (nexts_of nodes) lists p met rest are inside is last last_is (omega (arith, low, length-map nodes (λ (m : Node). m.next))))

pub front_read : (heads : List ℕ) (nodes : List Node) (lists : List (List ℕ)) (p last first : ℕ) (met rest : List ℕ) → p < length heads → length nodes ≤ last → first ≡ get_or heads p first →
    AreLists heads (nexts_of nodes) lists → list_at lists p ≡ onto met rest → last ≡ last_of met → IsChain (nexts_of nodes) first rest
front_read heads nodes lists p last first met rest inside past read are is last_is =
    subst (λ at. IsChain (nexts_of nodes) at rest) (at_zero heads p first inside read)
    (left_in_front heads (nexts_of nodes) lists p met rest are inside is last last_is (omega (arith, past, length-map nodes (λ (m : Node). m.next))))

-- a chain begins with a node, or is empty
pub front_some : (nodes : List Node) (at : ℕ) (rest : List ℕ) → length (nexts_of nodes) ≤ no_node → at < length nodes → IsChain (nexts_of nodes) at rest → IsFront rest (Some at)
front_some nodes at rest few low chain =
    let begins = list_begins (nexts_of nodes) at rest few (omega (arith, low, length-map nodes (λ (m : Node). m.next))) chain in
    (begins.0, begins.1.0)

pub front_none : (nodes : List Node) (at : ℕ) (rest : List ℕ) → length nodes ≤ at → IsChain (nexts_of nodes) at rest → IsFront rest None
front_none nodes at rest past chain = list_empty (nexts_of nodes) at rest (omega (arith, past, length-map nodes (λ (m : Node). m.next))) chain

-- the next node leaves
module _ (heads nexts : List ℕ) (lists : List (List ℕ)) (p n : ℕ) (met later : List ℕ) (are : AreLists heads nexts lists) (inside : p < length heads) (is : list_at lists p ≡ onto met (n ∷ later)) where
  within : p < length lists
  within = omega (arith, are.long, inside)

  fewer : (k : ℕ) → times k (set lists p (onto met later)) ≤ 1
  fewer k =
      let a = times-set k lists p (onto met later) within in
      let b = ap (λ ns. times_in k ns) is in
      omega (arith, a, b, times_in-onto k met later, times_in-onto k met (n ∷ later), are.once k)

  -- behind another one
  pub lists_unlinked : (m : ℕ) (older : List ℕ) → met ≡ m ∷ older → AreLists heads (set nexts m (get_or nexts n 0)) (set lists p (onto met later))
  lists_unlinked m older met_is = record {
    long = omega (arith, length-set lists p (onto met later), are.long);
    few = omega (arith, length-set nexts m (get_or nexts n 0), are.few);
    chains = λ q small. at_list q small (list_at-set lists p q (onto met later) within);
    once = fewer;
  }
    where
      list_is : list_at lists p ≡ onto older (m ∷ n ∷ later)
      list_is = is ∙ ap (λ ms. onto ms (n ∷ later)) met_is

      counts : (times_in m older ≡ 0) × (times_in m later ≡ 0) × (1 ≤ times_in m (list_at lists p))
      counts =
          let a = ap (λ ns. times_in m ns) list_is in
          let b = times_in-onto m older (m ∷ n ∷ later) in
          let c = first_once m (n ∷ later) in
          let d = times_one m lists p in
          (omega (arith, a, b, c, d, are.once m), omega (arith, a, b, c, d, are.once m), omega (arith, a, b, c))

      here : IsChain nexts (get_or heads p 0) (onto older (m ∷ n ∷ later))
      here = subst (λ ns. IsChain nexts (get_or heads p 0) ns) list_is (are.chains p inside)

      at_list : (q : ℕ) → q < length heads → ((q ≡ p) × (list_at (set lists p (onto met later)) q ≡ onto met later)) ⊎ ((q ≢ p) × (list_at (set lists p (onto met later)) q ≡ list_at lists q)) →
          IsChain (set nexts m (get_or nexts n 0)) (get_or heads q 0) (list_at (set lists p (onto met later)) q)
      at_list q small (inl l) =
          subst (λ ns. IsChain (set nexts m (get_or nexts n 0)) (get_or heads q 0) ns) (sym (l.1 ∙ ap (λ ms. onto ms later) met_is))
          (subst (λ r. IsChain (set nexts m (get_or nexts n 0)) (get_or heads r 0) (onto older (m ∷ later))) (sym l.0) (chain_unlinked nexts (get_or heads p 0) m n older later counts.0 counts.1 here))
      at_list q small (inr l) =
          let none : times_in m (list_at lists q) ≡ 0 = omega (arith, times_two m lists p q (λ e. l.0 (sym e)), are.once m, counts.2) in
          subst (λ ns. IsChain (set nexts m (get_or nexts n 0)) (get_or heads q 0) ns) (sym l.1) (chain-set nexts (get_or heads q 0) (list_at lists q) m (get_or nexts n 0) none (are.chains q small))

  -- or from the front
  pub lists_begun : met ≡ [] → AreLists (set heads p (get_or nexts n 0)) nexts (set lists p (onto met later))
  lists_begun met_is =
      subst (λ ms. AreLists (set heads p (get_or nexts n 0)) nexts (set lists p (onto ms later))) (sym met_is) (lists_popped heads nexts lists p n later are inside (is ∙ ap (λ ms. onto ms (n ∷ later)) met_is))

-- the same, of what was read
pub unlinked_read : (heads : List ℕ) (nodes : List Node) (lists : List (List ℕ)) (p last n : ℕ) (other node : Node) (met later : List ℕ) → p < length heads → last < length nodes → other ≡ get_or nodes last other →
    n < length nodes → node ≡ get_or nodes n node → AreLists heads (nexts_of nodes) lists → list_at lists p ≡ onto met (n ∷ later) → last ≡ last_of met →
    AreLists heads (nexts_of (set nodes last (record other { next = node.next }))) (set lists p (onto met later))
unlinked_read heads nodes lists p last n other node met later inside low read low_n read_n are is last_is = by_met met is last_is
  where
    by_met : (ms : List ℕ) → list_at lists p ≡ onto ms (n ∷ later) → last ≡ last_of ms → AreLists heads (nexts_of (set nodes last (record other { next = node.next }))) (set lists p (onto ms later))
    by_met [] list_is none = absurd (omega (arith, none, low, are.few, length-map nodes (λ (m : Node). m.next)))
    by_met (m ∷ older) list_is one =
        subst (λ nexts. AreLists heads nexts (set lists p (onto (m ∷ older) later)))
        (ap (λ k. set (nexts_of nodes) k (get_or (nexts_of nodes) n 0)) (sym one) ∙ (ap (λ x. set (nexts_of nodes) last x) (next_read nodes n node low_n read_n) ∙ sym (map-set (λ (k : Node). k.next) nodes last (record other { next = node.next }))))
        (lists_unlinked heads (nexts_of nodes) lists p n (m ∷ older) later are inside list_is m older refl)

pub begun_read : (heads : List ℕ) (nodes : List Node) (lists : List (List ℕ)) (p last n : ℕ) (node : Node) (met later : List ℕ) → p < length heads → length nodes ≤ last →
    n < length nodes → node ≡ get_or nodes n node → AreLists heads (nexts_of nodes) lists → list_at lists p ≡ onto met (n ∷ later) → last ≡ last_of met →
    AreLists (set heads p node.next) (nexts_of nodes) (set lists p (onto met later))
begun_read heads nodes lists p last n node met later inside past low_n read_n are is last_is =
    subst (λ x. AreLists (set heads p x) (nexts_of nodes) (set lists p (onto met later))) (next_read nodes n node low_n read_n)
    (lists_begun heads (nexts_of nodes) lists p n met later are inside is (none_met heads (nexts_of nodes) lists p met (n ∷ later) are inside is last last_is (omega (arith, past, length-map nodes (λ (m : Node). m.next)))))

pub lits_kept : (nodes : List Node) (k : ℕ) (other : Node) (next : ℕ) → k < length nodes → other ≡ get_or nodes k other → lits_of (set nodes k (record other { next = next })) ≡ lits_of nodes
lits_kept nodes k other next inside read =
    map-set (λ (m : Node). m.lit) nodes k (record other { next = next })
    ∙ (ap (λ l. set (lits_of nodes) k l) (ap (λ (m : Node). m.lit) read ∙ sym (get_or-map (λ (m : Node). m.lit) nodes k other other.lit inside)) ∙ set-get_or (lits_of nodes) k other.lit)

-- the lists in place, one by one
module _ (p : ℕ) (lists : List (List ℕ)) (real : 1 ≤ p) (inside : p < length lists) where
  abbrev moved : List (List ℕ)
  moved = set lists p (onto (list_at lists 0) (list_at lists p))

  begun : 0 < length moved
  begun = omega (arith, length-set lists p (onto (list_at lists 0) (list_at lists p)), inside)

  apart : 0 ≢ p
  apart is = absurd (omega (arith, is, real))

  pub in_place-zero : list_at (in_place p lists) 0 ≡ []
  in_place-zero = get_or-set_same moved 0 [] [] begun

  pub in_place-own : list_at (in_place p lists) p ≡ onto (list_at lists 0) (list_at lists p)
  in_place-own = get_or-set_other moved 0 p [] [] (λ is. apart (sym is)) ∙ get_or-set_same lists p (onto (list_at lists 0) (list_at lists p)) [] inside

  pub in_place-other : (r : ℕ) → r ≢ 0 → r ≢ p → list_at (in_place p lists) r ≡ list_at lists r
  in_place-other r some other = get_or-set_other moved 0 r [] [] some ∙ get_or-set_other lists p r (onto (list_at lists 0) (list_at lists p)) [] other

  pub in_place-long : length (in_place p lists) ≡ length lists
  in_place-long = length-set moved 0 [] ∙ length-set lists p (onto (list_at lists 0) (list_at lists p))

  zero_list : list_at moved 0 ≡ list_at lists 0
  zero_list = get_or-set_other lists p 0 (onto (list_at lists 0) (list_at lists p)) [] apart

  -- no node comes in or leaves
  pub in_place-times : (n : ℕ) → times n (in_place p lists) ≡ times n lists
  in_place-times n =
      let a = times-set n lists p (onto (list_at lists 0) (list_at lists p)) inside in
      let b = times-set n moved 0 [] begun in
      let c = ap (λ ns. times_in n ns) zero_list in
      omega (arith, a, b, c, times_in-onto n (list_at lists 0) (list_at lists p))

  pub in_place-total : total (in_place p lists) ≡ total lists
  in_place-total =
      let a = total-set lists p (onto (list_at lists 0) (list_at lists p)) inside in
      let b = total-set moved 0 [] begun in
      let c = ap length zero_list in
      omega (arith, a, b, c, length-onto (list_at lists 0) (list_at lists p))

  -- lists that are these, one by one
  pub is_in_place : (others : List (List ℕ)) → length others ≡ length lists → list_at others 0 ≡ [] → list_at others p ≡ onto (list_at lists 0) (list_at lists p) →
      ((r : ℕ) → r ≢ 0 → r ≢ p → list_at others r ≡ list_at lists r) → others ≡ in_place p lists
  is_in_place others long zero_is own_is other_is = ext_get_or [] others (in_place p lists) (long ∙ sym in_place-long) (λ r low. at r (cases_eq r 0) (cases_eq r p))
    where
      at : (r : ℕ) → (r ≡ 0) ⊎ (r ≢ 0) → (r ≡ p) ⊎ (r ≢ p) → list_at others r ≡ list_at (in_place p lists) r
      at r (inl z) second = ap (λ k. list_at others k) z ∙ (zero_is ∙ (sym in_place-zero ∙ ap (λ k. list_at (in_place p lists) k) (sym z)))
      at r (inr some) (inl own) = ap (λ k. list_at others k) own ∙ (own_is ∙ (sym in_place-own ∙ ap (λ k. list_at (in_place p lists) k) (sym own)))
      at r (inr some) (inr other) = other_is r some other ∙ sym (in_place-other r some other)
