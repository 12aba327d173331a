-- Lists of nodes in arrays: where each list begins, and where it goes on behind each node.
use Rattle.std.specs.Prelude.{◌≡◌, ℕ, ◌+◌, ◌<◌, ◌≤◌, ◌==◌, List, [], ◌∷◌, length, map, get_or, if◌then◌else◌, Option, Some, None, slice_get, set}
use Rattle.lit_base.specs.Literal.{Literal}
use Rattle.trail_book.specs.Arrays.{index_of}
use Rattle.round_prop.specs.declared.node.Node.{Node}

-- the number that no node has: a list ends there
abbrev pub no_node : ℕ
no_node = 4294967295

-- where the lists go on behind the nodes
abbrev pub nexts_of : List Node → List ℕ
nexts_of nodes = map (λ (n : Node). n.next) nodes

-- the literals by which the nodes' clauses are linked
abbrev pub lits_of : List Node → List Literal
lits_of nodes = map (λ (n : Node). n.lit) nodes

-- from a place on, the nodes of a list in turn
abbrev pub IsChain : List ℕ → ℕ → List ℕ → Type 0
IsChain nexts at [] = at ≡ no_node
IsChain nexts at (n ∷ later) = (at ≡ n) × (n < length nexts) × IsChain nexts (get_or nexts n 0) later

-- the list at a place, and the empty one past the end
abbrev pub list_at : List (List ℕ) → ℕ → List ℕ
list_at lists p = get_or lists p []

-- how often a node stands in a list
abbrev pub times_in : ℕ → List ℕ → ℕ
times_in n [] = 0
times_in n (m ∷ later) = (if m == n then 1 else 0) + times_in n later

-- how often it stands in the lists
abbrev pub times : ℕ → List (List ℕ) → ℕ
times n [] = 0
times n (nodes ∷ later) = times_in n nodes + times n later

-- the length of all lists together
abbrev pub total : List (List ℕ) → ℕ
total [] = 0
total (nodes ∷ later) = length nodes + total later

-- the arrays have these lists, one at each head, and no node stands twice
pub record AreLists (heads nexts : List ℕ) (lists : List (List ℕ)) : Type 0 where
  pub long : length lists ≡ length heads
  pub few : length nexts ≤ no_node
  pub chains : (p : ℕ) → p < length heads → IsChain nexts (get_or heads p 0) (list_at lists p)
  pub once : (n : ℕ) → times n lists ≤ 1

-- the arrays have lists in which each node stands in the list of its literal alone, and list 0 is empty
pub record AreThreaded (heads : List ℕ) (nodes : List Node) : Type 0 where
  pub lists : List (List ℕ)
  pub are : AreLists heads (nexts_of nodes) lists
  pub begun : 0 < length heads
  pub stage : list_at lists 0 ≡ []
  pub placed : (n : ℕ) (l : Literal) → slice_get (lits_of nodes) n ≡ Some l → times_in n (list_at lists (index_of l)) ≡ 1
  pub all : total lists ≡ length nodes

-- a list of which some nodes were met, the newest first, and others are left
abbrev pub onto : List ℕ → List ℕ → List ℕ
onto [] rest = rest
onto (n ∷ older) rest = onto older (n ∷ rest)

-- the node that was met last, and no node where none was
abbrev pub last_of : List ℕ → ℕ
last_of [] = no_node
last_of (n ∷ older) = n

-- the lists as they stand in the arrays while one is walked: what list 0 has stands before what is left of that one
abbrev pub in_place : ℕ → List (List ℕ) → List (List ℕ)
in_place p lists = set (set lists p (onto (list_at lists 0) (list_at lists p))) 0 []

-- the first node of a list, and None where it is empty
abbrev pub IsFront : List ℕ → Option ℕ → Type 0
IsFront rest None = rest ≡ []
IsFront rest (Some n) = (later : List ℕ) × (rest ≡ n ∷ later)

-- the same of the first so many nodes, while the others are in no list
pub record ArePartlyThreaded (heads : List ℕ) (nodes : List Node) (count : ℕ) : Type 0 where
  pub lists : List (List ℕ)
  pub are : AreLists heads (nexts_of nodes) lists
  pub begun : 0 < length heads
  pub stage : list_at lists 0 ≡ []
  pub placed : (n : ℕ) (l : Literal) → n < count → slice_get (lits_of nodes) n ≡ Some l → times_in n (list_at lists (index_of l)) ≡ 1
  pub absent : (n : ℕ) → count ≤ n → times n lists ≡ 0
  pub all : total lists ≡ count
