-- Following a chain from its head.
use Rattle.std.proofs.Common.{◌≡◌, ℕ, ◌+◌, ◌-◌, ◌<◌, ◌≤◌, ◌==◌, Bool, true, false, cond, List, [], ◌∷◌, ◌++◌, length, take, drop, reverse, get_or, refl, ap, sym, ◌∙◌, subst, arith}
use Rattle.std.specs.Prelude.{Some, None}
use Rattle.std.proofs.lemmas.Bool.{eqb-true, eqb-false, cond-true, cond-false, cond_both}
use Rattle.std.proofs.lemmas.List.{take_all, take-take, get_or-take, length-take-le, length-map}
use Rattle.lit_base.specs.Named.{same_name}
use Rattle.lit_base.specs.declared.name.Name.{Name}
use Rattle.lit_base.proofs.HeldClauses.{same_name-true}
use Rattle.clause_pool.specs.declared.slot.Slot.{Slot}
use Rattle.clause_pool.specs.Slots.{slot_names, place_at}
use Rattle.clause_pool.specs.Links.{chain_of, head_in, AreLinks, IsLinked}
use Rattle.clause_pool.proofs.Splits.{split, split_read}

-- a slot of no clause
abbrev pub blank : Slot
blank = record { name = record { period = 0; core = 0; index = 0 }; link = 0; end = 0; uses = 0 }

-- names of different chains are different
names_differ : (count : ℕ) (m n : Name) → (chain_of count m == chain_of count n) ≡ false → same_name m n ≡ false
names_differ count m n apart = by_test (same_name m n) refl
  where
    by_test : (b : Bool) → same_name m n ≡ b → b ≡ false
    by_test true same = absurd (eqb-false (chain_of count m) (chain_of count n) apart (ap (chain_of count) (same_name-true m n same)))
    by_test false same = refl

-- a chain that is empty has no slot of the name
pub none_met : (count : ℕ) (rest : List Slot) (n : Name) → head_in count (chain_of count n) rest ≡ 0 → place_at (slot_names rest) n ≡ None
none_met count [] n none = refl
none_met count (s ∷ older) n none = by_test (chain_of count s.name == chain_of count n) refl none (none_met count older n)
  where
    by_test : (b : Bool) → (chain_of count s.name == chain_of count n) ≡ b → cond b (length older + 1) (head_in count (chain_of count n) older) ≡ 0 →
        (head_in count (chain_of count n) older ≡ 0 → place_at (slot_names older) n ≡ None) → place_at (slot_names (s ∷ older)) n ≡ None
    by_test true here none rest = let never : ⊥ = omega (arith, none) in absurd never
    by_test false other none rest =
        cond-false (same_name s.name n) (Some (length (slot_names older))) (place_at (slot_names older) n) (names_differ count s.name n other) ∙ rest none

-- the slot to which a chain leads, and the older ones
pub record IsMet (count : ℕ) (rest : List Slot) (n : Name) (link : ℕ) : Type 0 where
  pub newer : List Slot
  pub s : Slot
  pub older : List Slot
  pub is : rest ≡ newer ++ s ∷ older
  pub size : length older + 1 ≡ link
  pub chain : chain_of count s.name ≡ chain_of count n
  pub place : place_at (slot_names rest) n ≡ place_at (slot_names (s ∷ older)) n

met_later : (count : ℕ) (s : Slot) (older : List Slot) (n : Name) (link : ℕ) → (chain_of count s.name == chain_of count n) ≡ false → IsMet count older n link → IsMet count (s ∷ older) n link
met_later count s older n link other later = record {
  newer = s ∷ later.newer;
  s = later.s;
  older = later.older;
  is = ap (λ xs. s ∷ xs) later.is;
  size = later.size;
  chain = later.chain;
  place = cond-false (same_name s.name n) (Some (length (slot_names older))) (place_at (slot_names older) n) (names_differ count s.name n other) ∙ later.place;
}

pub met : (count : ℕ) (rest : List Slot) (n : Name) (link : ℕ) → head_in count (chain_of count n) rest ≡ link → 0 < link → IsMet count rest n link
met count [] n link is positive = let never : ⊥ = omega (arith, is, positive) in absurd never
met count (s ∷ older) n link is positive = by_test (chain_of count s.name == chain_of count n) refl is (λ later. met count older n link later positive)
  where
    by_test : (b : Bool) → (chain_of count s.name == chain_of count n) ≡ b → cond b (length older + 1) (head_in count (chain_of count n) older) ≡ link →
        (head_in count (chain_of count n) older ≡ link → IsMet count older n link) → IsMet count (s ∷ older) n link
    by_test true here is later = record {
      newer = [];
      s = s;
      older = older;
      is = refl;
      size = is;
      chain = eqb-true (chain_of count s.name) (chain_of count n) here;
      place = refl;
    }
    by_test false other is later = met_later count s older n link other (later is)

-- a chain begins at one of the slots
head_within : (count chain : ℕ) (slots : List Slot) → head_in count chain slots ≤ length slots
head_within count chain [] = omega arith
head_within count chain (s ∷ older) =
    let rest = head_within count chain older in
    cond_both (chain_of count s.name == chain) (length older + 1) (head_in count chain older) (λ link. link ≤ length (s ∷ older)) (λ t. omega arith) (λ f. omega arith)

links_older : (count : ℕ) (newer : List Slot) (s : Slot) (older : List Slot) → AreLinks count (newer ++ s ∷ older) → s.link ≡ head_in count (chain_of count s.name) older
links_older count [] s older links = links.0
links_older count (t ∷ newer) s older links = links_older count newer s older links.1

-- the name is still to be found among the oldest slots, whose chain begins at this link
pub record IsSought (count : ℕ) (items : List Slot) (n : Name) (link : ℕ) : Type 0 where
  pub upto : ℕ
  pub within : upto ≤ length items
  pub head : head_in count (chain_of count n) (reverse (take upto items)) ≡ link
  pub place : place_at (slot_names (reverse items)) n ≡ place_at (slot_names (reverse (take upto items))) n

-- at first it is to be found among all
pub sought_all : (heads : List ℕ) (items : List Slot) (n : Name) (link : ℕ) → IsLinked heads (reverse items) → chain_of (length heads) n < length heads →
    link ≡ get_or heads (chain_of (length heads) n) 0 → IsSought (length heads) items n link
sought_all heads items n link linked within read =
    let all : take (length items) items ≡ items = take_all (length items) items (omega arith) in
    record {
      upto = length items;
      within = omega arith;
      head = ap (λ xs. head_in (length heads) (chain_of (length heads) n) (reverse xs)) all ∙ (sym (linked.heads_are (chain_of (length heads) n) within) ∙ sym read);
      place = ap (λ xs. place_at (slot_names (reverse xs)) n) (sym all);
    }

-- where there is no link it isn't found
pub sought_none : (count : ℕ) (items : List Slot) (n : Name) → IsSought count items n 0 → place_at (slot_names (reverse items)) n ≡ None
sought_none count items n sought = sought.place ∙ none_met count (reverse (take sought.upto items)) n sought.head

-- what the slot of a link tells
pub record IsTold (count : ℕ) (items : List Slot) (n : Name) (link : ℕ) (s : Slot) : Type 0 where
  pub within : link - 1 < length items
  pub found : same_name s.name n ≡ true → place_at (slot_names (reverse items)) n ≡ Some (link - 1)
  pub lower : s.link < link
  pub later : same_name s.name n ≡ false → IsSought count items n s.link

told_at : (count : ℕ) (items : List Slot) (n : Name) (link : ℕ) (s : Slot) (older : List Slot) (upto : ℕ) → upto ≤ length items → link - 1 < upto → 0 < link → length older + 1 ≡ link →
    reverse (take (link - 1) items) ≡ older → s.link ≡ head_in count (chain_of count n) older →
    place_at (slot_names (reverse items)) n ≡ place_at (slot_names (s ∷ older)) n → IsTold count items n link s
told_at count items n link s older upto few inside positive size rest next place =
    let bound = head_within count (chain_of count n) older in
    let names : length (slot_names older) ≡ link - 1 = omega (arith, length-map older (λ t. t.name)) in
    record {
      within = omega arith;
      found = λ same. place ∙ (cond-true (same_name s.name n) (Some (length (slot_names older))) (place_at (slot_names older) n) same ∙ ap (λ p. Some p) names);
      lower = omega arith;
      later = λ other. record {
        upto = link - 1;
        within = omega arith;
        head = ap (λ xs. head_in count (chain_of count n) xs) rest ∙ sym next;
        place = place
            ∙ (cond-false (same_name s.name n) (Some (length (slot_names older))) (place_at (slot_names older) n) other ∙ ap (λ xs. place_at (slot_names xs) n) (sym rest));
      };
    }

told_met : (count : ℕ) (items : List Slot) (n : Name) (link : ℕ) (d : Slot) (sought : IsSought count items n link) → AreLinks count (reverse items) → 0 < link →
    IsMet count (reverse (take sought.upto items)) n link → IsTold count items n link (get_or items (link - 1) d)
told_met count items n link d sought links positive now =
    let size : length now.older ≡ link - 1 = omega (arith, now.size) in
    let at = split_read (take sought.upto items) now.newer now.older now.s (link - 1) now.is size in
    let inside : link - 1 < sought.upto = omega (arith, at.within, length-take-le sought.upto items sought.within) in
    let few : link - 1 < length items = omega (arith, inside, sought.within) in
    let read : get_or items (link - 1) d ≡ now.s = sym (get_or-take sought.upto items (link - 1) d inside) ∙ at.read d in
    let rest : reverse (take (link - 1) items) ≡ now.older = ap reverse (sym (take-take (link - 1) sought.upto items (omega (arith, inside)))) ∙ at.rest in
    let linked = links_older count (reverse (drop (link - 1 + 1) items)) (get_or items (link - 1) d) (reverse (take (link - 1) items)) (subst (AreLinks count) (split items (link - 1) d few) links) in
    let chain : chain_of count (get_or items (link - 1) d).name ≡ chain_of count n = ap (λ s. chain_of count s.name) read ∙ now.chain in
    told_at count items n link (get_or items (link - 1) d) now.older sought.upto sought.within inside positive now.size rest
    (linked ∙ (ap (λ c. head_in count c (reverse (take (link - 1) items))) chain ∙ ap (λ xs. head_in count (chain_of count n) xs) rest))
    (sought.place ∙ (now.place ∙ ap (λ s. place_at (slot_names (s ∷ now.older)) n) (sym read)))

-- the slot of a link tells whether it is the name's, and where to go on
pub told : (count : ℕ) (items : List Slot) (n : Name) (link : ℕ) (d : Slot) → IsSought count items n link → AreLinks count (reverse items) → 0 < link →
    IsTold count items n link (get_or items (link - 1) d)
told count items n link d sought links positive = told_met count items n link d sought links positive (met count (reverse (take sought.upto items)) n link sought.head positive)
