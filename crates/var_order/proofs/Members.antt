-- Which variables are in a heap, after one comes in or goes out, or two change places.
use Rattle.std.proofs.Common.{◌≡◌, ℕ, ◌+◌, ◌<◌, ◌≤◌, Bool, true, false, List, length, get_or, set, replicate, refl, ap, ◌∙◌, sym, arith, length-set, ◌≢◌, ◌⊎◌, inl, inr}
use Rattle.std.specs.Prelude.{nat_lt}
use Rattle.std.proofs.lemmas.Bool.{cases_eq}
use Rattle.std.proofs.lemmas.Bool.Decides.{nat_tests}
use Rattle.std.proofs.lemmas.List.{ext_get_or, get_or-map, get_or-set_same, get_or-set_other, set-get_or, get_or-replicate, length-map, length-replicate}
use Rattle.var_order.specs.declared.heap.Heap.{Heap}
use Rattle.var_order.specs.Heap.{var_at, place_of, members_of, ArePlaced, HaveSwapped}

-- a heap may end elsewhere
pub resized : (count : ℕ) (h : Heap) (size : ℕ) → ArePlaced count h → size ≤ count → ArePlaced count (record h { size = size })
resized count h size placed within = record {
  vars = placed.vars;
  places = placed.places;
  size = within;
  few = placed.few;
  var_within = placed.var_within;
  place_back = placed.place_back;
  place_within = placed.place_within;
  var_back = placed.var_back;
}

members-len : (count : ℕ) (h : Heap) → ArePlaced count h → length (members_of h) ≡ count
members-len count h placed = length-map h.places.items (λ (place : ℕ). nat_lt place h.size) ∙ placed.places

-- whether a variable is in the heap
pub member : (count : ℕ) (h : Heap) (v : ℕ) → ArePlaced count h → v < count → get_or (members_of h) v false ≡ nat_lt (place_of h v) h.size
member count h v placed within = get_or-map (λ (place : ℕ). nat_lt place h.size) h.places.items v 0 false (omega (arith, placed.places))

-- the members are these, if they are so variable by variable
members_are : (count : ℕ) (h : Heap) (members : List Bool) → ArePlaced count h → length members ≡ count →
    ((v : ℕ) → v < count → nat_lt (place_of h v) h.size ≡ get_or members v false) → members_of h ≡ members
members_are count h members placed all each =
    ext_get_or false (members_of h) members (members-len count h placed ∙ sym all)
    (λ v within. let below : v < count = omega (arith, members-len count h placed) in member count h v placed below ∙ each v below)

-- where a variable stands after a swap: at the other place, if it stood at one of the two
data IsMoved (old new i j : ℕ) : Type 0 where
  to_second : old ≡ i → new ≡ j → IsMoved old new i j
  to_first : old ≡ j → new ≡ i → IsMoved old new i j
  stays : old ≢ i → old ≢ j → new ≡ old → IsMoved old new i j

moved : (count : ℕ) (old new : Heap) (i j v : ℕ) → ArePlaced count old → ArePlaced count new → HaveSwapped old new i j → i < count → j < count → v < count → IsMoved (place_of old v) (place_of new v) i j
moved count old new i j v before after swapped i_within j_within within = by_place (cases_eq (place_of old v) i) (cases_eq (place_of old v) j)
  where
    -- the variable stands where the new heap has it
    found : (place : ℕ) → place < count → var_at new place ≡ var_at old (place_of old v) → place_of new v ≡ place
    found place inside is = ap (place_of new) (sym (is ∙ before.var_back v within)) ∙ after.place_back place inside

    by_place : (place_of old v ≡ i) ⊎ (place_of old v ≢ i) → (place_of old v ≡ j) ⊎ (place_of old v ≢ j) → IsMoved (place_of old v) (place_of new v) i j
    by_place (inl is) _ = to_second is (found j j_within (swapped.second ∙ ap (var_at old) (sym is)))
    by_place (inr _) (inl is) = to_first is (found i i_within (swapped.first ∙ ap (var_at old) (sym is)))
    by_place (inr first) (inr second) = stays first second (found (place_of old v) (before.place_within v within) (swapped.others (place_of old v) first second))

-- a swap within the heap leaves the members
pub members_swapped : (count : ℕ) (old new : Heap) (i j : ℕ) → ArePlaced count old → ArePlaced count new → HaveSwapped old new i j → i < old.size → j < old.size → members_of new ≡ members_of old
members_swapped count old new i j before after swapped i_within j_within =
    members_are count new (members_of old) after (members-len count old before)
    (λ v within. both v (moved count old new i j v before after swapped (omega (arith, before.size)) (omega (arith, before.size)) within) ∙ sym (member count old v before within))
  where
    both : (v : ℕ) → IsMoved (place_of old v) (place_of new v) i j → nat_lt (place_of new v) new.size ≡ nat_lt (place_of old v) old.size
    both v (to_second was is) = let same = swapped.size in grind (arith, nat_tests)
    both v (to_first was is) = let same = swapped.size in grind (arith, nat_tests)
    both v (stays _ _ is) = let same = swapped.size in cc

-- the heap gets one place more, to which a variable comes
pub members_joined : (count : ℕ) (old new : Heap) (v : ℕ) → ArePlaced count old → ArePlaced count new → HaveSwapped old new (place_of old v) old.size → v < count → old.size ≤ place_of old v →
    members_of (record new { size = new.size + 1 }) ≡ set (members_of old) v true
members_joined count old new v before after swapped within out =
    members_are count (record new { size = new.size + 1 }) (set (members_of old) v true) grown (length-set (members_of old) v true ∙ len)
    (λ w inside. by_variable w inside (cases_eq w v))
  where
    room : old.size < count
    room = omega (arith, before.place_within v within)

    len : length (members_of old) ≡ count
    len = members-len count old before

    grown : ArePlaced count (record new { size = new.size + 1 })
    grown = resized count new (new.size + 1) after (omega (arith, room, swapped.size))

    -- the other variables
    other : (w : ℕ) → w < count → w ≢ v → IsMoved (place_of old w) (place_of new w) (place_of old v) old.size → nat_lt (place_of new w) (new.size + 1) ≡ nat_lt (place_of old w) old.size
    other w inside apart (to_second was is) = absurd (apart (sym (before.var_back w inside) ∙ ap (var_at old) was ∙ before.var_back v within))
    other w inside apart (to_first was is) = let same = swapped.size in grind (arith, nat_tests)
    other w inside apart (stays first second is) = let same = swapped.size in grind (arith, nat_tests)

    by_variable : (w : ℕ) → w < count → (w ≡ v) ⊎ (w ≢ v) → nat_lt (place_of new w) (new.size + 1) ≡ get_or (set (members_of old) v true) w false
    by_variable w inside (inl is) = itself (moved count old new (place_of old v) old.size v before after swapped (before.place_within v within) room within)
      where
        now_in : place_of new v ≡ old.size → nat_lt (place_of new w) (new.size + 1) ≡ get_or (set (members_of old) v true) w false
        now_in here = let same = swapped.size in let new_place : place_of new w ≡ old.size = ap (place_of new) is ∙ here in
            let inner : nat_lt (place_of new w) (new.size + 1) ≡ true = grind (arith, nat_tests) in
            inner ∙ sym (ap (λ (k : ℕ). get_or (set (members_of old) v true) k false) is ∙ get_or-set_same (members_of old) v true false (omega (arith, len)))

        itself : IsMoved (place_of old v) (place_of new v) (place_of old v) old.size → nat_lt (place_of new w) (new.size + 1) ≡ get_or (set (members_of old) v true) w false
        itself (to_second was here) = now_in here
        itself (to_first was here) = now_in (here ∙ was)
        itself (stays first second here) = absurd (first refl)
    by_variable w inside (inr apart) =
        other w inside apart (moved count old new (place_of old v) old.size w before after swapped (before.place_within v within) room inside)
        ∙ sym (get_or-set_other (members_of old) v w true false apart ∙ member count old w before inside)

-- the heap loses its last place, to which the variable of its top went
pub members_taken : (count : ℕ) (old new : Heap) (end : ℕ) → ArePlaced count old → ArePlaced count new → HaveSwapped old new 0 end → old.size ≡ end + 1 →
    members_of (record new { size = end }) ≡ set (members_of old) (var_at old 0) false
members_taken count old new end before after swapped last =
    members_are count (record new { size = end }) (set (members_of old) (var_at old 0) false) shrunk (length-set (members_of old) (var_at old 0) false ∙ len)
    (λ w inside. by_variable w inside (cases_eq w (var_at old 0)))
  where
    len : length (members_of old) ≡ count
    len = members-len count old before

    room : end < count
    room = omega (arith, before.size, last)

    top : var_at old 0 < count
    top = before.var_within 0 (omega (arith, room))

    shrunk : ArePlaced count (record new { size = end })
    shrunk = resized count new end after (omega (arith, room))

    top_back : place_of old (var_at old 0) ≡ 0
    top_back = before.place_back 0 (omega (arith, room))

    -- the other variables
    other : (w : ℕ) → w < count → w ≢ var_at old 0 → IsMoved (place_of old w) (place_of new w) 0 end → nat_lt (place_of new w) end ≡ nat_lt (place_of old w) old.size
    other w inside apart (to_second was is) = absurd (apart (sym (before.var_back w inside) ∙ ap (var_at old) was))
    other w inside apart (to_first was is) = by_end (cases_eq end 0)
      where
        by_end : (end ≡ 0) ⊎ (end ≢ 0) → nat_lt (place_of new w) end ≡ nat_lt (place_of old w) old.size
        by_end (inl none) = absurd (apart (sym (before.var_back w inside) ∙ ap (var_at old) (was ∙ none)))
        by_end (inr some) = grind (arith, nat_tests)
    other w inside apart (stays first second is) = grind (arith, nat_tests)

    by_variable : (w : ℕ) → w < count → (w ≡ var_at old 0) ⊎ (w ≢ var_at old 0) → nat_lt (place_of new w) end ≡ get_or (set (members_of old) (var_at old 0) false) w false
    by_variable w inside (inl is) =
        let here : var_at new end ≡ w = swapped.second ∙ sym is in
        let place : place_of new w ≡ end = ap (place_of new) (sym here) ∙ after.place_back end room in
        let outer : nat_lt (place_of new w) end ≡ false = grind (arith, nat_tests) in
        outer ∙ sym (ap (λ (k : ℕ). get_or (set (members_of old) (var_at old 0) false) k false) is ∙ get_or-set_same (members_of old) (var_at old 0) false false (omega (arith, len, top)))
    by_variable w inside (inr apart) =
        other w inside apart (moved count old new 0 end w before after swapped (omega (arith, room)) room inside)
        ∙ sym (get_or-set_other (members_of old) (var_at old 0) w false false apart ∙ member count old w before inside)

-- where the heap reaches over all places, each variable is in it
pub all_members : (count : ℕ) (h : Heap) → ArePlaced count h → h.size ≡ count → members_of h ≡ replicate count true
all_members count h placed all =
    members_are count h (replicate count true) placed (length-replicate count true)
    (λ v within. let inside = placed.place_within v within in
    let is : nat_lt (place_of h v) h.size ≡ true = grind (arith, nat_tests) in is ∙ sym (get_or-replicate count v true false within))

-- a variable that is in the heap need not come in
pub already_in : (count : ℕ) (h : Heap) (v : ℕ) → ArePlaced count h → v < count → place_of h v < h.size → members_of h ≡ set (members_of h) v true
already_in count h v placed within inside =
    let is : nat_lt (place_of h v) h.size ≡ true = grind (arith, nat_tests) in
    sym (ap (set (members_of h) v) (sym (member count h v placed within ∙ is)) ∙ set-get_or (members_of h) v false)
