-- What stands in groups to which items were dealt.
use Rattle.std.proofs.Common.{◌≡◌, ℕ, zero, suc, ◌+◌, ◌<◌, ◌%◌, List, [], ◌∷◌, ◌++◌, length, set, get_or, refl, ap, sym, ◌∙◌, subst, All, arith, append_assoc}
use Rattle.std.specs.Prelude.{Option, Some, None, slice_get, option_map, Vec}
use Rattle.crossbeam_utils.specs.declared.cache_padded.CachePadded.{CachePadded}
use Rattle.std.specs.Option.{option_to_list}
use Rattle.std.proofs.Math.Nat.{mod-lt}
use Rattle.std.proofs.lemmas.Option.{same_Some, none-some, slice_get-get_or, slice_get-map, slice_get_within}
use Rattle.std.proofs.lemmas.List.{length-set, length-append, length-map, map-set, get_or-set_same}
use Rattle.std.proofs.lemmas.List.Elements.{All-set, All-cons, All-nil, All-append, All-get_or, All-from_get_or, All-from_recursion, recursion_from_All}
use Rattle.crew.specs.Groups.{AreEach, AreDealt, list_of, lists_of}
use Rattle.crew.proofs.InTurn.{set_here}

-- == lists ==

-- what is put back in its place leaves the list as it was
pub set_back : {X : Type 0} (xs : List X) (i : ℕ) (x y : X) → slice_get xs i ≡ Some y → set (set xs i x) i y ≡ xs
set_back [] i x y at = absurd (none-some y at)
set_back (z ∷ zs) zero x y at = ap (λ w. w ∷ zs) (sym (same_Some z y at))
set_back (z ∷ zs) (suc i) x y at = ap (λ ws. z ∷ ws) (set_back zs i x y at)

-- two lists are the same where they are so up to their last items, and these are the same
pub last_same : {X : Type 0} (xs ys : List X) (x y : X) → xs ++ x ∷ [] ≡ ys ++ y ∷ [] → (xs ≡ ys) × (x ≡ y)
last_same [] [] x y same = (refl, cc)
last_same [] (b ∷ ys) x y same = absurd (omega (arith, ap length same, length-append ys (y ∷ [])))
last_same (a ∷ xs) [] x y same = absurd (omega (arith, ap length same, length-append xs (x ∷ [])))
last_same (a ∷ xs) (b ∷ ys) x y same =
    let head : a ≡ b = cc in
    let tail : xs ++ x ∷ [] ≡ ys ++ y ∷ [] = cc in
    let rest = last_same xs ys x y tail in
    (ap (λ z. z ∷ xs) head ∙ ap (λ zs. b ∷ zs) rest.0, rest.1)

-- == dealing ==

-- one more item, before those that are dealt, is laid on the group whose turn it is
pub dealt_more : {X : Type 0} (place : ℕ) (x : X) (later rest : List X) (groups : List (List X)) →
    slice_get groups (place % length groups) ≡ Some rest → AreDealt (place + 1) later groups →
    AreDealt place (x ∷ later) (set groups (place % length groups) (rest ++ x ∷ []))
dealt_more {X} place x later rest groups at dealt =
    let k = place % length groups in
    let more : List (List X) = set groups k (rest ++ x ∷ []) in
    let same : place % length more ≡ k = ap (λ n. place % n) (length-set groups k (rest ++ x ∷ [])) in (
      rest,
      ap (slice_get more) same ∙ set_here groups k (rest ++ x ∷ []) (slice_get_within groups k rest at),
      subst (AreDealt (place + 1) later) (sym (ap (λ i. set more i rest) same ∙ set_back groups k (rest ++ x ∷ []) rest at)) dealt,
    )

-- == lists that agree place by place ==

pub each_none : {X Y : Type 0} (R : X → Y → Type 0) → AreEach R [] []
each_none R = record { same_length = refl; each = λ i x y at other. absurd (none-some x at) }

pub each_cons : {X Y : Type 0} (R : X → Y → Type 0) (x : X) (y : Y) (xs : List X) (ys : List Y) → R x y → AreEach R xs ys → AreEach R (x ∷ xs) (y ∷ ys)
each_cons {X} {Y} R x y xs ys first later = record { same_length = ap suc later.same_length; each = by_place }
  where
    by_place : (i : ℕ) (a : X) (b : Y) → slice_get (x ∷ xs) i ≡ Some a → slice_get (y ∷ ys) i ≡ Some b → R a b
    by_place zero a b at other = subst (R a) (same_Some y b other) (subst (λ c. R c y) (same_Some x a at) first)
    by_place (suc i) a b at other = later.each i a b at other

pub each_tail : {X Y : Type 0} (R : X → Y → Type 0) (x : X) (y : Y) (xs : List X) (ys : List Y) → AreEach R (x ∷ xs) (y ∷ ys) → AreEach R xs ys
each_tail R x y xs ys each = record { same_length = omega (arith, each.same_length); each = λ i a b at other. each.each (suc i) a b at other }

pub each_head : {X Y : Type 0} (R : X → Y → Type 0) (x : X) (y : Y) (xs : List X) (ys : List Y) → AreEach R (x ∷ xs) (y ∷ ys) → R x y
each_head R x y xs ys each = each.each 0 x y refl refl

pub each_set : {X Y : Type 0} (R : X → Y → Type 0) (xs : List X) (ys : List Y) (i : ℕ) (x : X) (y : Y) → AreEach R xs ys → R x y → AreEach R (set xs i x) (set ys i y)
each_set R [] [] i x y each here = each
each_set R [] (b ∷ ys) i x y each here = absurd (omega (arith, each.same_length))
each_set R (a ∷ xs) [] i x y each here = absurd (omega (arith, each.same_length))
each_set R (a ∷ xs) (b ∷ ys) zero x y each here = each_cons R x y xs ys here (each_tail R a b xs ys each)
each_set R (a ∷ xs) (b ∷ ys) (suc i) x y each here =
    each_cons R a b (set xs i x) (set ys i y) (each_head R a b xs ys each) (each_set R xs ys i x y (each_tail R a b xs ys each) here)

-- a list that agrees with one that has a last item has one too
pub record EndsAs {X Y : Type 0} (R : X → Y → Type 0) (xs : List X) (x : X) (ys : List Y) : Type 0 where
  pub rest : List Y
  pub end : Y
  pub same : ys ≡ rest ++ end ∷ []
  pub before : AreEach R xs rest
  pub here : R x end

pub ends_as : {X Y : Type 0} (R : X → Y → Type 0) (xs : List X) (x : X) (ys : List Y) → AreEach R (xs ++ x ∷ []) ys → EndsAs R xs x ys
ends_as R [] x [] each = absurd (omega (arith, each.same_length))
ends_as R [] x (y ∷ []) each = record { rest = []; end = y; same = refl; before = each_none R; here = each_head R x y [] [] each }
ends_as R [] x (y ∷ z ∷ ys) each = absurd (omega (arith, each.same_length))
ends_as R (a ∷ xs) x [] each = absurd (omega (arith, each.same_length))
ends_as R (a ∷ xs) x (y ∷ ys) each =
    let inner = ends_as R xs x ys (each_tail R a y (xs ++ x ∷ []) ys each) in
    record {
      rest = y ∷ inner.rest;
      end = inner.end;
      same = ap (λ zs. y ∷ zs) inner.same;
      before = each_cons R a y xs inner.rest (each_head R a y (xs ++ x ∷ []) ys each) inner.before;
      here = inner.here;
    }

-- == what is done to the items in their groups is done to the items ==

no_items : {X : Type 0} (xs : List X) → length xs ≡ 0 → xs ≡ []
no_items [] none = refl
no_items (x ∷ xs) none = absurd (omega (arith, none))

-- groups that agree with empty ones are empty
each_empty : {X : Type 0} (R : X → X → Type 0) (groups changed : List (List X)) → All (λ (group : List X). group ≡ []) groups → AreEach (AreEach R) groups changed →
    All (λ (group : List X). group ≡ []) changed
each_empty {X} R groups changed empty each =
    All-from_get_or (λ (group : List X). group ≡ []) changed [] (λ i within.
    let below : i < length groups = omega (arith, within, each.same_length) in
    let agree = each.each i (get_or groups i []) (get_or changed i []) (slice_get-get_or groups i [] below) (slice_get-get_or changed i [] within) in
    no_items (get_or changed i []) (agree.same_length ∙ ap length (All-get_or (λ (group : List X). group ≡ []) groups i [] below empty)))

pub dealt_each : {X : Type 0} (R : X → X → Type 0) (place : ℕ) (xs : List X) (groups changed : List (List X)) → AreDealt place xs groups → AreEach (AreEach R) groups changed →
    (ys : List X) × AreDealt place ys changed × AreEach R xs ys
dealt_each R place [] groups changed empty each = ([], each_empty R groups changed empty each, each_none R)
dealt_each R place (x ∷ later) groups changed dealt each =
    let k = place % length groups in
    let rest = dealt.0 in
    let below : k < length changed = omega (arith, slice_get_within groups k (rest ++ x ∷ []) dealt.1, each.same_length) in
    let there = slice_get-get_or changed k [] below in
    let ends = ends_as R rest x (get_or changed k []) (each.each k (rest ++ x ∷ []) (get_or changed k []) dealt.1 there) in
    let inner = dealt_each R (place + 1) later (set groups k rest) (set changed k ends.rest) dealt.2
    (each_set (AreEach R) groups changed k rest ends.rest each ends.before) in
    let same : place % length changed ≡ k = ap (λ n. place % n) each.same_length in (
      ends.end ∷ inner.0,
      (ends.rest, ap (slice_get changed) same ∙ there ∙ ap Some ends.same, subst (AreDealt (place + 1) inner.0) (sym (ap (λ i. set changed i ends.rest) same)) inner.1),
      each_cons R x ends.end later inner.0 ends.here inner.2,
    )

-- what holds of all items holds of all in the groups
pub dealt_all : {X : Type 0} (P : X → Type 0) (place : ℕ) (xs : List X) (groups : List (List X)) → AreDealt place xs groups → All P xs → All (All P) groups
dealt_all {X} P place [] groups empty all =
    All-from_get_or (All P) groups [] (λ i within. subst (All P) (sym (All-get_or (λ (group : List X). group ≡ []) groups i [] within empty)) (All-nil P))
dealt_all P place (x ∷ later) groups dealt all =
    let k = place % length groups in
    let rest = dealt.0 in
    let within = slice_get_within groups k (rest ++ x ∷ []) dealt.1 in
    let parts = recursion_from_All P (x ∷ later) all in
    let inner = dealt_all P (place + 1) later (set groups k rest) dealt.2 (All-from_recursion P later parts.1) in
    let held : All P rest = subst (All P) (get_or-set_same groups k rest [] within)
    (All-get_or (All P) (set groups k rest) k [] (omega (arith, within, length-set groups k rest)) inner) in
    subst (All (All P)) (set_back groups k rest (rest ++ x ∷ []) dealt.1)
    (All-set (All P) (set groups k rest) k (rest ++ x ∷ []) (All-append P rest (x ∷ []) held (All-cons P x [] parts.0 (All-nil P))) inner)

-- == the groups of the code ==

-- what the list of groups holds after one of them was changed
pub lists_set : {X A : Type 0} (groups : List (CachePadded (Vec X A))) (i : ℕ) (group : CachePadded (Vec X A)) → lists_of (set groups i group) ≡ set (lists_of groups) i (list_of group)
lists_set {X} {A} groups i group = map-set list_of groups i group

pub list_at : {X A : Type 0} (groups : List (CachePadded (Vec X A))) (i : ℕ) (d : CachePadded (Vec X A)) → i < length groups → slice_get (lists_of groups) i ≡ Some (list_of (get_or groups i d))
list_at {X} {A} groups i d within =
    slice_get-map list_of groups i ∙ ap (option_map list_of) (slice_get-get_or groups i d within)

pub length-lists : {X A : Type 0} (groups : List (CachePadded (Vec X A))) → length (lists_of groups) ≡ length groups
length-lists {X} {A} groups = length-map groups list_of

-- an item was taken off the list and laid on the group whose turn it is
pub deal_step : {X A : Type 0} (items all : List X) (x : X) (groups : List (CachePadded (Vec X A))) (place count : ℕ) (d group : CachePadded (Vec X A)) → 0 < count → count ≡ length groups →
    place ≡ length items → (list_of group) ≡ (list_of (get_or groups (place % count) d)) ++ x ∷ [] →
    ((later : List X) × ((items ++ x ∷ []) ++ later ≡ all) × AreDealt (length (items ++ x ∷ [])) later (lists_of groups)) →
    (later : List X) × (items ++ later ≡ all) × AreDealt (length items) later (lists_of (set groups (place % count) group))
deal_step {X} {A} items all x groups place count d group some same is laid (later, whole, dealt) =
    let k = place % count in
    let within : k < length groups = omega (arith, mod-lt place some, same) in
    let here : length items % length (lists_of groups) ≡ k = ap (λ m. length items % m) (length-lists groups ∙ sym same) ∙ ap (λ p. p % count) (sym is) in
    let held = (list_of (get_or groups k d)) in (
      x ∷ later,
      sym (append_assoc items (x ∷ []) later) ∙ whole,
      subst (AreDealt (length items) (x ∷ later))
          (ap (λ i. set (lists_of groups) i (held ++ x ∷ [])) here ∙ ap (set (lists_of groups) k) (sym laid) ∙ sym (lists_set groups k group))
          (dealt_more (length items) x later held (lists_of groups) (ap (slice_get (lists_of groups)) here ∙ list_at groups k d within)
          (subst (λ p. AreDealt p later (lists_of groups)) (length-append items (x ∷ [])) dealt)),
    )

-- an item was taken off the group whose turn it is, and put behind those that were gathered
pub gather_step : {X A : Type 0} (items after dealt : List X) (groups : List (CachePadded (Vec X A))) (place count total : ℕ) (d group : CachePadded (Vec X A)) (taken : Option X) →
    0 < count → count ≡ length groups → place < total → length dealt ≡ total →
    (list_of (get_or groups (place % count) d)) ≡ (list_of group) ++ option_to_list taken →
    (taken ≡ None → length (list_of (get_or groups (place % count) d)) ≡ 0) →
    after ≡ items ++ option_to_list taken →
    ((later : List X) × (items ++ later ≡ dealt) × (length items ≡ place) × AreDealt place later (lists_of groups)) →
    (later : List X) × (after ++ later ≡ dealt) × (length after ≡ place + 1) × AreDealt (place + 1) later (lists_of (set groups (place % count) group))
gather_step {X} {A} items after dealt groups place count total d group taken some same below long left none grown ([], whole, here, empty) =
    absurd (omega (arith, ap length whole, length-append items [], here, below, long))
gather_step {X} {A} items after dealt groups place count total d group taken some same below long left none grown (x ∷ later, whole, here, (rest, at, more)) = by_taken taken left none grown
  where
    k : ℕ
    k = place % count

    turn : place % length (lists_of groups) ≡ place % count
    turn = ap (λ n. place % n) (length-lists groups ∙ sym same)

    held : List X
    held = (list_of (get_or groups (place % count) d))

    held_is : held ≡ rest ++ x ∷ []
    held_is = same_Some held (rest ++ x ∷ []) (sym (list_at groups (place % count) d (omega (arith, mod-lt place some, same))) ∙ ap (slice_get (lists_of groups)) (sym turn) ∙ at)

    by_taken : (taken : Option X) → held ≡ (list_of group) ++ option_to_list taken → (taken ≡ None → length held ≡ 0) → after ≡ items ++ option_to_list taken →
        (later : List X) × (after ++ later ≡ dealt) × (length after ≡ place + 1) × AreDealt (place + 1) later (lists_of (set groups (place % count) group))
    by_taken None left none grown = absurd (omega (arith, none refl, ap length held_is, length-append rest (x ∷ [])))
    by_taken (Some y) left none grown =
        let both = last_same rest (list_of group) x y (sym held_is ∙ left) in (
          later,
          ap (λ xs. xs ++ later) (grown ∙ ap (λ z. items ++ z ∷ []) (sym both.1)) ∙ append_assoc items (x ∷ []) later ∙ whole,
          ap length grown ∙ length-append items (y ∷ []) ∙ ap (λ n. n + 1) here,
          subst (AreDealt (place + 1) later)
              (ap (λ i. set (lists_of groups) i rest) turn ∙ ap (set (lists_of groups) (place % count)) both.0 ∙ sym (lists_set groups (place % count) group)) more,
        )

-- where the groups agree place by place, so do their lists
pub each_list : {X A : Type 0} (R : List X → List X → Type 0) (groups changed : List (CachePadded (Vec X A))) → length changed ≡ length groups →
    ((i : ℕ) (d : CachePadded (Vec X A)) → i < length groups → R (list_of (get_or groups i d)) (list_of (get_or changed i d))) →
    AreEach R (lists_of groups) (lists_of changed)
each_list R [] [] lengths each = each_none R
each_list R [] (c ∷ changed) lengths each = absurd (omega (arith, lengths))
each_list R (g ∷ groups) [] lengths each = absurd (omega (arith, lengths))
each_list R (g ∷ groups) (c ∷ changed) lengths each =
    each_cons R (list_of g) (list_of c) (lists_of groups) (lists_of changed) (each 0 g (omega arith))
    (each_list R groups changed (omega (arith, lengths)) (λ i d within. each (suc i) d (omega (arith, within))))

-- what holds of the items of all lists holds of those of all groups
pub all_groups : {X A : Type 0} (P : X → Type 0) (groups : List (CachePadded (Vec X A))) → All (All P) (lists_of groups) → All (λ (group : CachePadded (Vec X A)). All P (list_of group)) groups
all_groups {X} {A} P [] all = All-nil (λ (group : CachePadded (Vec X A)). All P (list_of group))
all_groups {X} {A} P (g ∷ groups) all =
    let parts = recursion_from_All (All P) (list_of g ∷ lists_of groups) all in
    All-cons (λ (group : CachePadded (Vec X A)). All P (list_of group)) g groups parts.0 (all_groups P groups (All-from_recursion (All P) (lists_of groups) parts.1))
