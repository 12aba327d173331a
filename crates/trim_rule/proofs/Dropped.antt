-- What holds of the clauses that a reduction drops.
use Rattle.std.proofs.Common.{◌≡◌, ℕ, zero, suc, ◌<◌, inl, inr, Bool, true, false, not, ◌&&◌, ◌||◌, List, [], ◌∷◌, ◌++◌, length, map, take, drop, refl, ap, sym, ◌∙◌, subst, arith}
use Rattle.std.specs.Prelude.{filter, nat_lt, Option, Some, None, is_some, IsSome, IfSome, Contains}
use Rattle.std.specs.List.{AllByRecursion, IsDistinct}
use Rattle.std.specs.List.Sorted.{IsPermutation}
use Rattle.std.proofs.lemmas.Bool.{cond_both, and_parts, or_parts, both_ways}
use Rattle.std.proofs.lemmas.Bool.Decides.{nat_tests}
use Rattle.std.proofs.lemmas.List.{length-map, length-take-le, take-append-drop, take_at}
use Rattle.std.proofs.lemmas.List.Elements.{All-from_recursion, All-contains, Contains-append_cases}
use Rattle.std.proofs.lemmas.List.Sorted.{length_permutation, Contains-permutation}
use Rattle.lit_base.specs.Literal.{Literal}
use Rattle.lit_base.specs.Named.{same_name, lits_at}
use Rattle.lit_base.specs.Rounds.{NamedClause}
use Rattle.lit_base.specs.Held.{HeldClause, clauses_of, is_before, is_original, is_among}
use Rattle.lit_base.specs.Analysis.{is_reason}
use Rattle.lit_base.specs.declared.trail.Entry.{Entry}
use Rattle.lit_base.specs.declared.name.Name.{Name}
use Rattle.lit_base.proofs.Lists.{each_when}
use Rattle.lit_base.proofs.NameOrder.{before_differs}
use Rattle.clause_pool.specs.declared.tally.Tally.{Tally}
use Rattle.clause_pool.specs.Tallies.{tally_of}
use Rattle.clause_pool.specs.Rising.{AreRising, IsOrdered}
use Rattle.clause_pool.proofs.Placing.{same_name-sym}
use Rattle.trim_rule.specs.Reduction.{is_reason_on, is_candidate, candidates, goes_before, in_order, dropped_count, dropped_clauses, dropped_names}
use Rattle.trim_rule.specs.Laws.{MayGo, OnlyCandidatesGo, HaveOtherReasons, ReasonsStay, HalfGoes, EarlierGoToo, HeldLemmasGo, IsInOrder, AreDetermined}
use Rattle.trim_rule.proofs.InOrder.{all-in_order, ordered-in_order, permuted-in_order, ordered_parts, same_in_order, times-moved, distinct-in_order}
use Rattle.trim_rule.proofs.Ranking.{ranks, exact}

-- == each may go ==

not_true : (b : Bool) → not b ≡ true → b ≡ false
not_true false is = refl
not_true true is = sym is

longer : (n : ℕ) → nat_lt 2 n ≡ true → 2 < n
longer n is = grind (arith, nat_tests)

no_reasons : (n : Name) (trail : List Entry) → is_reason_on trail n ≡ false → AllByRecursion (λ e. is_reason n e.reason ≡ false) trail
no_reasons n [] none = tt
no_reasons n (e ∷ older) none = let parts = or_parts (is_reason n e.reason) (is_reason_on older n) none in (parts.0, no_reasons n older parts.1)

may_go : (held : List HeldClause) (trail : List Entry) (c : HeldClause) → Contains held c → is_candidate trail c ≡ true → MayGo held trail c.name
may_go held trail c stands is =
    let outer = and_parts (not (is_original c.name)) (nat_lt 2 (length c.lits) && not (is_reason_on trail c.name)) is in
    let inner = and_parts (nat_lt 2 (length c.lits)) (not (is_reason_on trail c.name)) outer.1 in
    record {
      clause = c;
      stands = stands;
      named = refl;
      lemma = not_true (is_original c.name) outer.0;
      long = longer (length c.lits) inner.0;
      needless = no_reasons c.name trail (not_true (is_reason_on trail c.name) inner.1);
    }

each_may_go : (all held : List HeldClause) (trail : List Entry) → ((c : HeldClause) → Contains held c → Contains all c) → AllByRecursion (λ t. MayGo all trail t.name) (candidates held trail)
each_may_go all [] trail among = tt
each_may_go all (c ∷ later) trail among =
    let rest = each_may_go all later trail (λ d at. among d (suc at.0, omega (arith, at.1), at.2)) in
    cond_both (is_candidate trail c) (c ∷ filter (is_candidate trail) later) (filter (is_candidate trail) later) (λ cs. AllByRecursion (λ t. MayGo all trail t.name) (map tally_of cs))
    (λ is. (may_go all trail c (among c (0, omega arith, refl)) is, rest)) (λ other. rest)

all_taken : {X : Type 0} (P : X → Type 0) (n : ℕ) (xs : List X) → AllByRecursion P xs → AllByRecursion P (take n xs)
all_taken P zero xs all = tt
all_taken P (suc n) [] all = tt
all_taken P (suc n) (x ∷ xs) all = (all.0, all_taken P n xs all.1)

all_names : (P : Name → Type 0) (ts : List Tally) → AllByRecursion (λ t. P t.name) ts → AllByRecursion P (map (λ t. t.name) ts)
all_names P [] all = tt
all_names P (t ∷ ts) all = (all.0, all_names P ts all.1)

-- by recursion, as the other laws have it
each_name : (held : List HeldClause) (trail : List Entry) → AllByRecursion (MayGo held trail) (dropped_names held trail)
each_name held trail =
    all_names (MayGo held trail) (dropped_clauses held trail)
    (all_taken (λ t. MayGo held trail t.name) (dropped_count held trail) (in_order goes_before (candidates held trail))
    (all-in_order goes_before (λ t. MayGo held trail t.name) (candidates held trail) (each_may_go held held trail (λ c at. at))))

pub only_candidates_go : OnlyCandidatesGo
only_candidates_go held trail = All-from_recursion (MayGo held trail) (dropped_names held trail) (each_name held trail)

-- == reasons stay ==

none_among : (names : List Name) (r : Name) → AllByRecursion (λ n. same_name r n ≡ false) names → is_among names r ≡ false
none_among [] r all = refl
none_among (n ∷ names) r all = ap (λ b. b || is_among names r) (same_name-sym n r ∙ all.0) ∙ none_among names r all.1

one_reason : (names : List Name) (o : Option Name) → AllByRecursion (λ n. is_reason n o ≡ false) names → IfSome o (λ r. is_among names r ≡ false)
one_reason names None all = tt
one_reason names (Some r) all = none_among names r all

other_reasons : (names : List Name) (trail : List Entry) → AllByRecursion (λ n. AllByRecursion (λ e. is_reason n e.reason ≡ false) trail) names → HaveOtherReasons trail names
other_reasons names [] all = tt
other_reasons names (e ∷ older) all = (
  one_reason names e.reason
      (each_when (λ n. AllByRecursion (λ f. is_reason n f.reason ≡ false) (e ∷ older)) (λ n. is_reason n e.reason ≡ false) (λ n none. none.0) names all),
  other_reasons names older
      (each_when (λ n. AllByRecursion (λ f. is_reason n f.reason ≡ false) (e ∷ older)) (λ n. AllByRecursion (λ f. is_reason n f.reason ≡ false) older) (λ n none. none.1) names all),
)

pub reasons_stay : ReasonsStay
reasons_stay held trail =
    other_reasons (dropped_names held trail) trail
    (each_when (MayGo held trail) (λ n. AllByRecursion (λ e. is_reason n e.reason ≡ false) trail) (λ n may. may.needless) (dropped_names held trail) (each_name held trail))

-- == half goes ==

half_taken : (held : List HeldClause) (trail : List Entry) → length (dropped_clauses held trail) ≡ dropped_count held trail
half_taken held trail =
    length-take-le (dropped_count held trail) (in_order goes_before (candidates held trail))
    (omega (arith, length_permutation (candidates held trail) (in_order goes_before (candidates held trail)) (permuted-in_order goes_before (candidates held trail))))

pub half_goes : HalfGoes
half_goes held trail = length-map (dropped_clauses held trail) (λ t. t.name) ∙ half_taken held trail

-- == earlier ones go too ==

pub earlier_go_too : EarlierGoToo
earlier_go_too held trail t d candidate dropped before =
    let order = in_order goes_before (candidates held trail) in
    let n = dropped_count held trail in
    let split : take n order ++ drop n order ≡ order = take-append-drop n order in
    let stands : Contains (take n order ++ drop n order) t =
    subst (λ ts. Contains ts t) (sym split) (Contains-permutation (candidates held trail) order t (permuted-in_order goes_before (candidates held trail)) candidate) in
    let apart = ordered_parts goes_before (take n order) (drop n order) (subst (IsInOrder goes_before) (sym split) (ordered-in_order goes_before ranks (candidates held trail))) in
    elim (Contains-append_cases (take n order) (drop n order) t stands) [
      | inl front ↦ front
      | inr back ↦
          let behind = All-contains (λ x. AllByRecursion (λ y. goes_before y x ≡ false) (drop n order)) (take n order) d
          (All-from_recursion (λ x. AllByRecursion (λ y. goes_before y x ≡ false) (drop n order)) (take n order) apart) dropped in
          absurd (both_ways (goes_before t d) (All-contains (λ y. goes_before y d ≡ false) (drop n order) t (All-from_recursion (λ y. goes_before y d ≡ false) (drop n order) behind) back) before)
    ]

-- == held lemmas go, each once ==

found_here : (look : Name → Option (List Literal)) (held : List HeldClause) → AllByRecursion (λ (c : NamedClause). look c.name ≡ Some c.lits) (clauses_of held) →
    AllByRecursion (λ (c : HeldClause). look c.name ≡ Some c.lits) held
found_here look [] all = tt
found_here look (c ∷ later) all = (all.0, found_here look later all.1)

is_held : (held : List HeldClause) (trail : List Entry) (name : Name) → IsOrdered held → MayGo held trail name → IsSome (lits_at (clauses_of held) name)
is_held held trail name ordered may =
    let look = lits_at (clauses_of held) in
    let found = All-contains (λ (c : HeldClause). look c.name ≡ Some c.lits) held may.clause
    (All-from_recursion (λ (c : HeldClause). look c.name ≡ Some c.lits) held (found_here look held ordered.found)) may.stands in
    ap (λ n. is_some (look n)) (sym may.named) ∙ ap is_some found

-- whether two tallies are of one name
abbrev same_tally : Tally → Tally → Bool
same_tally t u = same_name t.name u.name

others_differ : (n : Name) (test : HeldClause → Bool) (held : List HeldClause) → AllByRecursion (λ (d : HeldClause). is_before n d.name ≡ true) held →
    AllByRecursion (λ (t : Tally). same_name n t.name ≡ false) (map tally_of (filter test held))
others_differ n test [] all = tt
others_differ n test (d ∷ later) all =
    cond_both (test d) (d ∷ filter test later) (filter test later) (λ cs. AllByRecursion (λ (t : Tally). same_name n t.name ≡ false) (map tally_of cs))
    (λ is. (before_differs n d.name all.0, others_differ n test later all.1)) (λ other. others_differ n test later all.1)

distinct_candidates : (held : List HeldClause) (trail : List Entry) → AreRising held → IsDistinct same_tally (candidates held trail)
unfolding IsDistinct
distinct_candidates [] trail rising = tt
distinct_candidates (c ∷ later) trail rising =
    cond_both (is_candidate trail c) (c ∷ filter (is_candidate trail) later) (filter (is_candidate trail) later) (λ cs. IsDistinct same_tally (map tally_of cs))
    (λ is. (others_differ c.name (is_candidate trail) later rising.0, distinct_candidates later trail rising.1)) (λ other. distinct_candidates later trail rising.1)

distinct_taken : {X : Type 0} (e : X → X → Bool) (n : ℕ) (xs : List X) → IsDistinct e xs → IsDistinct e (take n xs)
unfolding IsDistinct
distinct_taken e zero xs distinct = tt
distinct_taken e (suc n) [] distinct = tt
distinct_taken e (suc n) (x ∷ xs) distinct = (all_taken (λ y. e x y ≡ false) n xs distinct.0, distinct_taken e n xs distinct.1)

distinct_names : (ts : List Tally) → IsDistinct same_tally ts → IsDistinct same_name (map (λ t. t.name) ts)
unfolding IsDistinct
distinct_names [] distinct = tt
distinct_names (t ∷ ts) distinct = (all_names (λ n. same_name t.name n ≡ false) ts distinct.0, distinct_names ts distinct.1)

pub held_lemmas_go : HeldLemmasGo
held_lemmas_go held trail ordered = record {
  stand = λ k d below. is_held held trail _ ordered (only_candidates_go held trail k d below);
  distinct = distinct_names (dropped_clauses held trail)
      (distinct_taken same_tally (dropped_count held trail) (in_order goes_before (candidates held trail))
      (distinct-in_order goes_before same_tally (λ t u. same_name-sym t.name u.name) (candidates held trail) (distinct_candidates held trail ordered.rising)));
  lemmas = λ k d below. (only_candidates_go held trail k d below).lemma;
}

-- == no other half is such ==

pub are_determined : AreDetermined
are_determined held trail =
    let cs = candidates held trail in
    let order = in_order goes_before cs in
    let n = dropped_count held trail in
    let split : take n order ++ drop n order ≡ order = take-append-drop n order in
    record {
      is = record {
        kept = drop n order;
        all = subst (IsPermutation cs) (sym split) (permuted-in_order goes_before cs);
        ordered = subst (IsInOrder goes_before) (sym split) (ordered-in_order goes_before ranks cs);
        half = half_taken held trail;
      };
      only = λ dropped half.
          let whole : dropped ++ half.kept ≡ order = same_in_order goes_before ranks exact (dropped ++ half.kept) order half.ordered (ordered-in_order goes_before ranks cs)
          (λ m. times-moved goes_before m cs (dropped ++ half.kept) half.all ∙ sym (times-moved goes_before m cs order (permuted-in_order goes_before cs))) in
          sym (take_at dropped half.kept n half.half) ∙ ap (take n) whole;
    }
