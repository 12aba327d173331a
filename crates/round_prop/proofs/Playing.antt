-- What the scripts of the tests keep: decisions, jumps, and clauses that are neither unit nor falsified.
use Rattle.std.proofs.Common.{◌≡◌, ◌⊎◌, ℕ, ◌+◌, ◌<◌, Bool, true, false, cond, not, ◌||◌, List, [], ◌∷◌, ◌++◌, length, length-set, get_or, take, All, refl, inl, inr, ap, sym, ◌∙◌, subst, arith}
use Rattle.std.specs.Prelude.{zero, suc, ◌≤◌, Option, Some, None, IsTrue, IsFalse, is_some, find, nat_le}
use Rattle.std.specs.List.{list_any, AllByRecursion}
use Rattle.std.proofs.lemmas.Bool.{cases_Bool, cond_both}
use Rattle.std.proofs.lemmas.Option.{same_Some}
use Rattle.std.proofs.lemmas.List.Elements.{All-head, All-tail}
use Rattle.std.proofs.lemmas.List.Folds.{list_any_more}
use Rattle.lit_base.specs.Literal.{Literal, IsWithin, same}
use Rattle.lit_base.specs.Trail.{level_now, is_true, is_false}
use Rattle.lit_base.specs.Backjump.{cut, with_saved, saved_after}
use Rattle.lit_base.specs.Rounds.{NamedClause, Propagated, conflict_of, round_by, round, rounds, is_last}
use Rattle.lit_base.specs.Named.{same_name, lits_at}
use Rattle.lit_base.specs.Held.{clauses_of, is_among}
use Rattle.lit_base.specs.Fits.{FindsAll}
use Rattle.lit_base.specs.Quiet.{IsQuiet, AreQuiet}
use Rattle.lit_base.specs.declared.trail.Entry.{Entry}
use Rattle.lit_base.specs.declared.name.Name.{Name}
use Rattle.lit_base.proofs.FixedPoint.{with_units_front}
use Rattle.lit_base.proofs.HeldClauses.{same_name-true}
use Rattle.lit_base.proofs.Known.{same_itself}
use Rattle.lit_base.proofs.NameOrder.{rising_found}
use Rattle.clause_pool.specs.Spans.{PoolState}
use Rattle.trail_book.specs.TrailState.{TrailState, decided, jumped}
use Rattle.round_prop.specs.Attached.{RoundsState, IsAttached, IsAttachedTo, IsSettled}
use Rattle.round_prop.specs.Linked.{IsPart, IsOther}
use Rattle.round_prop.specs.Pairs.{pairs_of}
use Rattle.round_prop.specs.Spanned.{IsPlacedIn}
use Rattle.round_prop.specs.Propagation.{MayPropagate, HasPropagated}
use Rattle.round_prop.specs.declared.found.Found.{Found}
use Rattle.round_prop.proofs.LinkSteps.{true_quiet, guarded_quiet}
use Rattle.round_prop.proofs.OlderParts.{part_itself, part_of_part, nested}
use Rattle.round_prop.proofs.Seen.{seen_all}

-- a decision is one entry more that wasn't seen
pub may-decided : (r : RoundsState) (pool : PoolState) (trail : TrailState) (l : Literal) → MayPropagate r pool trail → MayPropagate r pool (decided l trail)
may-decided r pool trail l before =
    let b = before.attached in
    let e : Entry = record { lit = l; level = level_now trail.entries + 1; reason = None } in
    record {
      attached = record { fresh = b.fresh; seen = b.seen; newer = e ∷ b.newer; attached = b.attached; older = ap (λ t. e ∷ t) b.older };
      placed = before.placed;
      variables = before.variables;
      within = before.within;
    }

-- a cut trail is an older part
cut_part : (level : ℕ) (trail : List Entry) → IsPart trail (cut level trail)
cut_part level [] = part_itself []
cut_part level (e ∷ older) =
    cond_both (nat_le e.level level) (e ∷ older) (cut level older) (λ t. IsPart (e ∷ older) t) (λ stays. part_itself (e ∷ older))
    (λ leaves. let rest = cut_part level older in record { newer = e ∷ rest.newer; front = ap (λ t. e ∷ t) rest.front })

-- a jump keeps the number of saved values
length-saved_after : (level : ℕ) (trail : List Entry) (saved : List (Option Bool)) → length (saved_after level trail saved) ≡ length saved
length-saved_after level [] saved = refl
length-saved_after level (e ∷ older) saved =
    cond_both (nat_le e.level level) saved (saved_after level older (with_saved e saved)) (λ after. length after ≡ length saved) (λ stays. refl)
    (λ leaves. length-saved_after level older (with_saved e saved) ∙ length-set saved _ (Some e.lit.positive))

quiet_settled : (trail : List Entry) (fresh : List Name) (clauses : List NamedClause) → AreQuiet trail clauses → AllByRecursion (λ c. IsFalse (is_among fresh c.name) → IsQuiet trail c.lits) clauses
quiet_settled trail fresh [] quiet = tt
quiet_settled trail fresh (c ∷ others) quiet = (λ new. quiet.0, quiet_settled trail fresh others quiet.1)

-- after a jump that was told, where no clause is unit or falsified or no entry is left
pub may-cut : (pool : PoolState) (trail after : TrailState) (level : ℕ) (r s : RoundsState) → after ≡ jumped level trail →
    ((attached : List NamedClause) (fresh : List Name) (seen more : List Entry) → IsAttached r attached fresh seen → seen ≡ more ++ after.entries → IsSettled after.entries attached fresh →
    IsAttached s attached fresh after.entries) →
    ((attached : List NamedClause) (fresh : List Name) (seen more : List Entry) → IsAttached r attached fresh seen → after.entries ≡ more ++ seen → IsAttached s attached fresh seen) →
    ((added : List NamedClause) → IsPlacedIn r added → IsPlacedIn s added) → s.variables ≡ r.variables → (after.entries ≡ []) ⊎ AreQuiet after.entries (clauses_of pool.held) → MayPropagate r pool trail → MayPropagate s pool after
may-cut pool trail after level r s is told above places same settled before =
    let saved : length after.saved ≡ length trail.saved = ap (λ (t : TrailState). length t.saved) is ∙ length-saved_after level trail.entries trail.saved in
    let part : IsPart trail.entries after.entries = subst (λ (t : TrailState). IsPart trail.entries t.entries) (sym is) (cut_part level trail.entries) in
    record {
      attached = by_parts (nested trail.entries before.attached.seen after.entries (record { newer = before.attached.newer; front = before.attached.older }) part);
      placed = places pool.added before.placed;
      variables = same ∙ (before.variables ∙ sym saved);
      within = subst (λ n. All (λ (c : NamedClause). All (IsWithin n) c.lits) (clauses_of pool.held)) (sym saved) before.within;
    }
  where
    calm : (after.entries ≡ []) ⊎ AreQuiet after.entries (clauses_of pool.held) → IsSettled after.entries (clauses_of pool.held) before.attached.fresh
    calm (inl none) = inl none
    calm (inr quiet) = inr (quiet_settled after.entries before.attached.fresh (clauses_of pool.held) quiet)

    by_parts : IsPart before.attached.seen after.entries ⊎ IsPart after.entries before.attached.seen → IsAttachedTo s (clauses_of pool.held) after.entries
    by_parts (inl rest) = record {
      fresh = before.attached.fresh;
      seen = after.entries;
      newer = [];
      attached = told (clauses_of pool.held) before.attached.fresh before.attached.seen rest.newer before.attached.attached rest.front (calm settled);
      older = refl;
    }
    by_parts (inr rest) = record {
      fresh = before.attached.fresh;
      seen = before.attached.seen;
      newer = rest.newer;
      attached = above (clauses_of pool.held) before.attached.fresh before.attached.seen rest.newer before.attached.attached rest.front;
      older = rest.front;
    }

-- what a search finds passes, and what passes another test is one of those that do
found_passes : (p : Literal → Bool) (xs : List Literal) (x : Literal) → find p xs ≡ Some x → p x ≡ true
found_passes p [] x is = cc
found_passes p (y ∷ later) x is = by_test (cases_Bool (p y)) (found_passes p later x)
  where
    by_test : (p y ≡ true) ⊎ (p y ≡ false) → (find p later ≡ Some x → p x ≡ true) → p x ≡ true
    by_test (inl passes) rest = subst (λ z. p z ≡ true) (same_Some y x (sym (ap (λ b. cond b (Some y) (find p later)) passes) ∙ is)) passes
    by_test (inr fails) rest = rest (sym (ap (λ b. cond b (Some y) (find p later)) fails) ∙ is)

found_any : (p q : Literal → Bool) (xs : List Literal) (x : Literal) → find p xs ≡ Some x → q x ≡ true → list_any q xs ≡ true
found_any p q [] x is good = cc
found_any p q (y ∷ later) x is good = by_test (cases_Bool (p y)) (λ rest. found_any p q later x rest good)
  where
    right : (b : Bool) → (b || true) ≡ true
    right true = refl
    right false = refl

    by_test : (p y ≡ true) ⊎ (p y ≡ false) → (find p later ≡ Some x → list_any q later ≡ true) → list_any q (y ∷ later) ≡ true
    by_test (inl passes) rest =
        let one : y ≡ x = same_Some y x (sym (ap (λ b. cond b (Some y) (find p later)) passes) ∙ is) in ap (λ b. b || list_any q later) (subst (λ z. q z ≡ true) (sym one) good)
    by_test (inr fails) rest = ap (λ b. q y || b) (rest (sym (ap (λ b. cond b (Some y) (find p later)) fails) ∙ is)) ∙ right (q y)

-- a clause whose first literal that isn't false is true, or isn't the only one, is neither unit nor falsified
pub quiet_true : (trail : List Entry) (lits : List Literal) (l : Literal) → Some l ≡ find (λ m. not (is_false trail m)) lits → is_true trail l ≡ true → IsQuiet trail lits
quiet_true trail lits l is holds = true_quiet trail lits (found_any (λ m. not (is_false trail m)) (λ m. is_true trail m) lits l (sym is) holds)

quiet_two : (trail : List Entry) (lits : List Literal) (l m : Literal) → Some l ≡ find (λ k. not (is_false trail k)) lits → IsOther trail lits l (Some m) → IsQuiet trail lits
quiet_two trail lits l m is other =
    let one = found_any (λ k. not (is_false trail k)) (λ k. same k l) lits l (sym is) (same_itself l) in
    guarded_quiet trail lits m l (record { first = other.0; second = one; apart = other.1 }) (inr (inr (other.2, alive (is_false trail l) (found_passes (λ k. not (is_false trail k)) lits l (sym is)))))
  where
    alive : (b : Bool) → not b ≡ true → b ≡ false
    alive true is = cc
    alive false is = refl

pub quiet_other : (trail : List Entry) (lits : List Literal) (l : Literal) (o : Option Literal) → Some l ≡ find (λ k. not (is_false trail k)) lits → IsOther trail lits l o →
    is_some o ≡ true → IsQuiet trail lits
quiet_other trail lits l None is other some = cc
quiet_other trail lits l (Some m) is other some = quiet_two trail lits l m is other

-- clauses of some names, and of one more
pub quiet_more : (trail : List Entry) (clauses : List NamedClause) (names : List Name) (i : ℕ) (default : Name) → i < length names →
    ((name : Name) (lits : List Literal) → IsTrue (is_among (take i names) name) → lits_at clauses name ≡ Some lits → IsQuiet trail lits) →
    ((lits : List Literal) → lits_at clauses (get_or names i default) ≡ Some lits → IsQuiet trail lits) → (name : Name) (lits : List Literal) → IsTrue (is_among (take (i + 1) names) name) →
    lits_at clauses name ≡ Some lits → IsQuiet trail lits
quiet_more trail clauses names i default inside before one name lits among found = by_test (cases_Bool (same_name next name))
  where
    next : Name
    next = get_or names i default

    no_right : (a b : Bool) → b ≡ false → (a || b) ≡ true → a ≡ true
    no_right true b none either = refl
    no_right false true none either = cc
    no_right false false none either = either

    by_test : (same_name next name ≡ true) ⊎ (same_name next name ≡ false) → IsQuiet trail lits
    by_test (inl here) = one lits (subst (λ n. lits_at clauses n ≡ Some lits) (sym (same_name-true next name here)) found)
    by_test (inr apart) =
        before name lits (no_right (is_among (take i names) name) (same_name next name) apart (sym (list_any_more (λ n. same_name n name) names i default inside) ∙ among)) found

-- each clause is found by its name, and quiet where those of all names are
named_quiet : (trail : List Entry) (names : List Name) (clauses : List NamedClause) →
    ((name : Name) (lits : List Literal) → IsTrue (is_among names name) → lits_at clauses name ≡ Some lits → IsQuiet trail lits) → (some : List NamedClause) → FindsAll (lits_at clauses) some →
    All (λ c. IsTrue (is_among names c.name)) some → AreQuiet trail some
named_quiet trail names clauses quiet [] found named = tt
named_quiet trail names clauses quiet (c ∷ later) found named =
    let P = λ (d : NamedClause). IsTrue (is_among names d.name) in
    (quiet c.name c.lits (All-head P c later named) found.0, named_quiet trail names clauses quiet later found.1 (All-tail P c later named))

attached_found : (r : RoundsState) (clauses : List NamedClause) (trail : List Entry) → IsAttachedTo r clauses trail → FindsAll (lits_at clauses) clauses
unfolding IsAttached
attached_found r clauses trail before = rising_found clauses before.attached.are.rising

pub all_quiet : (r : RoundsState) (pool : PoolState) (trail : TrailState) (left : List Entry) (names : List Name) → MayPropagate r pool trail →
    All (λ c. IsTrue (is_among names c.name)) (clauses_of pool.held) →
    ((name : Name) (lits : List Literal) → IsTrue (is_among names name) → lits_at (clauses_of pool.held) name ≡ Some lits → IsQuiet left lits) → AreQuiet left (clauses_of pool.held)
all_quiet r pool trail left names before named quiet =
    named_quiet left names (clauses_of pool.held) quiet (clauses_of pool.held) (attached_found r (clauses_of pool.held) trail.entries before.attached) named

-- propagation adds to the trail
round_part : (clauses : List NamedClause) (trail : List Entry) (o : Option Name) → IsPart (round_by clauses trail o).trail trail
round_part clauses trail None = let more = with_units_front trail clauses trail in record { newer = more.0; front = more.1 }
round_part clauses trail (Some name) = part_itself trail

rounds_part : (most : ℕ) (clauses : List NamedClause) (trail : List Entry) → IsPart (rounds most clauses trail).trail trail
rounds_part zero clauses trail = part_itself trail
rounds_part (suc most) clauses trail =
    let r = round clauses trail in
    let one = round_part clauses trail (conflict_of trail clauses) in
    cond_both (is_last trail r) r (rounds most clauses r.trail) (λ (end : Propagated). IsPart end.trail trail) (λ last. one)
    (λ more. part_of_part (rounds most clauses r.trail).trail r.trail trail (rounds_part most clauses r.trail) one)

-- so where it left the trail as long as it was, and all was seen, nothing was read
pub nothing_read : (pool : PoolState) (before after : TrailState) (r s : RoundsState) (found : Found) (steps now : ℕ) → HasPropagated pool before s after found →
    length after.entries ≡ length before.entries → IsAttached r (clauses_of pool.held) [] before.entries →
    ((fresh : List Name) (seen newer : List Entry) → IsAttached r (clauses_of pool.held) fresh seen → after.entries ≡ newer ++ seen → now ≤ steps + pairs_of (clauses_of pool.held) newer + length fresh) →
    steps ≤ now → now ≡ steps
nothing_read pool before after r s found steps now told long seen few grows =
    let is = ap (λ (t : TrailState). t.entries) told.trail in
    let part = rounds_part (length before.saved + 1) (clauses_of pool.held) before.entries in
    let same : after.entries ≡ before.entries = seen_all part.newer after.entries before.entries (is ∙ part.front) (omega (arith, long)) in
    let most : now ≤ steps + 0 + 0 = few [] before.entries [] seen same in omega (arith, most, grows)
