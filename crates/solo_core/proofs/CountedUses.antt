-- How often the held clauses were hints: one use more, and the bound on the uses.
use Rattle.std.proofs.Common.{◌≡◌, ℕ, zero, suc, ◌+◌, ◌<◌, ◌≤◌, Bool, true, false, cond, not, ◌&&◌, ◌||◌, List, [], ◌∷◌, ◌++◌, length, get_or, take, refl, ap, sym, ◌∙◌, subst, arith}
use Rattle.std.specs.Prelude.{Option, Some, IsSome, option_map, find}
use Rattle.std.specs.Option.{ForSome}
use Rattle.std.specs.List.{AllByRecursion, IsDistinct}
use Rattle.std.proofs.lemmas.Bool.{cond_both, cond-true, cond-false, and_parts, and_right, false_from_ne_true, both_ways, or_from}
use Rattle.std.proofs.lemmas.Option.{none-some}
use Rattle.std.proofs.lemmas.List.{take_more}
use Rattle.std.proofs.lemmas.List.Folds.{list_any-append}
use Rattle.std.proofs.lemmas.List.Elements.{All-get_or, All-from_recursion}
use Rattle.lit_base.specs.Rounds.{NamedClause}
use Rattle.lit_base.specs.Named.{same_name, lits_at}
use Rattle.lit_base.specs.Held.{HeldClause, clauses_of, is_before, is_original, is_among, unused, with_clause, with_use, with_uses}
use Rattle.lit_base.specs.declared.name.Name.{Name}
use Rattle.lit_base.proofs.HeldClauses.{same_name-true, clauses_of-with_uses}
use Rattle.clause_pool.specs.Uses.{uses_of}
use Rattle.solo_core.specs.Searching.{AreFewUses}

-- few uses are few for a greater bound too
pub few_uses-more : (most more : ℕ) (held : List HeldClause) → most ≤ more → AreFewUses most held → AreFewUses more held
few_uses-more most more [] above few = tt
few_uses-more most more (c ∷ later) above few = ((let first = few.0 in omega arith), few_uses-more most more later above few.1)

-- counting uses raises none by more than one
pub few_uses-counted : (most : ℕ) (hints : List Name) (held : List HeldClause) → AreFewUses most held → AreFewUses (most + 1) (with_uses hints held)
few_uses-counted most hints [] few = tt
few_uses-counted most hints (c ∷ later) few = (
  cond_both (not (is_original c.name) && is_among hints c.name) (record c { uses = c.uses + 1 }) c (λ d. d.uses ≤ most + 1) (λ counted. let first = few.0 in omega arith) (λ uncounted. let first = few.0 in omega arith),
  few_uses-counted most hints later few.1,
)

-- a clause more that has no uses keeps the bound
pub few_uses-with : (most : ℕ) (c : NamedClause) (held : List HeldClause) → AreFewUses most held → AreFewUses most (with_clause (unused c) held)
few_uses-with most c [] few = (omega arith, tt)
few_uses-with most c (d ∷ later) few =
    cond_both (is_before c.name d.name) (unused c ∷ d ∷ later) (d ∷ with_clause (unused c) later) (AreFewUses most)
    (λ before. (omega arith, few)) (λ after. (few.0, few_uses-with most c later few.1))

-- the uses of a clause that is looked up are few
few_by : (most : ℕ) (b : Bool) (c : HeldClause) (o : Option HeldClause) → c.uses ≤ most → ForSome (option_map (λ d. d.uses) o) (λ uses. uses ≤ most) →
    ForSome (option_map (λ d. d.uses) (cond b (Some c) o)) (λ uses. uses ≤ most)
few_by most true c o first later = λ uses is. let e : c.uses ≡ uses = cc in omega arith
few_by most false c o first later = later

pub few_uses-at : (most : ℕ) (held : List HeldClause) (n : Name) → AreFewUses most held → ForSome (uses_of held n) (λ uses. uses ≤ most)
few_uses-at most [] n few = λ uses is. absurd (none-some uses is)
few_uses-at most (c ∷ later) n few = few_by most (same_name c.name n) c (find (λ d. same_name d.name n) later) few.0 (few_uses-at most later n few.1)

-- without hints nothing is counted
pub with_uses-none : (held : List HeldClause) → with_uses [] held ≡ held
with_uses-none [] = refl
with_uses-none (c ∷ later) =
    ap (λ d. d ∷ with_uses [] later) (cond-false (not (is_original c.name) && false) (record c { uses = c.uses + 1 }) c (and_right (not (is_original c.name)) false refl))
    ∙ ap (λ others. c ∷ others) (with_uses-none later)

-- whether a clause counts a use
abbrev counts : List Name → HeldClause → Bool
counts hints c = not (is_original c.name) && is_among hints c.name

-- one more hint, of which none was the same
counted_before : (n a s : Bool) → (n && a) ≡ true → (n && (a || s)) ≡ true
counted_before true true s is = refl
counted_before true false s is = cc
counted_before false a s is = cc

uncounted_before : (n a s : Bool) → (n && a) ≡ false → (n && (a || s)) ≡ (n && s)
uncounted_before true true s is = cc
uncounted_before true false s is = refl
uncounted_before false a s is = refl

-- the name of a counted clause is not the new hint
new_elsewhere : (before : List Name) (h n : Name) → is_among before h ≡ false → is_among before n ≡ true → same_name h n ≡ false
new_elsewhere before h n new among =
    false_from_ne_true (same_name h n) (λ is. both_ways (is_among before h) new (subst (λ m. is_among before m ≡ true) (sym (same_name-true h n is)) among))

with_use-pushed : (before : List Name) (h : Name) (c : HeldClause) → is_among before h ≡ false → with_use (before ++ h ∷ []) c ≡ with_use (h ∷ []) (with_use before c)
with_use-pushed before h c new =
    let more : counts (before ++ h ∷ []) c ≡ (not (is_original c.name) && (is_among before c.name || is_among (h ∷ []) c.name)) =
    ap (λ b. not (is_original c.name) && b) (list_any-append (λ n. same_name n c.name) before (h ∷ [])) in
    cond_both (counts before c) (record c { uses = c.uses + 1 }) c (λ d. with_use (before ++ h ∷ []) c ≡ with_use (h ∷ []) d)
    (λ counted. cond-true (counts (before ++ h ∷ []) c) (record c { uses = c.uses + 1 }) c (more ∙ counted_before (not (is_original c.name)) (is_among before c.name) (is_among (h ∷ []) c.name) counted)
    ∙ sym (cond-false (counts (h ∷ []) c) (record c { uses = c.uses + 1 + 1 }) (record c { uses = c.uses + 1 })
    (and_right (not (is_original c.name)) (is_among (h ∷ []) c.name)
    (ap (λ b. b || false) (new_elsewhere before h c.name new (and_parts (not (is_original c.name)) (is_among before c.name) counted).1)))))
    (λ uncounted. ap (λ b. cond b (record c { uses = c.uses + 1 }) c) (more ∙ uncounted_before (not (is_original c.name)) (is_among before c.name) (is_among (h ∷ []) c.name) uncounted))

-- the uses of one more hint
pub with_uses-pushed : (before : List Name) (h : Name) (held : List HeldClause) → is_among before h ≡ false → with_uses (before ++ h ∷ []) held ≡ with_uses (h ∷ []) (with_uses before held)
with_uses-pushed before h [] new = refl
with_uses-pushed before h (c ∷ later) new =
    ap (λ d. d ∷ with_uses (before ++ h ∷ []) later) (with_use-pushed before h c new)
    ∙ ap (λ others. with_use (h ∷ []) (with_use before c) ∷ others) (with_uses-pushed before h later new)

-- a hint is none of those before it
distinct_before : (hints : List Name) (i : ℕ) (d : Name) → i < length hints → IsDistinct same_name hints → is_among (take i hints) (get_or hints i d) ≡ false
unfolding IsDistinct
distinct_before [] i d within distinct = absurd (omega arith)
distinct_before (h ∷ later) zero d within distinct = refl
distinct_before (h ∷ later) (suc i) d within distinct =
    or_from (same_name h (get_or later i d)) (is_among (take i later) (get_or later i d))
    (All-get_or (λ n. same_name h n ≡ false) later i d (omega arith) (All-from_recursion (λ n. same_name h n ≡ false) later distinct.0))
    (distinct_before later i d (omega arith) distinct.1)

-- the uses of the hints up to the next one
pub with_uses-next : (hints : List Name) (i : ℕ) (d : Name) (held : List HeldClause) → i < length hints → IsDistinct same_name hints →
    with_uses (take (i + 1) hints) held ≡ with_uses (get_or hints i d ∷ []) (with_uses (take i hints) held)
with_uses-next hints i d held within distinct =
    ap (λ names. with_uses names held) (take_more hints i d within) ∙ with_uses-pushed (take i hints) (get_or hints i d) held (distinct_before hints i d within distinct)

-- the next hint is held still
pub hint_held : (hints : List Name) (i : ℕ) (d : Name) (held : List HeldClause) → i < length hints → AllByRecursion (λ hint. IsSome (lits_at (clauses_of held) hint)) hints →
    IsSome (lits_at (clauses_of (with_uses (take i hints) held)) (get_or hints i d))
hint_held hints i d held within all =
    subst (λ clauses. IsSome (lits_at clauses (get_or hints i d))) (sym (clauses_of-with_uses (take i hints) held))
    (All-get_or (λ hint. IsSome (lits_at (clauses_of held) hint)) hints i d within (All-from_recursion (λ hint. IsSome (lits_at (clauses_of held) hint)) hints all))
