-- Lemmas that are derived, and their names.
use Rattle.std.proofs.Common.{◌≡◌, ℕ, ◌+◌, ◌<◌, Bool, true, false, List, [], ◌∷◌, ◌++◌, length, append_assoc, append-nil, All, refl, ap, sym, ◌∙◌, subst, arith}
use Rattle.std.specs.Prelude.{Option, Some, None, IsSome, option_map, find}
use Rattle.std.specs.List.{AllByRecursion, IsDistinct}
use Rattle.std.specs.Option.{option_or}
use Rattle.std.proofs.lemmas.Bool.{cond-false, false_from_ne_true}
use Rattle.std.proofs.lemmas.List.Folds.{find-append}
use Rattle.std.proofs.lemmas.Option.{none-some}
use Rattle.lit_base.specs.Literal.{Literal, IsWithin, same}
use Rattle.lit_base.specs.Rounds.{NamedClause}
use Rattle.lit_base.specs.Named.{same_name, lits_at}
use Rattle.lit_base.specs.Walk.{FindsMore}
use Rattle.lit_base.specs.declared.name.Name.{Name}
use Rattle.lit_base.proofs.WalkMore.{judgement_same_names}
use Rattle.solo_core.specs.declared.lemma.Lemma.{Lemma}
use Rattle.solo_core.specs.State.{lemma_name, lemma_clause, lemma_clauses}
use Rattle.solo_core.specs.Soundness.{IsDerived, AreDerived, AreNamed, HasLiterals, AreLemmasDistinct, AreLemmasWithin, NoneFrom}
use Rattle.lit_base.proofs.HeldClauses.{same_name-true, lits_at-cons}

lits_of_either : (o p : Option NamedClause) → option_map (λ c. c.lits) (option_or o p) ≡ option_or (option_map (λ c. c.lits) o) (option_map (λ c. c.lits) p)
lits_of_either None p = refl
lits_of_either (Some c) p = refl

-- a name is looked up among the first clauses, and then among the others
pub lits_at-append : (clauses others : List NamedClause) (n : Name) → lits_at (clauses ++ others) n ≡ option_or (lits_at clauses n) (lits_at others n)
lits_at-append clauses others n =
    ap (option_map (λ c. c.lits)) (find-append (λ c. same_name c.name n) clauses others)
    ∙ lits_of_either (find (λ c. same_name c.name n) clauses) (find (λ c. same_name c.name n) others)

-- what is found among the first clauses is found with others behind them
pub found_in_front : (clauses others : List NamedClause) (n : Name) (lits : List Literal) → lits_at clauses n ≡ Some lits → lits_at (clauses ++ others) n ≡ Some lits
found_in_front clauses others n lits is = lits_at-append clauses others n ∙ ap (λ o. option_or o (lits_at others n)) is

-- what isn't found among the first clauses is looked up among the others
pub found_behind : (clauses others : List NamedClause) (n : Name) → lits_at clauses n ≡ None → lits_at (clauses ++ others) n ≡ lits_at others n
found_behind clauses others n none = lits_at-append clauses others n ∙ ap (λ o. option_or o (lits_at others n)) none

some_more : (o p : Option (List Literal)) → ((lits : List Literal) → o ≡ Some lits → p ≡ Some lits) → IsSome o → IsSome p
some_more None p more some = cc
some_more (Some lits) p more some = subst (λ q. IsSome q) (sym (more lits refl)) refl

pub hints_more : (look found : Name → Option (List Literal)) (hints : List Name) → FindsMore look found (λ name. name) → AllByRecursion (λ hint. IsSome (look hint)) hints →
    AllByRecursion (λ hint. IsSome (found hint)) hints
hints_more look found [] more all = tt
hints_more look found (hint ∷ hints) more all = (some_more (look hint) (found hint) (more hint) all.0, hints_more look found hints more all.1)

-- a lemma that is derived is derived by any look-up that finds at least the same
pub derived_by_more : (look found : Name → Option (List Literal)) (lemma : Lemma) → FindsMore look found (λ name. name) → IsDerived look lemma → IsDerived found lemma
derived_by_more look found lemma more derived = record {
  found = hints_more look found lemma.hints more derived.found;
  follows = judgement_same_names look found more lemma.lits lemma.hints derived.follows;
}

-- one lemma more
pub derived_one_more : (base : List NamedClause) (lemmas : List Lemma) (lemma : Lemma) → AreDerived base lemmas →
    IsDerived (lits_at (base ++ lemma_clauses lemmas)) lemma → AreDerived base (lemmas ++ lemma ∷ [])
derived_one_more base [] lemma all one = (subst (λ clauses. IsDerived (lits_at clauses) lemma) (append-nil base) one, tt)
derived_one_more base (first ∷ later) lemma all one = (
  all.0,
  derived_one_more (base ++ lemma_clause first ∷ []) later lemma all.1
      (subst (λ clauses. IsDerived (lits_at clauses) lemma) (sym (append_assoc base (lemma_clause first ∷ []) (lemma_clauses later))) one),
)

-- the names of the lemmas, with one lemma more
pub named_one_more : (period core place : ℕ) (lemmas : List Lemma) (lemma : Lemma) → AreNamed period core place lemmas →
    lemma.name ≡ lemma_name period core (place + length lemmas) → AreNamed period core place (lemmas ++ lemma ∷ [])
named_one_more period core place [] lemma all one = (one ∙ ap (λ at. lemma_name period core at) (let e : place + 0 ≡ place = omega arith in e), tt)
named_one_more period core place (first ∷ later) lemma all one = (
  all.0,
  named_one_more period core (place + 1) later lemma all.1
      (one ∙ ap (λ at. lemma_name period core at) (let e : place + length (first ∷ later) ≡ place + 1 + length later = omega arith in e)),
)

-- and none is empty
pub nonempty_one_more : (lemmas : List Lemma) (lemma : Lemma) → AllByRecursion HasLiterals lemmas → HasLiterals lemma → AllByRecursion HasLiterals (lemmas ++ lemma ∷ [])
nonempty_one_more [] lemma all one = (one, tt)
nonempty_one_more (first ∷ later) lemma all one = (all.0, nonempty_one_more later lemma all.1 one)

-- and the literals of each are distinct
pub distinct_one_more : (lemmas : List Lemma) (lemma : Lemma) → AreLemmasDistinct lemmas → IsDistinct same lemma.lits → AreLemmasDistinct (lemmas ++ lemma ∷ [])
distinct_one_more [] lemma all one = (one, tt)
distinct_one_more (first ∷ later) lemma all one = (all.0, distinct_one_more later lemma all.1 one)

-- and within the variables
pub within_one_more : (variables : ℕ) (lemmas : List Lemma) (lemma : Lemma) → AreLemmasWithin variables lemmas → All (IsWithin variables) lemma.lits →
    AreLemmasWithin variables (lemmas ++ lemma ∷ [])
within_one_more variables [] lemma all one = (one, tt)
within_one_more variables (first ∷ later) lemma all one = (all.0, within_one_more variables later lemma all.1 one)

-- a name that is at none of the places of the lemmas isn't found among them
none_named : (period core place : ℕ) (lemmas : List Lemma) (n : Name) → ((at : ℕ) → at < place + length lemmas → n ≡ lemma_name period core at → ⊥) → AreNamed period core place lemmas →
    lits_at (lemma_clauses lemmas) n ≡ None
none_named period core place [] n other named = refl
none_named period core place (lemma ∷ later) n other named =
    lits_at-cons (lemma_clause lemma) (lemma_clauses later) n
    ∙ (cond-false (same_name lemma.name n) (Some lemma.lits) (lits_at (lemma_clauses later) n)
    (false_from_ne_true (same_name lemma.name n) (λ same. other place (omega arith) (sym (same_name-true lemma.name n same) ∙ named.0)))
    ∙ none_named period core (place + 1) later n (λ at below. other at (omega arith)) named.1)

-- the name of the next lemma is none of the names so far
pub next_is_fresh : (base : List NamedClause) (period core : ℕ) (lemmas : List Lemma) → NoneFrom base period →
    AreNamed period core 0 lemmas → lits_at (base ++ lemma_clauses lemmas) (lemma_name period core (length lemmas)) ≡ None
next_is_fresh base period core lemmas fresh named =
    found_behind base (lemma_clauses lemmas) (lemma_name period core (length lemmas)) (fresh (lemma_name period core (length lemmas)) (omega arith))
    ∙ none_named period core 0 lemmas (lemma_name period core (length lemmas)) (λ at below same. let place : length lemmas ≡ at = ap (λ n. n.index) same in omega arith) named

-- a name that is none of this period and core is no lemma's
pub others_not_found : (period core : ℕ) (lemmas : List Lemma) (n : Name) → ((place : ℕ) → n ≡ lemma_name period core place → ⊥) → AreNamed period core 0 lemmas →
    lits_at (lemma_clauses lemmas) n ≡ None
others_not_found period core lemmas n other named = none_named period core 0 lemmas n (λ at below. other at) named

-- one clause more is found in both, where its own name is found alike
found_with : (known more : List NamedClause) (c : NamedClause) → FindsMore (lits_at known) (lits_at more) (λ name. name) → lits_at more c.name ≡ lits_at known c.name →
    FindsMore (lits_at (known ++ c ∷ [])) (lits_at (more ++ c ∷ [])) (λ name. name)
found_with known more c finds alike name lits is = by_known (lits_at known name) refl (same_name c.name name) refl
  where
    by_known : (o : Option (List Literal)) → lits_at known name ≡ o → (b : Bool) → same_name c.name name ≡ b → lits_at (more ++ c ∷ []) name ≡ Some lits
    by_known (Some early) found b same =
        found_in_front more (c ∷ []) name lits (finds name lits (found ∙ (sym (found_in_front known (c ∷ []) name early found) ∙ is)))
    by_known None none true same =
        let nowhere : lits_at more name ≡ None = subst (λ n. lits_at more n ≡ lits_at known n) (same_name-true c.name name same) alike ∙ none in
        found_behind more (c ∷ []) name nowhere ∙ (sym (found_behind known (c ∷ []) name none) ∙ is)
    by_known None none false same =
        absurd (none-some lits (sym (lits_at-cons c [] name ∙ cond-false (same_name c.name name) (Some c.lits) None same) ∙ (sym (found_behind known (c ∷ []) name none) ∙ is)))

-- the names of lemmas that are found alike in both are found alike with one clause more
alike_with : (known more : List NamedClause) (c : NamedClause) (lemmas : List Lemma) → AllByRecursion (λ lemma. lits_at more lemma.name ≡ lits_at known lemma.name) lemmas →
    AllByRecursion (λ lemma. lits_at (more ++ c ∷ []) lemma.name ≡ lits_at (known ++ c ∷ []) lemma.name) lemmas
alike_with known more c [] alike = tt
alike_with known more c (lemma ∷ later) alike = (
  lits_at-append more (c ∷ []) lemma.name
      ∙ (ap (λ o. option_or o (lits_at (c ∷ []) lemma.name)) alike.0 ∙ sym (lits_at-append known (c ∷ []) lemma.name)),
  alike_with known more c later alike.1,
)

derived_alike : (known more : List NamedClause) (lemmas : List Lemma) → FindsMore (lits_at known) (lits_at more) (λ name. name) →
    AllByRecursion (λ lemma. lits_at more lemma.name ≡ lits_at known lemma.name) lemmas → AreDerived known lemmas → AreDerived more lemmas
derived_alike known more [] finds alike derived = tt
derived_alike known more (lemma ∷ later) finds alike derived = (
  derived_by_more (lits_at known) (lits_at more) lemma finds derived.0,
  derived_alike (known ++ lemma_clause lemma ∷ []) (more ++ lemma_clause lemma ∷ []) later
      (found_with known more (lemma_clause lemma) finds alike.0) (alike_with known more (lemma_clause lemma) later alike.1) derived.1,
)

-- what isn't found among more clauses isn't found among the known ones
none_known : (o p : Option (List Literal)) → ((lits : List Literal) → o ≡ Some lits → p ≡ Some lits) → p ≡ None → o ≡ None
none_known None p more none = refl
none_known (Some lits) p more none = absurd (none-some lits (sym none ∙ more lits refl))

none_alike : (known more : List NamedClause) (lemmas : List Lemma) → FindsMore (lits_at known) (lits_at more) (λ name. name) → AllByRecursion (λ lemma. lits_at more lemma.name ≡ None) lemmas →
    AllByRecursion (λ lemma. lits_at more lemma.name ≡ lits_at known lemma.name) lemmas
none_alike known more [] finds new = tt
none_alike known more (lemma ∷ later) finds new =
    (new.0 ∙ sym (none_known (lits_at known lemma.name) (lits_at more lemma.name) (finds lemma.name) new.0), none_alike known more later finds new.1)

-- lemmas that are derived from some clauses are derived from more
pub derived_from_more : (known more : List NamedClause) (lemmas : List Lemma) → FindsMore (lits_at known) (lits_at more) (λ name. name) →
    AllByRecursion (λ lemma. lits_at more lemma.name ≡ None) lemmas → AreDerived known lemmas → AreDerived more lemmas
derived_from_more known more lemmas finds new derived = derived_alike known more lemmas finds (none_alike known more lemmas finds new) derived
