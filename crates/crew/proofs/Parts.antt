-- The parts of an era: each core's lemmas are derived from what all cores knew when it began. So they are derived one after
-- the other, and behind what was known each of them is found.
use Rattle.std.proofs.Common.{◌≡◌, ℕ, ◌+◌, ◌≤◌, Bool, true, false, cond, List, [], ◌∷◌, ◌++◌, append_assoc, append-nil, refl, ap, sym, ◌∙◌, subst, arith}
use Rattle.std.specs.Prelude.{⊤, Option, Some, None}
use Rattle.std.specs.List.{AllByRecursion}
use Rattle.std.proofs.lemmas.Bool.{cond-true}
use Rattle.lit_base.specs.Literal.{Literal}
use Rattle.lit_base.specs.Rounds.{NamedClause}
use Rattle.lit_base.specs.Named.{same_name, lits_at}
use Rattle.lit_base.specs.Fits.{FindsAll}
use Rattle.lit_base.specs.Walk.{FindsMore}
use Rattle.lit_base.specs.declared.name.Name.{Name}
use Rattle.lit_base.proofs.HeldClauses.{same_name-itself, same_name-true, lits_at-cons}
use Rattle.solo_core.specs.State.{lemma_name, lemma_clause, lemma_clauses}
use Rattle.solo_core.specs.Soundness.{AreDerived, AreNamed}
use Rattle.solo_core.specs.declared.lemma.Lemma.{Lemma}
use Rattle.solo_core.proofs.Derived.{found_in_front, found_behind, others_not_found, derived_from_more}
use Rattle.solo_core.proofs.SoundClauses.{fresh_with}
use Rattle.crew.specs.Log.{joined}

-- == what is derived from what ==

-- lemmas that are derived one after the other
pub derived-append : (known : List NamedClause) (lemmas more : List Lemma) → AreDerived known lemmas → AreDerived (known ++ lemma_clauses lemmas) more →
    AreDerived known (lemmas ++ more)
derived-append known [] more first second = subst (λ clauses. AreDerived clauses more) (append-nil known) second
derived-append known (lemma ∷ later) more first second = (
  first.0,
  derived-append (known ++ lemma_clause lemma ∷ []) later more first.1
      (subst (λ clauses. AreDerived clauses more) (sym (append_assoc known (lemma_clause lemma ∷ []) (lemma_clauses later))) second),
)

pub lemma_clauses-append : (lemmas more : List Lemma) → lemma_clauses (lemmas ++ more) ≡ lemma_clauses lemmas ++ lemma_clauses more
lemma_clauses-append [] more = refl
lemma_clauses-append (lemma ∷ later) more = ap (λ clauses. lemma_clause lemma ∷ clauses) (lemma_clauses-append later more)

-- the parts of the cores from this one on, each derived from `base` and named as its core's
abbrev pub ArePartsDerived : List NamedClause → ℕ → ℕ → List (List Lemma) → Type 0
ArePartsDerived base period core [] = ⊤
ArePartsDerived base period core (part ∷ later) =
    AreDerived base part × AreNamed period core 0 part × ArePartsDerived base period (core + 1) later

-- no name of this period and of a core from this one on is known
abbrev pub NoneOfCores : List NamedClause → ℕ → ℕ → Type 0
NoneOfCores known period core = (name : Name) → name.period ≡ period → core ≤ name.core → lits_at known name ≡ None

-- whatever is found among some clauses is found among others
abbrev pub Finds : List NamedClause → List NamedClause → Type 0
Finds clauses others = FindsMore (lits_at clauses) (lits_at others) (λ name. name)

-- the lemmas of a core have new names where none of this core and period is known
names_new : (known : List NamedClause) (period core place : ℕ) (lemmas : List Lemma) → NoneOfCores known period core → AreNamed period core place lemmas →
    AllByRecursion (λ lemma. lits_at known lemma.name ≡ None) lemmas
names_new known period core place [] none named = tt
names_new known period core place (lemma ∷ later) none named = (
  ap (lits_at known) named.0 ∙ none (lemma_name period core place) refl (omega arith),
  names_new known period core (place + 1) later none named.1,
)

-- with a core's lemmas no name of a later core is known
none_after : (known : List NamedClause) (period core : ℕ) (part : List Lemma) → NoneOfCores known period core → AreNamed period core 0 part →
    NoneOfCores (known ++ lemma_clauses part) period (core + 1)
none_after known period core part none named name now from =
    found_behind known (lemma_clauses part) name (none name now (omega (arith, from)))
    ∙ others_not_found period core part name (λ place same. let e : name.core ≡ core = ap (λ n. n.core) same in omega (arith, from)) named

finds_with : (base known more : List NamedClause) → Finds base known → Finds base (known ++ more)
finds_with base known more finds name lits is = found_in_front known more name lits (finds name lits is)

-- parts that are each derived from the same clauses are derived one after the other from any that find them
pub parts_derived : (base known : List NamedClause) (period core : ℕ) (parts : List (List Lemma)) → Finds base known → NoneOfCores known period core →
    ArePartsDerived base period core parts → AreDerived known (joined parts)
parts_derived base known period core [] finds none parts = tt
parts_derived base known period core (part ∷ later) finds none parts =
    derived-append known part (joined later)
    (derived_from_more base known part finds (names_new known period core 0 part none parts.1) parts.0)
    (parts_derived base (known ++ lemma_clauses part) period (core + 1) later (finds_with base known (lemma_clauses part) finds)
    (none_after known period core part none parts.1) parts.2)

-- == what is found ==

-- what is found among some clauses is found in what finds each of them
pub finds_of_all : (clauses others : List NamedClause) → FindsAll (lits_at others) clauses → Finds clauses others
finds_of_all [] others all name lits is = cc
finds_of_all (c ∷ later) others all name lits is =
    by_name (same_name c.name name) refl (sym (lits_at-cons c later name) ∙ is) (finds_of_all later others all.1 name lits)
  where
    by_name : (b : Bool) → same_name c.name name ≡ b → cond b (Some c.lits) (lits_at later name) ≡ Some lits → (lits_at later name ≡ Some lits → lits_at others name ≡ Some lits) →
        lits_at others name ≡ Some lits
    by_name true same found further = ap (lits_at others) (sym (same_name-true c.name name same)) ∙ (all.0 ∙ found)
    by_name false apart found further = further found

-- and what is found in one of two lists of clauses is found where both find theirs
pub finds_either : (first second others : List NamedClause) → Finds first others → Finds second others → Finds (first ++ second) others
finds_either first second others one two name lits is = by_first (lits_at first name) refl
  where
    by_first : (o : Option (List Literal)) → lits_at first name ≡ o → lits_at others name ≡ Some lits
    by_first (Some early) found = one name lits (found ∙ (sym (found_in_front first second name early found) ∙ is))
    by_first None none = two name lits (sym (found_behind first second name none) ∙ is)

-- clauses that are each found are found with more behind
found_with_more : (known more clauses : List NamedClause) → FindsAll (lits_at known) clauses → FindsAll (lits_at (known ++ more)) clauses
found_with_more known more [] all = tt
found_with_more known more (c ∷ later) all = (found_in_front known more c.name c.lits all.0, found_with_more known more later all.1)

-- behind what has none of their names, the lemmas of a core are found
named_found : (known : List NamedClause) (period core place : ℕ) (lemmas : List Lemma) → ((index : ℕ) → place ≤ index → lits_at known (lemma_name period core index) ≡ None) →
    AreNamed period core place lemmas → FindsAll (lits_at (known ++ lemma_clauses lemmas)) (lemma_clauses lemmas)
named_found known period core place [] none named = tt
named_found known period core place (lemma ∷ later) none named =
    subst (λ clauses. FindsAll (lits_at clauses) (lemma_clauses (lemma ∷ later))) (append_assoc known (c ∷ []) (lemma_clauses later))
    (found_in_front (known ++ c ∷ []) (lemma_clauses later) lemma.name lemma.lits here, named_found (known ++ c ∷ []) period core (place + 1) later none_later named.1)
  where
    c : NamedClause
    c = lemma_clause lemma

    here : lits_at (known ++ c ∷ []) lemma.name ≡ Some lemma.lits
    here =
        found_behind known (c ∷ []) lemma.name (ap (lits_at known) named.0 ∙ none place (omega arith))
        ∙ (lits_at-cons c [] lemma.name ∙ cond-true (same_name lemma.name lemma.name) (Some lemma.lits) None (same_name-itself lemma.name))

    none_later : (index : ℕ) → place + 1 ≤ index → lits_at (known ++ c ∷ []) (lemma_name period core index) ≡ None
    none_later index past =
        fresh_with known c (lemma_name period core index)
        (λ same. let e : place ≡ index = ap (λ n. n.index) (sym named.0 ∙ same) in omega (arith, past)) (none index (omega (arith, past)))

-- what finds each lemma of each part
abbrev pub ArePartsFound : List NamedClause → List (List Lemma) → Type 0
ArePartsFound clauses parts = AllByRecursion (λ part. FindsAll (lits_at clauses) (lemma_clauses part)) parts

-- behind what was known each lemma of each part is found
pub parts_found : (base known : List NamedClause) (period core : ℕ) (parts : List (List Lemma)) → NoneOfCores known period core →
    ArePartsDerived base period core parts → ArePartsFound (known ++ lemma_clauses (joined parts)) parts
parts_found base known period core [] none parts = tt
parts_found base known period core (part ∷ later) none parts =
    subst (λ clauses. ArePartsFound clauses (part ∷ later))
    (append_assoc known (lemma_clauses part) (lemma_clauses (joined later)) ∙ ap (λ clauses. known ++ clauses) (sym (lemma_clauses-append part (joined later)))) (
      found_with_more (known ++ lemma_clauses part) (lemma_clauses (joined later)) (lemma_clauses part)
          (named_found known period core 0 part (λ index past. none (lemma_name period core index) refl (omega arith)) parts.1),
      parts_found base (known ++ lemma_clauses part) period (core + 1) later (none_after known period core part none parts.1) parts.2,
    )

-- a name of another period is in none of the parts
pub none_in_parts : (base : List NamedClause) (period core : ℕ) (parts : List (List Lemma)) (name : Name) → (name.period ≡ period → ⊥) → ArePartsDerived base period core parts →
    lits_at (lemma_clauses (joined parts)) name ≡ None
none_in_parts base period core [] name other parts = refl
none_in_parts base period core (part ∷ later) name other parts =
    ap (λ clauses. lits_at clauses name) (lemma_clauses-append part (joined later))
    ∙ (found_behind (lemma_clauses part) (lemma_clauses (joined later)) name
    (others_not_found period core part name (λ place same. other (ap (λ n. n.period) same)) parts.1)
    ∙ none_in_parts base period (core + 1) later name other parts.2)
