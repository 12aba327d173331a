-- Literals held true, and what the status of a clause says of its literals.
use Rattle.std.proofs.Common.{◌≡◌, ◌==◌, Bool, true, false, cond, not, ◌&&◌, ◌||◌, List, [], ◌∷◌, refl, ap, subst, inl, inr}
use Rattle.std.specs.Prelude.{Option, Some, None, find}
use Rattle.std.specs.Bool.{beq}
use Rattle.std.specs.List.{list_any, list_all}
use Rattle.std.proofs.lemmas.Bool.{and_parts, and_from, or_cases, or_left, or_right, eq-eqb, cond_both}
use Rattle.std.proofs.lemmas.Option.{same_Some}
use Rattle.lit_base.specs.Literal.{Literal, negation, same}
use Rattle.lit_base.specs.Walk.{holds, fails, status_of, status_by}
use Rattle.lit_base.specs.declared.proof.ClauseStatus.{ClauseStatus}
use Rattle.lit_base.specs.declared.proof.ClauseStatus.TheVariants.{Satisfied, Falsified, Implies, Unresolved}
use Rattle.lit_base.proofs.DistinctLits.{same-true, not_not}

-- an element that passes both tests, where all pass the one and some passes the other
pub all_any : {X : Type 0} (p q : X → Bool) (xs : List X) → list_all p xs ≡ true → list_any q xs ≡ true → (x : X) × (p x ≡ true) × (q x ≡ true)
all_any p q [] all some = cc
all_any p q (x ∷ xs) all some =
    let parts = and_parts (p x) (list_all p xs) all in
    elim (or_cases (q x) (list_any q xs) some) [ inl first ↦ (x, parts.0, first) | inr later ↦ all_any p q xs parts.1 later ]

-- what follows for each from what all pass
pub all_when : {X : Type 0} (p q : X → Bool) → ((x : X) → p x ≡ true → q x ≡ true) → (xs : List X) → list_all p xs ≡ true → list_all q xs ≡ true
all_when p q step [] all = refl
all_when p q step (x ∷ xs) all =
    let parts = and_parts (p x) (list_all p xs) all in
    and_from (q x) (list_all q xs) (step x parts.0) (all_when p q step xs parts.1)

pub any_when : {X : Type 0} (p q : X → Bool) → ((x : X) → p x ≡ true → q x ≡ true) → (xs : List X) → list_any p xs ≡ true → list_any q xs ≡ true
any_when p q step [] some = cc
any_when p q step (x ∷ xs) some = elim (or_cases (p x) (list_any p xs) some) [
  | inl first ↦ or_left (q x) (list_any q xs) (step x first)
  | inr later ↦ or_right (q x) (list_any q xs) (any_when p q step xs later)
]

pub beq_itself : (b : Bool) → beq b b ≡ true
beq_itself true = refl
beq_itself false = refl

pub same_itself : (l : Literal) → same l l ≡ true
same_itself l = and_from (l.variable == l.variable) (beq l.positive l.positive) (eq-eqb l.variable l.variable refl) (beq_itself l.positive)

beq-not : (a b : Bool) → beq (not a) (not b) ≡ beq a b
beq-not true true = refl
beq-not true false = refl
beq-not false true = refl
beq-not false false = refl

pub same-negations : (a b : Literal) → same (negation a) (negation b) ≡ same a b
same-negations a b = ap (λ t. (a.variable == b.variable) && t) (beq-not a.positive b.positive)

pub negation-negation : (l : Literal) → negation (negation l) ≡ l
negation-negation l = ap (λ b. let m : Literal = record { variable = l.variable; positive = b } in m) (not_not l.positive)

-- what all literals of a list pass, one that is there passes
pub all_at : (p : Literal → Bool) (lits : List Literal) (l : Literal) → list_all p lits ≡ true → list_any (λ m. same m l) lits ≡ true → p l ≡ true
all_at p lits l all there =
    let found = all_any p (λ m. same m l) lits all there in
    subst (λ m. p m ≡ true) (same-true found.0 l found.2) found.1

-- a literal of the list that passes, where some does
pub any_at : (p : Literal → Bool) (lits : List Literal) → list_any p lits ≡ true → (l : Literal) × (p l ≡ true) × (list_any (λ m. same m l) lits ≡ true)
any_at p [] some = cc
any_at p (x ∷ xs) some = elim (or_cases (p x) (list_any p xs) some) [
  | inl first ↦ (x, first, or_left (same x x) (list_any (λ m. same m x) xs) (same_itself x))
  | inr later ↦ let found = any_at p xs later in (found.0, found.1, or_right (same x found.0) (list_any (λ m. same m found.0) xs) found.2)
]

none_by_first : {X : Type 0} (q : X → Bool) (x : X) (xs : List X) (b : Bool) → cond (not b) (Some x) (find (λ y. not (q y)) xs) ≡ None →
    (find (λ y. not (q y)) xs ≡ None → list_all q xs ≡ true) → (b && list_all q xs) ≡ true
none_by_first q x xs true none rest = rest none
none_by_first q x xs false none rest = cc

-- where no element fails the test, all pass it
pub all_from_none : {X : Type 0} (q : X → Bool) (xs : List X) → find (λ x. not (q x)) xs ≡ None → list_all q xs ≡ true
all_from_none q [] none = refl
all_from_none q (x ∷ xs) none = none_by_first q x xs (q x) none (all_from_none q xs)

-- a literal that was found fails the test, and is there
abbrev pub IsFound : (Literal → Bool) → List Literal → Literal → Type 0
IsFound q lits l = (q l ≡ false) × (list_any (λ m. same m l) lits ≡ true)

found_by_first : (q : Literal → Bool) (x : Literal) (xs : List Literal) (l : Literal) (b : Bool) → q x ≡ b → cond (not b) (Some x) (find (λ y. not (q y)) xs) ≡ Some l →
    (find (λ y. not (q y)) xs ≡ Some l → IsFound q xs l) → IsFound q (x ∷ xs) l
found_by_first q x xs l true is some rest =
    let later = rest some in (later.0, or_right (same x l) (list_any (λ m. same m l) xs) later.1)
found_by_first q x xs l false is some rest =
    let at : x ≡ l = same_Some x l some in
    (subst (λ m. q m ≡ false) at is, or_left (same x l) (list_any (λ m. same m l) xs) (subst (λ m. same x m ≡ true) at (same_itself x)))

pub found_from_some : (q : Literal → Bool) (lits : List Literal) (l : Literal) → find (λ x. not (q x)) lits ≡ Some l → IsFound q lits l
found_from_some q [] l some = cc
found_from_some q (x ∷ xs) l some = found_by_first q x xs l (q x) refl some (found_from_some q xs l)

-- a literal of the clause that isn't false, where none is true
pub record IsOpen (known lits : List Literal) (l : Literal) : Type 0 where
  pub none : list_any (holds known) lits ≡ false
  pub found : IsFound (fails known) lits l

-- what a status says
abbrev pub Tells : List Literal → List Literal → ClauseStatus → Type 0
Tells known lits Satisfied = list_any (holds known) lits ≡ true
Tells known lits Falsified = list_all (fails known) lits ≡ true
Tells known lits (Implies l) = IsOpen known lits l × (list_all (λ m. fails known m || same m l) lits ≡ true)
Tells known lits Unresolved = (l : Literal) × IsOpen known lits l × (list_all (λ m. fails known m || same m l) lits ≡ false)

status_by_tells : (known lits : List Literal) → list_any (holds known) lits ≡ false → (o : Option Literal) → find (λ l. not (fails known l)) lits ≡ o →
    Tells known lits (status_by known lits o)
status_by_tells known lits none None is = all_from_none (fails known) lits is
status_by_tells known lits none (Some l) is =
    let there : IsOpen known lits l = record { none = none; found = found_from_some (fails known) lits l is } in
    cond_both (list_all (λ m. fails known m || same m l) lits) (Implies l) Unresolved (Tells known lits) (λ all. (there, all)) (λ some. (l, there, some))

pub status_tells : (known lits : List Literal) → Tells known lits (status_of known lits)
status_tells known lits =
    cond_both (list_any (holds known) lits) Satisfied (status_by known lits (find (λ l. not (fails known l)) lits)) (Tells known lits) (λ some. some)
    (λ none. status_by_tells known lits none (find (λ l. not (fails known l)) lits) refl)
