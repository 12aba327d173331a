-- A walk over hints depends on which literals are held true, and on nothing else of their list.
use Rattle.std.proofs.Common.{◌≡◌, ℕ, ◌+◌, ◌==◌, arith, Bool, true, false, cond, not, ◌&&◌, ◌||◌, List, [], ◌∷◌, ◌++◌, ◌<◌, length, get_or, drop, refl, ap, sym, ◌∙◌, subst}
use Rattle.std.specs.Prelude.{map, Option, Some, None, find}
use Rattle.std.specs.List.{list_any, list_all}
use Rattle.std.proofs.lemmas.Bool.Decides.{nat_tests}
use Rattle.std.specs.Bool.{beq}
use Rattle.std.proofs.lemmas.List.{drop_more}
use Rattle.std.proofs.lemmas.List.Folds.{list_any-append}
use Rattle.lit_base.specs.Literal.{Literal, negation, same}
use Rattle.lit_base.specs.LitSet.{with_lit}
use Rattle.lit_base.specs.Walk.{holds, fails, status_of, status_by, walk, walk_at, is_tautology, judgement_of}
use Rattle.lit_base.specs.declared.proof.ClauseStatus.{ClauseStatus}
use Rattle.lit_base.specs.declared.proof.ClauseStatus.TheVariants.{Satisfied, Falsified, Implies, Unresolved}
use Rattle.lit_base.specs.declared.proof.Judged.{Judged}
use Rattle.lit_base.specs.declared.proof.Judged.TheVariants.{Follows}
use Rattle.lit_base.proofs.DistinctLits.{same-true}

-- the same literals are held true
abbrev pub AreSame : List Literal → List Literal → Type 0
AreSame known other = (l : Literal) → holds known l ≡ holds other l

any_alike : {X : Type 0} (p q : X → Bool) → ((x : X) → p x ≡ q x) → (xs : List X) → list_any p xs ≡ list_any q xs
any_alike p q alike [] = refl
any_alike p q alike (x ∷ xs) = ap (λ b. b || list_any p xs) (alike x) ∙ ap (λ b. q x || b) (any_alike p q alike xs)

all_alike : {X : Type 0} (p q : X → Bool) → ((x : X) → p x ≡ q x) → (xs : List X) → list_all p xs ≡ list_all q xs
all_alike p q alike [] = refl
all_alike p q alike (x ∷ xs) = ap (λ b. b && list_all p xs) (alike x) ∙ ap (λ b. q x && b) (all_alike p q alike xs)

find_alike : {X : Type 0} (p q : X → Bool) → ((x : X) → p x ≡ q x) → (xs : List X) → find p xs ≡ find q xs
find_alike p q alike [] = refl
find_alike p q alike (x ∷ xs) = ap (λ b. cond b (Some x) (find p xs)) (alike x) ∙ ap (λ o. cond (q x) (Some x) o) (find_alike p q alike xs)

status_by_alike : (known other lits : List Literal) → AreSame known other → (o : Option Literal) → status_by known lits o ≡ status_by other lits o
status_by_alike known other lits alike None = refl
status_by_alike known other lits alike (Some l) =
    ap (λ b. cond b (Implies l) Unresolved) (all_alike (λ m. fails known m || same m l) (λ m. fails other m || same m l) (λ m. ap (λ b. b || same m l) (alike (negation m))) lits)

status_alike : (known other lits : List Literal) → AreSame known other → status_of known lits ≡ status_of other lits
status_alike known other lits alike =
    ap (λ b. cond b Satisfied (status_by known lits (find (λ l. not (fails known l)) lits))) (any_alike (holds known) (holds other) alike lits)
    ∙ ap (λ s. cond (list_any (holds other) lits) Satisfied s)
    (ap (status_by known lits) (find_alike (λ l. not (fails known l)) (λ l. not (fails other l)) (λ l. ap not (alike (negation l))) lits)
    ∙ status_by_alike known other lits alike (find (λ l. not (fails other l)) lits))

walk_at_alike : (place : ℕ) (known other : List Literal) (later : List Literal → Judged) → ((k o : List Literal) → AreSame k o → later k ≡ later o) → AreSame known other →
    (status : ClauseStatus) → walk_at place known status later ≡ walk_at place other status later
walk_at_alike place known other later rest alike Satisfied = rest known other alike
walk_at_alike place known other later rest alike Falsified = refl
walk_at_alike place known other later rest alike (Implies l) = rest (l ∷ known) (l ∷ other) (λ m. ap (λ b. same l m || b) (alike m))
walk_at_alike place known other later rest alike Unresolved = refl

-- so a walk ends the same
pub walk_alike : (hints : List (Option (List Literal))) (place : ℕ) (known other : List Literal) → AreSame known other → walk place known hints ≡ walk place other hints
walk_alike [] place known other alike = refl
walk_alike (None ∷ hints) place known other alike = refl
walk_alike (Some lits ∷ hints) place known other alike =
    ap (λ s. walk_at place known s (λ after. walk (place + 1) after hints)) (status_alike known other lits alike)
    ∙ walk_at_alike place known other (λ after. walk (place + 1) after hints) (walk_alike hints (place + 1)) alike (status_of other lits)

beq-swapped : (a b : Bool) → beq a b ≡ beq b a
beq-swapped true true = refl
beq-swapped true false = refl
beq-swapped false true = refl
beq-swapped false false = refl

number-swapped : (m n : ℕ) → (m == n) ≡ (n == m)
number-swapped m n = grind (arith, nat_tests)

-- whether two literals are one, either way round
swapped : (k l : Literal) → same k l ≡ same l k
swapped k l = ap (λ b. b && beq k.positive l.positive) (number-swapped k.variable l.variable) ∙ ap (λ b. (l.variable == k.variable) && b) (beq-swapped k.positive l.positive)

-- a literal that is put in is held true, and the others as before
pub with_lit_alike : (known : List Literal) (l : Literal) → AreSame (with_lit known l) (l ∷ known)
with_lit_alike known l m = by_member (list_any (same l) known) refl
  where
    either : (a b : Bool) → (a || (b || false)) ≡ (b || a)
    either true true = refl
    either true false = refl
    either false true = refl
    either false false = refl

    there : (b : Bool) → same l m ≡ b → list_any (same l) known ≡ true → holds known m ≡ (b || holds known m)
    there true is member =
        subst (λ n. holds known n ≡ true) (same-true l m is) (any_alike (λ k. same k l) (same l) (λ k. swapped k l) known ∙ member)
    there false is member = refl

    by_member : (b : Bool) → list_any (same l) known ≡ b → holds (cond b known (known ++ l ∷ [])) m ≡ (same l m || holds known m)
    by_member true member = there (same l m) refl member
    by_member false absent = list_any-append (λ k. same k m) known (l ∷ []) ∙ either (holds known m) (same l m)

not-beq : (a b : Bool) → beq (not a) b ≡ beq a (not b)
not-beq true true = refl
not-beq true false = refl
not-beq false true = refl
not-beq false false = refl

-- the negation of a literal is among these exactly where the literal is among their negations
pub negations_hold : (lits : List Literal) (l : Literal) → holds (map negation lits) l ≡ fails lits l
negations_hold [] l = refl
negations_hold (k ∷ ks) l =
    ap (λ b. ((k.variable == l.variable) && b) || holds (map negation ks) l) (not-beq k.positive l.positive) ∙ ap (λ b. same k (negation l) || b) (negations_hold ks l)

-- where just the negations of a lemma are held true, one of its literals is true exactly where it is a tautology
pub tautology_is : (known lemma : List Literal) → AreSame known (map negation lemma) → list_any (holds known) lemma ≡ is_tautology lemma
tautology_is known lemma alike = any_alike (holds known) (fails lemma) (λ l. alike l ∙ negations_hold lemma l) lemma

-- the next hint, by the clause that is found
walk_read : (look : ℕ → Option (List Literal)) (hints : List ℕ) (i : ℕ) (known lits : List Literal) → i < length hints → look (get_or hints i 0) ≡ Some lits →
    walk (i + 1) known (map look (drop i hints)) ≡ walk_at (i + 1) known (status_of known lits) (λ after. walk (i + 1 + 1) after (map look (drop (i + 1) hints)))
walk_read look hints i known lits within found =
    ap (λ ns. walk (i + 1) known (map look ns)) (drop_more hints i 0 within) ∙ ap (λ o. walk (i + 1) known (o ∷ map look (drop (i + 1) hints))) found

-- its clause is satisfied
pub walk_passes : (look : ℕ → Option (List Literal)) (hints : List ℕ) (i : ℕ) (known lits : List Literal) → i < length hints → look (get_or hints i 0) ≡ Some lits → status_of known lits ≡ Satisfied →
    walk (i + 1) known (map look (drop i hints)) ≡ walk (i + 1 + 1) known (map look (drop (i + 1) hints))
walk_passes look hints i known lits within found is =
    walk_read look hints i known lits within found ∙ ap (λ s. walk_at (i + 1) known s (λ after. walk (i + 1 + 1) after (map look (drop (i + 1) hints)))) is

-- it is unit
pub walk_implies : (look : ℕ → Option (List Literal)) (hints : List ℕ) (i : ℕ) (known lits : List Literal) (l : Literal) → i < length hints → look (get_or hints i 0) ≡ Some lits →
    status_of known lits ≡ Implies l → walk (i + 1) known (map look (drop i hints)) ≡ walk (i + 1 + 1) (with_lit known l) (map look (drop (i + 1) hints))
walk_implies look hints i known lits l within found is =
    walk_read look hints i known lits within found
    ∙ (ap (λ s. walk_at (i + 1) known s (λ after. walk (i + 1 + 1) after (map look (drop (i + 1) hints)))) is
    ∙ sym (walk_alike (map look (drop (i + 1) hints)) (i + 1 + 1) (with_lit known l) (l ∷ known) (with_lit_alike known l)))

-- a tautology follows
pub judged_tautology : (known lemma : List Literal) (hints : List (Option (List Literal))) → AreSame known (map negation lemma) → list_any (holds known) lemma ≡ true → judgement_of lemma hints ≡ Follows
judged_tautology known lemma hints alike is = ap (λ b. cond b Follows (walk 1 (map negation lemma) hints)) (sym (tautology_is known lemma alike) ∙ is)

-- any other lemma is judged by its hints
pub judged_walk : (known lemma : List Literal) (hints : List (Option (List Literal))) → AreSame known (map negation lemma) → list_any (holds known) lemma ≡ false → judgement_of lemma hints ≡ walk 1 known hints
judged_walk known lemma hints alike is =
    ap (λ b. cond b Follows (walk 1 (map negation lemma) hints)) (sym (tautology_is known lemma alike) ∙ is) ∙ sym (walk_alike hints 1 known (map negation lemma) alike)
