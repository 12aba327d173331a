-- Whoever finds at least the same clauses under the hints comes to the same end, where the lemma follows.
use Rattle.std.proofs.Common.{◌≡◌, ℕ, ◌+◌, Bool, true, false, cond, List, [], ◌∷◌, refl, ap, ◌∙◌, subst}
use Rattle.std.specs.Prelude.{map, Option, Some, None}
use Rattle.lit_base.specs.Literal.{Literal, negation}
use Rattle.lit_base.specs.Walk.{status_of, walk, walk_at, is_tautology, FollowsByHints, FindsMore}
use Rattle.lit_base.specs.declared.proof.ClauseStatus.{ClauseStatus}
use Rattle.lit_base.specs.declared.proof.ClauseStatus.TheVariants.{Satisfied, Falsified, Implies, Unresolved}
use Rattle.lit_base.specs.declared.proof.Judged.{Judged}
use Rattle.lit_base.specs.declared.proof.Judged.TheVariants.{Follows}

walk_at_more : (place : ℕ) (known : List Literal) (status : ClauseStatus) (later after : List Literal → Judged) → ((k : List Literal) → later k ≡ Follows → after k ≡ Follows) →
    walk_at place known status later ≡ Follows → walk_at place known status after ≡ Follows
walk_at_more place known Satisfied later after more follows = more known follows
walk_at_more place known Falsified later after more follows = refl
walk_at_more place known (Implies l) later after more follows = more (l ∷ known) follows
walk_at_more place known Unresolved later after more follows = cc

walk_found_more : (place : ℕ) (known : List Literal) (one : Option (List Literal)) (hints : List (Option (List Literal))) (other : Option (List Literal)) (others : List (Option (List Literal))) →
    ((lits : List Literal) → one ≡ Some lits → other ≡ Some lits) → ((next : ℕ) (k : List Literal) → walk next k hints ≡ Follows → walk next k others ≡ Follows) →
    walk place known (one ∷ hints) ≡ Follows → walk place known (other ∷ others) ≡ Follows
walk_found_more place known None hints other others found more follows = cc
walk_found_more place known (Some lits) hints other others found more follows =
    ap (λ o. walk place known (o ∷ others)) (found lits refl)
    ∙ walk_at_more place known (status_of known lits) (λ k. walk (place + 1) k hints) (λ k. walk (place + 1) k others) (more (place + 1)) follows

-- the walk over hints that are looked up by number
pub walk_more : {N M : Type 0} (look : N → Option (List Literal)) (found : M → Option (List Literal)) (number : N → M) → FindsMore look found number →
    (hints : List N) (place : ℕ) (known : List Literal) → walk place known (map look hints) ≡ Follows → walk place known (map found (map number hints)) ≡ Follows
walk_more look found number finds [] place known follows = follows
walk_more look found number finds (name ∷ names) place known follows =
    walk_found_more place known (look name) (map look names) (found (number name)) (map found (map number names))
    (finds name) (walk_more look found number finds names) follows

-- a lemma that follows by one look-up follows by any that finds at least the same
pub judgement_more : {N M : Type 0} (look : N → Option (List Literal)) (found : M → Option (List Literal)) (number : N → M) → FindsMore look found number →
    (lemma : List Literal) (hints : List N) → FollowsByHints look lemma hints → FollowsByHints found lemma (map number hints)
judgement_more look found number finds lemma hints follows =
    by_tautology (is_tautology lemma) follows
  where
    by_tautology : (b : Bool) → cond b Follows (walk 1 (map negation lemma) (map look hints)) ≡ Follows → cond b Follows (walk 1 (map negation lemma) (map found (map number hints))) ≡ Follows
    by_tautology true all = refl
    by_tautology false all = walk_more look found number finds hints 1 (map negation lemma) all

-- the same, where both look up by name
pub judgement_same_names : {N : Type 0} (look found : N → Option (List Literal)) → FindsMore look found (λ name. name) →
    (lemma : List Literal) (hints : List N) → FollowsByHints look lemma hints → FollowsByHints found lemma hints
judgement_same_names look found finds lemma hints follows =
    subst (λ names. FollowsByHints found lemma names) (map_itself hints) (judgement_more look found (λ name. name) finds lemma hints follows)
  where
    map_itself : {X : Type 0} (xs : List X) → map (λ x. x) xs ≡ xs
    map_itself [] = refl
    map_itself (x ∷ xs) = ap (λ t. x ∷ t) (map_itself xs)
