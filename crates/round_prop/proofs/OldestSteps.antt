-- The oldest entries of a trail, one more at a time.
use Rattle.std.proofs.Common.{◌≡◌, ◌⊎◌, ℕ, zero, suc, ◌+◌, ◌-◌, ◌<◌, ◌≤◌, Bool, true, false, not, List, [], ◌∷◌, ◌++◌, length, drop, take, reverse, refl, inl, inr, ap, sym, ◌∙◌, subst, arith}
use Rattle.std.specs.Prelude.{Some, None, slice_get}
use Rattle.std.proofs.lemmas.List.{reverse-append, length-reverse, length-append, take-append-drop}
use Rattle.std.proofs.lemmas.Option.{same_Some, slice_get_within}
use Rattle.lit_base.specs.Literal.{Literal, negation}
use Rattle.lit_base.specs.Fits.{HasDistinctVariables}
use Rattle.lit_base.specs.declared.trail.Entry.{Entry}
use Rattle.round_prop.specs.Linked.{IsPart, IsStep}
use Rattle.round_prop.specs.Readied.{oldest}
use Rattle.round_prop.proofs.NoteSteps.{slice_get-parts}

pub oldest_part : (n : ℕ) (trail : List Entry) → IsPart trail (oldest n trail)
oldest_part n trail = record { newer = take (length trail - n) trail; front = sym (take-append-drop (length trail - n) trail) }

pub oldest_all : (n : ℕ) (trail : List Entry) → length trail ≤ n → oldest n trail ≡ trail
oldest_all n trail all = let e : length trail - n ≡ 0 = omega (arith, all) in ap (λ k. drop k trail) e

oldest_cons : (n : ℕ) (e : Entry) (older : List Entry) → n ≤ length older → oldest n (e ∷ older) ≡ oldest n older
oldest_cons n e older inside =
    let k : length (e ∷ older) - n ≡ suc (length older - n) = omega (arith, inside) in ap (λ j. drop j (e ∷ older)) k

-- what is the oldest of the older is the oldest of the whole
pub oldest_front : (n : ℕ) (newer older : List Entry) → n ≤ length older → oldest n (newer ++ older) ≡ oldest n older
oldest_front n [] older inside = refl
oldest_front n (e ∷ newer) older inside = oldest_cons n e (newer ++ older) (omega (arith, inside, length-append newer older)) ∙ oldest_front n newer older inside

pub oldest_whole : (newer older trail : List Entry) → trail ≡ newer ++ older → oldest (length older) trail ≡ older
oldest_whole newer older trail is = ap (λ t. oldest (length older) t) is ∙ (oldest_front (length older) newer older (omega arith) ∙ oldest_all (length older) older (omega arith))

pub oldest_more : (trail : List Entry) (n : ℕ) (e : Entry) → slice_get (reverse trail) n ≡ Some e → oldest (n + 1) trail ≡ e ∷ oldest n trail
oldest_more [] n e is = absurd (none is)
  where
    none : {X : Type 0} {x : X} → None ≡ Some x → ⊥
    none same_option = cc
oldest_more (x ∷ older) n e is = by_case (slice_get-parts (reverse older) (x ∷ []) n e (subst (λ es. slice_get es n ≡ Some e) (reverse-append (x ∷ []) older) is)) (oldest_more older n e)
  where
    by_case : (slice_get (reverse older) n ≡ Some e) ⊎ ((k : ℕ) × ((n ≡ length (reverse older) + k) × (slice_get (x ∷ []) k ≡ Some e))) → (slice_get (reverse older) n ≡ Some e → oldest (n + 1) older ≡ e ∷ oldest n older) →
        oldest (n + 1) (x ∷ older) ≡ e ∷ oldest n (x ∷ older)
    by_case (inl here) rest =
        let inside : n < length older = omega (arith, slice_get_within (reverse older) n e here, length-reverse older) in
        oldest_cons (n + 1) x older (omega (arith, inside)) ∙ (rest here ∙ ap (λ es. e ∷ es) (sym (oldest_cons n x older (omega (arith, inside)))))
    by_case (inr (k, (at, last))) rest = by_place k at last
      where
        by_place : (j : ℕ) → n ≡ length (reverse older) + j → slice_get (x ∷ []) j ≡ Some e → oldest (n + 1) (x ∷ older) ≡ e ∷ oldest n (x ∷ older)
        by_place zero here found =
            let whole : n ≡ length older = omega (arith, here, length-reverse older) in
            oldest_all (n + 1) (x ∷ older) (omega (arith, whole))
            ∙ (ap (λ y. y ∷ older) (same_Some x e found) ∙ ap (λ es. e ∷ es) (sym (oldest_cons n x older (omega (arith, whole)) ∙ oldest_all n older (omega (arith, whole)))))
        by_place (suc j) here found = absurd (none found)
          where
            none : {X : Type 0} {x : X} → None ≡ Some x → ⊥
            none same_option = cc

-- the entry at a place makes the negation of its literal false
pub trail_step : (trail : List Entry) (n : ℕ) (e : Entry) (own : Literal) → HasDistinctVariables trail → slice_get (reverse trail) n ≡ Some e → own ≡ negation e.lit → IsStep trail (oldest n trail) (oldest (n + 1) trail) own
trail_step trail n e own distinct found is = record {
  distinct = distinct;
  part = oldest_part (n + 1) trail;
  newest = e;
  is = oldest_more trail n e found;
  falsifies = twice e.lit.variable e.lit.positive ∙ ap negation (sym is);
}
  where
    not_not : (b : Bool) → b ≡ not (not b)
    not_not true = refl
    not_not false = refl

    twice : (v : ℕ) (p : Bool) → (let k : Literal = record { variable = v; positive = p } in k) ≡ negation (negation (record { variable = v; positive = p }))
    twice v p = ap (λ (b : Bool). let k : Literal = record { variable = v; positive = b } in k) (not_not p)
