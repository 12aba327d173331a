-- Flags that are set, and the variables that are marked.
use Rattle.std.proofs.Common.{◌≡◌, ℕ, ◌==◌, ◌+◌, ◌≤◌, ◌<◌, Bool, true, false, ◌||◌, List, [], ◌∷◌, ◌++◌, length, set, take, get_or, refl, ap, ◌∙◌, sym, inl, inr}
use Rattle.std.specs.Prelude.{map}
use Rattle.std.proofs.lemmas.Bool.{cases_eq, eq-eqb, ne_eqb}
use Rattle.std.proofs.lemmas.List.{take_more, take_all, get_or-set_same, get_or-set_other}
use Rattle.lit_base.specs.Literal.{Literal}
use Rattle.lit_base.specs.Analysis.{is_marked}
use Rattle.first_uip.specs.Marks.{is_flagged, AreFlagsOf}

-- the order of tests does not matter
pub either_first : (a b c : Bool) → (a || (b || c)) ≡ (b || (a || c))
either_first true true c = refl
either_first true false c = refl
either_first false b c = refl

-- one more literal at the end of those whose variables are marked
marked_push : (lits : List Literal) (l : Literal) (marked : List ℕ) (v : ℕ) →
    is_marked (map (λ k. k.variable) (lits ++ l ∷ []) ++ marked) v ≡ ((l.variable == v) || is_marked (map (λ k. k.variable) lits ++ marked) v)
marked_push [] l marked v = refl
marked_push (k ∷ lits) l marked v =
    ap (λ b. (k.variable == v) || b) (marked_push lits l marked v)
    ∙ either_first (k.variable == v) (l.variable == v) (is_marked (map (λ k. k.variable) lits ++ marked) v)

-- a flag that is set, and the others as they were
pub is_flagged-set : (flags : List Bool) (w v : ℕ) → w < length flags → is_flagged (set flags w true) v ≡ ((w == v) || is_flagged flags v)
is_flagged-set flags w v within = elim (cases_eq w v) [
  | inl same ↦ ap (λ i. get_or (set flags w true) i false) (sym same) ∙ (get_or-set_same flags w true false within ∙ ap (λ b. b || is_flagged flags v) (sym (eq-eqb w v same)))
  | inr other ↦ get_or-set_other flags w v true false (λ is. other (sym is)) ∙ ap (λ b. b || is_flagged flags v) (sym (ne_eqb w v other))
]

-- the flags after one more literal's variable was marked
pub flags_more : (lits : List Literal) (i w : ℕ) (l : Literal) (marked : List ℕ) (flags after : List Bool) → i < length lits → l ≡ get_or lits i l → w ≡ l.variable →
    ((v : ℕ) → is_flagged after v ≡ ((w == v) || is_flagged flags v)) →
    AreFlagsOf (map (λ k. k.variable) (take i lits) ++ marked) flags → AreFlagsOf (map (λ k. k.variable) (take (i + 1) lits) ++ marked) after
flags_more lits i w l marked flags after below is at one are v =
    one v
    ∙ (ap (λ b. (w == v) || b) (are v)
    ∙ (ap (λ x. (x == v) || is_marked (map (λ k. k.variable) (take i lits) ++ marked) v) (at ∙ ap (λ (k : Literal). k.variable) is)
    ∙ (sym (marked_push (take i lits) (get_or lits i l) marked v)
    ∙ ap (λ ls. is_marked (map (λ k. k.variable) ls ++ marked) v) (sym (take_more lits i l below)))))

-- all flags once all literals were met
pub flags_all : (lits : List Literal) (i : ℕ) (marked : List ℕ) (flags : List Bool) → length lits ≤ i →
    AreFlagsOf (map (λ k. k.variable) (take i lits) ++ marked) flags → AreFlagsOf (map (λ k. k.variable) lits ++ marked) flags
flags_all lits i marked flags past are v = are v ∙ ap (λ ls. is_marked (map (λ k. k.variable) ls ++ marked) v) (take_all i lits past)
