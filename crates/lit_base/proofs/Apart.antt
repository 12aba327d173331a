-- The distinct literals of a list.
use Rattle.std.proofs.Common.{◌≡◌, true, false, not, List, [], ◌∷◌, filter}
use Rattle.std.specs.List.{IsDistinct}
use Rattle.std.proofs.ByRecursion.{kept_by_passes}
use Rattle.std.proofs.lemmas.Bool.{not-true}
use Rattle.lit_base.specs.Literal.{Literal, same}
use Rattle.lit_base.specs.Distinct.{distinct}
use Rattle.lit_base.proofs.Lists.{each_when, IsDistinct-filter}

-- the distinct literals are distinct
pub distinct_apart : (lits : List Literal) → IsDistinct same (distinct lits)
unfolding IsDistinct
distinct_apart [] = tt
distinct_apart (l ∷ ls) = (
  each_when (λ m. not (same l m) ≡ true) (λ m. same l m ≡ false) (λ m differs. not-true (same l m) differs) (filter (λ m. not (same l m)) (distinct ls))
      (kept_by_passes (λ m. not (same l m)) (distinct ls)),
  IsDistinct-filter same (λ m. not (same l m)) (distinct ls) (distinct_apart ls),
)
