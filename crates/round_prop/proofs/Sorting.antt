-- Notes that were sorted by their names.
use Rattle.std.proofs.Common.{◌≡◌, ℕ, suc, ◌<◌, ◌≤◌, ◌==◌, Bool, true, false, cond, ◌&&◌, ◌||◌, List, [], ◌∷◌, length, get_or, refl, sym, ◌∙◌, arith}
use Rattle.std.specs.Prelude.{nat_lt}
use Rattle.std.specs.List.Sorted.{IsPermutation, IsSortedByKey}
use Rattle.std.proofs.Common.{Ordering, Less, Equal, Greater}
use Rattle.std.specs.Ordering.{nat_cmp, is_lt, ordering_then}
use Rattle.std.specs.Cmp.{IsStrictWeakOrder}
use Rattle.std.proofs.lemmas.Cmp.{then_total, on_total, nat_cmp_total}
use Rattle.std.proofs.lemmas.List.Elements.{recursion_from_All, All-from_recursion}
use Rattle.std.proofs.lemmas.List.MinMax.{ranks_by}
use Rattle.std.proofs.lemmas.List.Sorted.{sorted_far, All-permutation}
use Rattle.lit_base.specs.Held.{is_before}
use Rattle.lit_base.specs.Rounds.{NamedClause}
use Rattle.lit_base.specs.declared.trail.Entry.{Entry}
use Rattle.lit_base.specs.declared.name.Name.{Name}
use Rattle.round_prop.specs.declared.note.Note.{Note}
use Rattle.round_prop.specs.Noting.{AreInOrder, AreNotesOf, IsNoteOf}

-- names in the order in which they are compared
abbrev pub name_order : Name → Name → Ordering
name_order a b = ordering_then (nat_cmp a.period b.period) (ordering_then (nat_cmp a.core b.core) (nat_cmp a.index b.index))

lt_before : (a b : Name) → is_lt (name_order a b) ≡ is_before a b
lt_before a b = by_tests (nat_lt a.period b.period) (a.period == b.period) (nat_lt a.core b.core) (a.core == b.core) (nat_lt a.index b.index) (a.index == b.index)
  where
    by_tests : (p q r s t u : Bool) →
        is_lt (ordering_then (cond p Less (cond q Equal Greater)) (ordering_then (cond r Less (cond s Equal Greater)) (cond t Less (cond u Equal Greater)))) ≡ (p || (q && (r || (s && t))))
    by_tests true q r s t u = refl
    by_tests false false r s t u = refl
    by_tests false true true s t u = refl
    by_tests false true false false t u = refl
    by_tests false true false true true u = refl
    by_tests false true false true false true = refl
    by_tests false true false true false false = refl

ranks : IsStrictWeakOrder (λ (x y : Note). is_lt (name_order x.name y.name))
ranks = ranks_by (then_total (on_total (λ (n : Name). n.period) nat_cmp_total) (then_total (on_total (λ (n : Name). n.core) nat_cmp_total) (on_total (λ (n : Name). n.index) nat_cmp_total))) (λ (n : Note). n.name)

from_far : (notes : List Note) → ((i j : ℕ) (d : Note) → i ≤ j → j < length notes → is_lt (name_order (get_or notes j d).name (get_or notes i d).name) ≡ false) → AreInOrder notes
from_far [] far = tt
from_far (n ∷ later) far = (
  recursion_from_All (λ (m : Note). is_before m.name n.name ≡ false) later (λ k d below. sym (lt_before (get_or later k d).name n.name) ∙ far 0 (suc k) d (omega arith) (omega (arith, below))),
  from_far later (λ i j d low below. far (suc i) (suc j) d (omega (arith, low)) (omega (arith, below))),
)

pub in_order : (notes : List Note) → IsSortedByKey (λ (n : Note). n.name) name_order notes → AreInOrder notes
in_order notes sorted = from_far notes (sorted_far (λ (x y : Note). is_lt (name_order x.name y.name)) ranks notes sorted)

-- the same notes are true
pub sound_sorted : (trail : List Entry) (clauses : List NamedClause) (notes sorted : List Note) → IsPermutation notes sorted → AreNotesOf trail clauses notes → AreNotesOf trail clauses sorted
sound_sorted trail clauses notes sorted same all =
    recursion_from_All (IsNoteOf trail clauses) sorted (All-permutation (IsNoteOf trail clauses) notes sorted same (All-from_recursion (IsNoteOf trail clauses) notes all))
