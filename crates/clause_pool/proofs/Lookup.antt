-- Looking up held clauses among those that are found by their index and those that are found by their name.
use Rattle.std.proofs.Common.{◌≡◌, ℕ, ◌<◌, ◌==◌, ◌&&◌, Bool, true, false, cond, List, [], ◌∷◌, ◌++◌, length, refl, ap, sym, ◌∙◌}
use Rattle.std.specs.Prelude.{Option, Some, None, option_map, is_some, IsTrue, nat_lt}
use Rattle.std.proofs.lemmas.Bool.{and_left}
use Rattle.lit_base.specs.Literal.{Literal}
use Rattle.lit_base.specs.Named.{same_name, lits_at}
use Rattle.lit_base.specs.Held.{HeldClause, clauses_of}
use Rattle.lit_base.specs.declared.name.Name.{Name}
use Rattle.clause_pool.specs.Arena.{at_place}
use Rattle.clause_pool.specs.Slots.{row_names, place_at, AreApart}
use Rattle.clause_pool.specs.Pooled.{held_of, originals_of, is_front}
use Rattle.clause_pool.specs.Uses.{uses_of}
use Rattle.clause_pool.proofs.ClauseAt.{clause_at, lits_at-clause_at, clause_at-held_of, at_place-clause_at}
use Rattle.clause_pool.proofs.Fronts.{original_of, clause_at-front, clause_at-behind, clause_at-left, clause_at-right, is_front-true, at_place-some}

-- a name has a place where it has a clause
some_place : (rows : List HeldClause) (n : Name) → is_some (place_at (row_names rows) n) ≡ is_some (clause_at rows n)
some_place [] n = refl
some_place (c ∷ older) n = by_test (same_name c.name n) (some_place older n)
  where
    by_test : (b : Bool) → is_some (place_at (row_names older) n) ≡ is_some (clause_at older n) →
        is_some (cond b (Some (length (row_names older))) (place_at (row_names older) n)) ≡ is_some (cond b (Some c) (clause_at older n))
    by_test true rest = refl
    by_test false rest = rest

pub some_mapped : {X Y : Type 0} (f : X → Y) (o : Option X) → is_some (option_map f o) ≡ is_some o
some_mapped f None = refl
some_mapped f (Some x) = refl

-- the parts of a pool, and its value
pub record IsView (table : List HeldClause) (parts : List (List Literal)) (held : List HeldClause) : Type 0 where
  pub apart : AreApart (row_names (table ++ originals_of parts))
  pub is : held_of (table ++ originals_of parts) ≡ held

clause_of_view : (table : List HeldClause) (parts : List (List Literal)) (held : List HeldClause) (n : Name) → IsView table parts held → clause_at held n ≡ clause_at (table ++ originals_of parts) n
clause_of_view table parts held n view = ap (λ h. clause_at h n) (sym view.is) ∙ clause_at-held_of (table ++ originals_of parts) n view.apart

-- a name that isn't that of a first original is held where it has a place in the table
pub behind_held : (table : List HeldClause) (parts : List (List Literal)) (held : List HeldClause) (n : Name) → IsView table parts held → is_front (length parts) n ≡ false →
    is_some (lits_at (clauses_of held) n) ≡ is_some (place_at (row_names table) n)
behind_held table parts held n view behind =
    ap is_some (lits_at-clause_at held n)
    ∙ (some_mapped (λ c. c.lits) (clause_at held n)
    ∙ (ap is_some (clause_of_view table parts held n view ∙ clause_at-left table (originals_of parts) n (clause_at-behind parts n behind)) ∙ sym (some_place table n)))

-- its clause stands there
pub behind_clause : (table : List HeldClause) (parts : List (List Literal)) (held : List HeldClause) (n : Name) (place : ℕ) → IsView table parts held → is_front (length parts) n ≡ false →
    place_at (row_names table) n ≡ Some place → (clause_at held n ≡ at_place table place) × (place < length table)
behind_clause table parts held n place view behind is =
    let at = at_place-clause_at table n place is in
    (clause_of_view table parts held n view ∙ (clause_at-left table (originals_of parts) n (clause_at-behind parts n behind) ∙ sym at.0), at.1)

-- a first original is held, and stands at its index
front_clause : (table : List HeldClause) (parts : List (List Literal)) (held : List HeldClause) (n : Name) (lits : List Literal) → IsView table parts held → is_front (length parts) n ≡ true →
    at_place parts n.index ≡ Some lits → clause_at held n ≡ Some (original_of n.index lits)
front_clause table parts held n lits view front is =
    clause_of_view table parts held n view
    ∙ clause_at-right table (originals_of parts) n (original_of n.index lits) view.apart (clause_at-front parts n front ∙ ap (option_map (original_of n.index)) is)

front_lits : (table : List HeldClause) (parts : List (List Literal)) (held : List HeldClause) (n : Name) (lits : List Literal) → IsView table parts held → is_front (length parts) n ≡ true →
    at_place parts n.index ≡ Some lits → lits_at (clauses_of held) n ≡ Some lits
front_lits table parts held n lits view front is = lits_at-clause_at held n ∙ ap (λ o. option_map (λ c. c.lits) o) (front_clause table parts held n lits view front is)

-- its uses aren't counted
pub front_uses : (table : List HeldClause) (parts : List (List Literal)) (held : List HeldClause) (n : Name) → IsView table parts held → is_front (length parts) n ≡ true → uses_of held n ≡ Some 0
front_uses table parts held n view front = by_part (at_place parts n.index) refl (at_place-some parts n.index (is_front-true (length parts) n front).below)
  where
    by_part : (o : Option (List Literal)) → at_place parts n.index ≡ o → IsTrue (is_some o) → uses_of held n ≡ Some 0
    by_part None is some = cc
    by_part (Some lits) is some = ap (λ c. option_map (λ d. d.uses) c) (front_clause table parts held n lits view front is)

pub front_held : (table : List HeldClause) (parts : List (List Literal)) (held : List HeldClause) (n : Name) → IsView table parts held → is_front (length parts) n ≡ true →
    true ≡ is_some (lits_at (clauses_of held) n)
front_held table parts held n view front = by_part (at_place parts n.index) refl (at_place-some parts n.index (is_front-true (length parts) n front).below)
  where
    by_part : (o : Option (List Literal)) → at_place parts n.index ≡ o → IsTrue (is_some o) → true ≡ is_some (lits_at (clauses_of held) n)
    by_part None is some = cc
    by_part (Some lits) is some = ap is_some (sym (front_lits table parts held n lits view front is))

-- a lemma isn't among the first originals
pub lemma_behind : (count : ℕ) (n : Name) → (n.period == 0) ≡ false → is_front count n ≡ false
lemma_behind count n lemma = and_left (n.period == 0) ((n.core == 0) && nat_lt n.index count) lemma
