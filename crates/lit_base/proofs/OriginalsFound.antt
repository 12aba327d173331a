-- The clauses of a formula are found under their names, and under their numbers.
use Rattle.std.proofs.Common.{◌≡◌, ℕ, zero, suc, ◌==◌, ◌+◌, ◌≤◌, Bool, true, false, cond, ◌&&◌, List, [], ◌∷◌, refl, ap, ◌∙◌, arith}
use Rattle.std.specs.Prelude.{Option, Some, None, option_map, find, slice_get}
use Rattle.std.proofs.lemmas.Bool.{and_parts, eq-eqb, ne_eqb, eqb-true}
use Rattle.lit_base.specs.Literal.{Literal}
use Rattle.lit_base.specs.Cnf.{Cnf}
use Rattle.lit_base.specs.declared.name.Name.{Name}
use Rattle.lit_base.specs.Rounds.{NamedClause, original, named_from, originals}
use Rattle.lit_base.specs.Named.{same_name, lits_at}
use Rattle.lit_base.specs.Fits.{FindsAll}
use Rattle.lit_base.specs.Walk.{FindsMore}
use Rattle.lit_base.specs.Judgement.{LiveClause, numbered_from, live_lits}
use Rattle.lit_base.specs.Refutation.{number_of_original}

-- the literals of the first clause or of a later one
first_or_later : (b : Bool) (c : NamedClause) (o : Option NamedClause) (p : Option (List Literal)) → b ≡ true → option_map (λ d. d.lits) (cond b (Some c) o) ≡ Some c.lits
first_or_later true c o p is = refl
first_or_later false c o p is = cc

later_at : (b : Bool) (c : NamedClause) (o : Option NamedClause) → b ≡ false → option_map (λ d. d.lits) (cond b (Some c) o) ≡ option_map (λ d. d.lits) o
later_at true c o is = cc
later_at false c o is = refl

at_index : (clauses : List (List Literal)) (first i : ℕ) → lits_at (named_from first clauses) (original (first + i)) ≡ slice_get clauses i
at_index [] first i = refl
at_index (lits ∷ others) first zero =
    first_or_later (same_name (original first) (original (first + 0))) (record { name = original first; lits = lits }) (find (λ c. same_name c.name (original (first + 0))) (named_from (first + 1) others)) None
    (eq-eqb first (first + 0) (omega arith))
at_index (lits ∷ others) first (suc i) =
    later_at (same_name (original first) (original (first + suc i))) (record { name = original first; lits = lits }) (find (λ c. same_name c.name (original (first + suc i))) (named_from (first + 1) others))
    (ne_eqb first (first + suc i) (λ is. omega arith))
    ∙ (ap (λ k. lits_at (named_from (first + 1) others) (original k)) (let e : first + suc i ≡ first + 1 + i = omega arith in e) ∙ at_index others (first + 1) i)

finds_from : (look : Name → Option (List Literal)) (clauses : List (List Literal)) (first : ℕ) → ((i : ℕ) → look (original (first + i)) ≡ slice_get clauses i) → FindsAll look (named_from first clauses)
finds_from look [] first at = tt
finds_from look (lits ∷ others) first at = (
  ap (λ k. look (original k)) (let e : first ≡ first + 0 = omega arith in e) ∙ at 0,
  finds_from look others (first + 1) (λ i. ap (λ k. look (original k)) (let e : first + 1 + i ≡ first + suc i = omega arith in e) ∙ at (suc i)),
)

-- each clause of a formula is found under its name
pub originals_found : (cnf : Cnf) → FindsAll (lits_at (originals cnf)) (originals cnf)
originals_found cnf = finds_from (lits_at (originals cnf)) cnf.clauses 0 (at_index cnf.clauses 0)

same_index : (first : ℕ) (name : Name) → same_name (original first) name ≡ true → first ≡ name.index
same_index first name is =
    let outer = and_parts (0 == name.period) ((0 == name.core) && (first == name.index)) is in
    let inner = and_parts (0 == name.core) (first == name.index) outer.1 in
    eqb-true first name.index inner.1

least_by : (b : Bool) (first : ℕ) (name : Name) (c : NamedClause) (o : Option NamedClause) (lits : List Literal) → same_name (original first) name ≡ b →
    option_map (λ d. d.lits) (cond b (Some c) o) ≡ Some lits → (option_map (λ d. d.lits) o ≡ Some lits → first + 1 ≤ name.index) → first ≤ name.index
least_by true first name c o lits is found later = let e : first ≡ name.index = same_index first name is in omega arith
least_by false first name c o lits is found later = let above : first + 1 ≤ name.index = later found in omega arith

-- a name that is found is one of those from the first on
found_at_least : (clauses : List (List Literal)) (first : ℕ) (name : Name) (lits : List Literal) → lits_at (named_from first clauses) name ≡ Some lits → first ≤ name.index
found_at_least [] first name lits found = cc
found_at_least (c ∷ others) first name lits found =
    least_by (same_name (original first) name) first name (record { name = original first; lits = c }) (find (λ d. same_name d.name name) (named_from (first + 1) others)) lits refl found
    (found_at_least others (first + 1) name lits)

number_by : (b : Bool) (first : ℕ) (name : Name) (c lits : List Literal) (o : Option NamedClause) (p : Option LiveClause) → same_name (original first) name ≡ b →
    option_map (λ d. d.lits) (cond b (Some (record { name = original first; lits = c })) o) ≡ Some lits →
    (option_map (λ d. d.lits) o ≡ Some lits → (first + 1 ≤ name.index) × (option_map (λ d. d.lits) p ≡ Some lits)) →
    option_map (λ d. d.lits) (cond (first + 1 == name.index + 1) (Some (record { id = first + 1; lits = c })) p) ≡ Some lits
number_by true first name c lits o p is found later =
    let e : first ≡ name.index = same_index first name is in
    ap (λ b. option_map (λ d. d.lits) (cond b (Some (let live : LiveClause = record { id = first + 1; lits = c } in live)) p)) (eq-eqb (first + 1) (name.index + 1) (omega arith)) ∙ found
number_by false first name c lits o p is found later =
    let rest = later found in
    let above : first + 1 ≤ name.index = rest.0 in
    ap (λ b. option_map (λ d. d.lits) (cond b (Some (let live : LiveClause = record { id = first + 1; lits = c } in live)) p)) (ne_eqb (first + 1) (name.index + 1) (λ same. omega arith)) ∙ rest.1

found_by_number : (clauses : List (List Literal)) (first : ℕ) (name : Name) (lits : List Literal) → lits_at (named_from first clauses) name ≡ Some lits →
    live_lits (numbered_from (first + 1) clauses) (name.index + 1) ≡ Some lits
found_by_number [] first name lits found = cc
found_by_number (c ∷ others) first name lits found =
    number_by (same_name (original first) name) first name c lits (find (λ d. same_name d.name name) (named_from (first + 1) others)) (find (λ d. d.id == name.index + 1) (numbered_from (first + 1 + 1) others)) refl found
    (λ later. (found_at_least others (first + 1) name lits later, found_by_number others (first + 1) name lits later))

-- what is found under the name of an original is found under its number
pub originals_numbered : (cnf : Cnf) → FindsMore (lits_at (originals cnf)) (live_lits (numbered_from 1 cnf.clauses)) number_of_original
originals_numbered cnf name lits found = found_by_number cnf.clauses 0 name lits found
