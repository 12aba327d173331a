-- The live clauses after additions and deletions, and the checker that has them.
use Rattle.std.proofs.Common.{◌≡◌, ℕ, ◌+◌, ◌<◌, ◌≤◌, ◌==◌, Bool, true, false, cond, not, List, [], ◌∷◌, ◌++◌, length, get_or, take, drop, refl, ap, sym, ◌∙◌, arith, eqb-true, ne_eqb}
use Rattle.std.specs.Prelude.{Option, Some, None, find, filter, map, option_map, is_some, Ok, Err}
use Rattle.std.proofs.lemmas.Bool.{lt-leb}
use Rattle.std.proofs.lemmas.Bool.Decides.{nat_tests}
use Rattle.std.proofs.lemmas.List.{drop_more, drop_all, take_more, length-take-le}
use Rattle.lit_base.specs.Literal.{Literal}
use Rattle.lit_base.specs.Judgement.{LiveClause, Live, numbered_from, live_lits, with_lemma, without_id, added, deleted, judged_step}
use Rattle.lit_base.specs.Walk.{judgement_of}
use Rattle.lit_base.specs.declared.proof.Judged.{Judged}
use Rattle.lit_base.specs.declared.proof.Judged.TheVariants.{Follows}
use Rattle.lit_base.specs.declared.proof.LineStep.TheVariants.{Add}
use Rattle.lit_base.specs.declared.proof.ProofFault.TheVariants as fault

-- one clause more
pub lits_more : (c : LiveClause) (clauses : List LiveClause) (n : ℕ) → live_lits (c ∷ clauses) n ≡ cond (c.id == n) (Some c.lits) (live_lits clauses n)
lits_more c clauses n = by_id (c.id == n)
  where
    by_id : (b : Bool) → option_map (λ d. d.lits) (cond b (Some c) (find (λ d. d.id == n) clauses)) ≡ cond b (Some c.lits) (live_lits clauses n)
    by_id true = refl
    by_id false = refl

same_id : (a b n : ℕ) → (a == b) ≡ true → (a == n) ≡ (b == n)
same_id a b n is = ap (λ m. m == n) (eqb-true a b is)

other_id : (a b n : ℕ) → (a == b) ≡ false → (a == n) ≡ true → (b == n) ≡ false
other_id a b n differ is = grind (arith, nat_tests)

-- one clause less
pub lits_less : (id : ℕ) (clauses : List LiveClause) (n : ℕ) → live_lits (filter (λ c. not (c.id == id)) clauses) n ≡ cond (id == n) None (live_lits clauses n)
lits_less id [] n = by_id (id == n)
  where
    by_id : (b : Bool) → (let o : Option (List Literal) = None in o) ≡ cond b None None
    by_id true = refl
    by_id false = refl
lits_less id (c ∷ cs) n = by_first (c.id == id) refl (lits_less id cs n)
  where
    rest : Option (List Literal)
    rest = live_lits cs n

    dropped : (b : Bool) → cond b None rest ≡ cond b None (cond b (Some c.lits) rest)
    dropped true = refl
    dropped false = refl

    kept : (b d : Bool) → (b ≡ true → d ≡ false) → cond b (Some c.lits) (cond d None rest) ≡ cond d None (cond b (Some c.lits) rest)
    kept true d apart = let gone = apart refl in ap (λ e. cond e None (Some c.lits)) (sym gone)
    kept false d apart = refl

    by_first : (a : Bool) → (c.id == id) ≡ a → live_lits (filter (λ d. not (d.id == id)) cs) n ≡ cond (id == n) None rest → live_lits (cond (not a) (c ∷ filter (λ d. not (d.id == id)) cs) (filter (λ d. not (d.id == id)) cs)) n ≡ cond (id == n) None (live_lits (c ∷ cs) n)
    by_first true is later =
        later ∙ (dropped (id == n) ∙ ap (λ o. cond (id == n) None o) (ap (λ b. cond b (Some c.lits) rest) (sym (same_id c.id id n is)) ∙ sym (lits_more c cs n)))
    by_first false is later =
        lits_more c (filter (λ d. not (d.id == id)) cs) n
        ∙ (ap (λ o. cond (c.id == n) (Some c.lits) o) later
        ∙ (kept (c.id == n) (id == n) (other_id c.id id n is) ∙ ap (λ o. cond (id == n) None o) (sym (lits_more c cs n))))

-- one clause more of a formula
pub numbered_more : (clauses : List (List Literal)) (lits : List Literal) (first : ℕ) (n : ℕ) →
    live_lits (numbered_from first (clauses ++ lits ∷ [])) n ≡ cond (first + length clauses == n) (Some lits) (live_lits (numbered_from first clauses) n)
numbered_more [] lits first n = lits_more (record { id = first; lits = lits }) [] n ∙ ap (λ m. cond (m == n) (Some lits) None) (let e : first ≡ first + 0 = omega arith in e)
numbered_more (c ∷ cs) lits first n =
    lits_more (record { id = first; lits = c }) (numbered_from (first + 1) (cs ++ lits ∷ [])) n
    ∙ (ap (λ o. cond (first == n) (Some c) o) (numbered_more cs lits (first + 1) n ∙ ap (λ m. cond (m == n) (Some lits) rest) (let e : first + 1 + length cs ≡ first + length (c ∷ cs) = omega arith in e))
    ∙ (swapped (first == n) (first + length (c ∷ cs) == n) (λ is. other_id first (first + length (c ∷ cs)) n (ne_eqb first (first + length (c ∷ cs)) (λ e. omega (arith, e))) is)
    ∙ ap (λ o. cond (first + length (c ∷ cs) == n) (Some lits) o) (sym (lits_more (record { id = first; lits = c }) (numbered_from (first + 1) cs) n))))
  where
    rest : Option (List Literal)
    rest = live_lits (numbered_from (first + 1) cs) n

    swapped : (b d : Bool) → (b ≡ true → d ≡ false) → cond b (Some c) (cond d (Some lits) rest) ≡ cond d (Some lits) (cond b (Some c) rest)
    swapped true d apart = let gone = apart refl in ap (λ e. cond e (Some lits) (Some c)) (sym gone)
    swapped false d apart = refl

-- two look-ups that find the same give the same hints
pub hints_alike : (look found : ℕ → Option (List Literal)) → ((n : ℕ) → look n ≡ found n) → (hints : List ℕ) → map look hints ≡ map found hints
hints_alike look found alike [] = refl
hints_alike look found alike (n ∷ ns) = ap (λ o. o ∷ map look ns) (alike n) ∙ ap (λ os. found n ∷ os) (hints_alike look found alike ns)

-- the clauses of a formula's front with the next one
pub original_more : (look after : ℕ → Option (List Literal)) (formula : List (List Literal)) (i : ℕ) (lits x : List Literal) → i < length formula → x ≡ get_or formula i x → lits ≡ x →
    ((n : ℕ) → after n ≡ cond (i + 1 == n) (Some lits) (look n)) → ((n : ℕ) → look n ≡ live_lits (numbered_from 1 (take i formula)) n) → (n : ℕ) → after n ≡ live_lits (numbered_from 1 (take (i + 1) formula)) n
original_more look after formula i lits x within is same put found n =
    put n
    ∙ (ap (λ ls. cond (i + 1 == n) (Some ls) (look n)) same
    ∙ (ap (λ o. cond (i + 1 == n) (Some x) o) (found n)
    ∙ (ap (λ m. cond (m == n) (Some x) (live_lits (numbered_from 1 (take i formula)) n)) size
    ∙ (sym (numbered_more (take i formula) x 1 n) ∙ ap (λ clauses. live_lits (numbered_from 1 clauses) n) (sym front)))))
  where
    size : i + 1 ≡ 1 + length (take i formula)
    size = let front_size = length-take-le i formula (omega (arith, within)) in omega (arith, front_size)

    front : take (i + 1) formula ≡ take i formula ++ x ∷ []
    front = take_more formula i x within ∙ ap (λ y. take i formula ++ y ∷ []) (sym is)

-- a lemma that follows becomes live
pub found_more : (look after : ℕ → Option (List Literal)) (id : ℕ) (lits : List Literal) (live : Live) → ((n : ℕ) → after n ≡ cond (id == n) (Some lits) (look n)) →
    ((n : ℕ) → look n ≡ live_lits live.clauses n) → (n : ℕ) → after n ≡ live_lits (with_lemma id lits live).clauses n
found_more look after id lits live put found n =
    put n ∙ (ap (λ o. cond (id == n) (Some lits) o) (found n) ∙ sym (lits_more (record { id = id; lits = lits }) live.clauses n))

pub adds : (line id : ℕ) (lits : List Literal) (hints : List ℕ) (live : Live) (look : ℕ → Option (List Literal)) (judged : Judged) → live.last < id → ((n : ℕ) → look n ≡ live_lits live.clauses n) →
    judged ≡ judgement_of lits (map look hints) → judged ≡ Follows → judged_step line (Add id lits hints) live ≡ Ok (with_lemma id lits live)
adds line id lits hints live look judged rises found is follows =
    ap (λ b. cond b (Err (fault.IdNotRising line)) (added line id lits live (judgement_of lits (map (live_lits live.clauses) hints)))) (lt-leb id live.last rises)
    ∙ ap (added line id lits live) (ap (judgement_of lits) (sym (hints_alike look (live_lits live.clauses) found hints)) ∙ (sym is ∙ follows))

-- a clause that is deleted is live no more
pub found_less : (look after : ℕ → Option (List Literal)) (id : ℕ) (live : Live) → ((n : ℕ) → after n ≡ cond (id == n) None (look n)) →
    ((n : ℕ) → look n ≡ live_lits live.clauses n) → (n : ℕ) → after n ≡ live_lits (without_id id live).clauses n
found_less look after id live removed found n =
    removed n ∙ (ap (λ o. cond (id == n) None o) (found n) ∙ sym (lits_less id live.clauses n))

-- the next id of a deletion
deletes_next : (line : ℕ) (ids : List ℕ) (i : ℕ) (live : Live) (b : Bool) → i < length ids → b ≡ is_some (live_lits live.clauses (get_or ids i 0)) →
    deleted line (i + 1) (drop i ids) live ≡ cond b (deleted line (i + 1 + 1) (drop (i + 1) ids) (without_id (get_or ids i 0) live)) (Err (fault.UnknownDelete line (i + 1)))
deletes_next line ids i live b within is =
    ap (λ ns. deleted line (i + 1) ns live) (drop_more ids i 0 within)
    ∙ ap (λ t. cond t (deleted line (i + 1 + 1) (drop (i + 1) ids) (without_id (get_or ids i 0) live)) (Err (fault.UnknownDelete line (i + 1)))) (sym is)

-- it is that of a live clause
pub deletes_one : (line : ℕ) (ids : List ℕ) (i : ℕ) (live : Live) (look : ℕ → Option (List Literal)) → i < length ids → ((n : ℕ) → look n ≡ live_lits live.clauses n) →
    true ≡ is_some (look (get_or ids i 0)) → deleted line (i + 1) (drop i ids) live ≡ deleted line (i + 1 + 1) (drop (i + 1) ids) (without_id (get_or ids i 0) live)
deletes_one line ids i live look within found is = deletes_next line ids i live true within (is ∙ ap is_some (found (get_or ids i 0)))

-- it isn't
pub deletes_none : (line : ℕ) (ids : List ℕ) (i : ℕ) (live : Live) (look : ℕ → Option (List Literal)) → i < length ids → ((n : ℕ) → look n ≡ live_lits live.clauses n) →
    false ≡ is_some (look (get_or ids i 0)) → deleted line (i + 1) (drop i ids) live ≡ Err (fault.UnknownDelete line (i + 1))
deletes_none line ids i live look within found is = deletes_next line ids i live false within (is ∙ ap is_some (found (get_or ids i 0)))

-- all are deleted
pub deletes_all : (line : ℕ) (ids : List ℕ) (i : ℕ) (live : Live) → length ids ≤ i → deleted line (i + 1) (drop i ids) live ≡ Ok live
deletes_all line ids i live all = ap (λ ns. deleted line (i + 1) ns live) (drop_all i ids all)
