-- Lemmas that are derived from the clauses of a formula, one after the other, are a proof whose lines are in order.
use Rattle.std.proofs.Common.{◌≡◌, ℕ, ◌==◌, ◌+◌, ◌≤◌, ◌<◌, Bool, true, false, cond, List, [], ◌∷◌, ◌++◌, length, refl, ap, sym, ◌∙◌, subst, arith}
use Rattle.std.specs.Prelude.{Option, Some, None, map, fold, find, option_map, Ok, Err, is_ok, IsOk}
use Rattle.std.specs.List.{AllByRecursion}
use Rattle.std.proofs.lemmas.Bool.{and_from, eq-eqb, ne_eqb, lt-leb, or_left, or_right}
use Rattle.lit_base.specs.Literal.{Literal}
use Rattle.lit_base.specs.Cnf.{Cnf}
use Rattle.lit_base.specs.Rounds.{NamedClause, original, named_from, originals}
use Rattle.lit_base.specs.Named.{same_name, lits_at}
use Rattle.lit_base.specs.Walk.{judgement_of}
use Rattle.lit_base.specs.Judgement.{LiveClause, Live, numbered_from, first_live, live_lits, with_lemma, added, judged_step, judged_line, judge, add_empty, up_to_empty, Checks}
use Rattle.lit_base.specs.declared.name.Name.{Name}
use Rattle.lit_base.specs.declared.proof.Line.{Line}
use Rattle.lit_base.specs.declared.proof.LineStep.TheVariants.{Add}
use Rattle.lit_base.specs.declared.proof.Judged.TheVariants.{Follows}
use Rattle.lit_base.specs.declared.proof.ProofFault.TheVariants.{IdNotRising}
use Rattle.lit_base.proofs.WalkMore.{judgement_more}
use Rattle.lit_base.proofs.HeldClauses.{same_name-true, lits_at-cons}
use Rattle.lit_base.proofs.OriginalsFound.{originals_numbered}
use Rattle.lit_base.specs.Refutation.{number_of_original}
use Rattle.solo_core.proofs.Derived.{found_behind, found_in_front}
use Rattle.solo_core.specs.declared.lemma.Lemma.{Lemma}
use Rattle.solo_core.specs.State.{lemma_clause}
use Rattle.solo_core.specs.Log.{lines_of, AreNumbered, NumbersOriginals}
use Rattle.solo_core.specs.Soundness.{HasLiterals, AreDerived, EndsEmpty}

-- what is known under a name is live under the name's number, which is no greater than the last id
record IsLive (known : List NamedClause) (live : Live) (number : Name → ℕ) (name : Name) (lits : List Literal) : Type 0 where
  bound : number name ≤ live.last
  found : live_lits live.clauses (number name) ≡ Some lits

abbrev AreLive : List NamedClause → Live → (Name → ℕ) → Type 0
AreLive known live number = (name : Name) (lits : List Literal) → lits_at known name ≡ Some lits → IsLive known live number name lits

-- a lemma under the next id
newest_live : (id : ℕ) (lits : List Literal) (live : Live) → live_lits (with_lemma id lits live).clauses id ≡ Some lits
newest_live id lits live =
    ap (λ b. option_map (λ c. c.lits) (cond b (Some (let c : LiveClause = record { id = id; lits = lits } in c)) (find (λ c. c.id == id) live.clauses))) (eq-eqb id id refl)

older_live : (id older : ℕ) (lits : List Literal) (live : Live) → older < id → live_lits (with_lemma id lits live).clauses older ≡ live_lits live.clauses older
older_live id older lits live low =
    ap (λ b. option_map (λ c. c.lits) (cond b (Some (let c : LiveClause = record { id = id; lits = lits } in c)) (find (λ c. c.id == older) live.clauses))) (ne_eqb id older (λ is. omega (arith, is)))

live_with : (known : List NamedClause) (live : Live) (number : Name → ℕ) (lemma : Lemma) (id : ℕ) → AreLive known live number → live.last < id → number lemma.name ≡ id →
    AreLive (known ++ lemma_clause lemma ∷ []) (with_lemma id lemma.lits live) number
live_with known live number lemma id are low is name lits found = by_known (lits_at known name) refl
  where
    by_name : (b : Bool) → same_name lemma.name name ≡ b → lits_at known name ≡ None → cond b (Some lemma.lits) None ≡ Some lits →
        IsLive (known ++ lemma_clause lemma ∷ []) (with_lemma id lemma.lits live) number name lits
    by_name true here none own =
        let same : number name ≡ id = ap number (sym (same_name-true lemma.name name here)) ∙ is in
        record {
          bound = omega (arith, same);
          found = ap (λ n. live_lits (with_lemma id lemma.lits live).clauses n) same ∙ (newest_live id lemma.lits live ∙ own);
        }
    by_name false other none own = cc

    by_known : (o : Option (List Literal)) → lits_at known name ≡ o → IsLive (known ++ lemma_clause lemma ∷ []) (with_lemma id lemma.lits live) number name lits
    by_known (Some front) some =
        let before = are name front some in
        let same : Some front ≡ Some lits = sym (found_in_front known (lemma_clause lemma ∷ []) name front some) ∙ found in
        let low_bound : number name ≤ live.last = before.bound in
        record {
          bound = omega (arith, low_bound);
          found = older_live id (number name) lemma.lits live (omega (arith, low_bound)) ∙ (before.found ∙ same);
        }
    by_known None none =
        by_name (same_name lemma.name name) refl none (sym (lits_at-cons (lemma_clause lemma) [] name) ∙ (sym (found_behind known (lemma_clause lemma ∷ []) name none) ∙ found))

-- a derived lemma under a higher id is added
step_ok : (known : List NamedClause) (live : Live) (number : Name → ℕ) (lemma : Lemma) (line id : ℕ) → AreLive known live number → live.last < id →
    judgement_of lemma.lits (map (lits_at known) lemma.hints) ≡ Follows →
    judged_step line (Add id lemma.lits (map number lemma.hints)) live ≡ Ok (with_lemma id lemma.lits live)
step_ok known live number lemma line id are low follows =
    let more = judgement_more (lits_at known) (live_lits live.clauses) number (λ name lits is. (are name lits is).found) lemma.lits lemma.hints follows in
    ap (λ b. cond b (Err (IdNotRising line)) (added line id lemma.lits live (judgement_of lemma.lits (map (live_lits live.clauses) (map number lemma.hints))))) (lt-leb id live.last low)
    ∙ ap (added line id lemma.lits live) more

-- the lines of derived lemmas are in order
lines_ok : (known : List NamedClause) (live : Live) (number : Name → ℕ) (line id : ℕ) (lemmas : List Lemma) → AreLive known live number → live.last < id → AreNumbered number id lemmas →
    AreDerived known lemmas → IsOk (fold judged_line (Ok live) (lines_of number line id lemmas))
lines_ok known live number line id [] are low numbered derived = refl
lines_ok known live number line id (lemma ∷ later) are low numbered derived =
    subst (λ r. IsOk (fold judged_line r (lines_of number (line + 1) (id + 1) later))) (sym (step_ok known live number lemma line id are low derived.0.follows))
    (lines_ok (known ++ lemma_clause lemma ∷ []) (with_lemma id lemma.lits live) number (line + 1) (id + 1) later
    (live_with known live number lemma id are low numbered.0) (omega arith) numbered.1 derived.1)

-- a clause of a formula is found under the name of an original, and no other name finds one
original_at : (first : ℕ) (clauses : List (List Literal)) (name : Name) (lits : List Literal) → lits_at (named_from first clauses) name ≡ Some lits →
    (index : ℕ) × (name ≡ original index) × (index < first + length clauses)
original_at first [] name lits is = cc
original_at first (c ∷ others) name lits is =
    by_name (same_name (original first) name) refl (sym (lits_at-cons (let this : NamedClause = record { name = original first; lits = c } in this) (named_from (first + 1) others) name) ∙ is)
    (original_at (first + 1) others name lits)
  where
    by_name : (b : Bool) → same_name (original first) name ≡ b → cond b (Some c) (lits_at (named_from (first + 1) others) name) ≡ Some lits →
        (lits_at (named_from (first + 1) others) name ≡ Some lits → (index : ℕ) × (name ≡ original index) × (index < first + 1 + length others)) →
        (index : ℕ) × (name ≡ original index) × (index < first + length (c ∷ others))
    by_name true here found later = (first, sym (same_name-true (original first) name here), omega arith)
    by_name false other found later = let rest = later found in (rest.0, rest.1, omega (arith, rest.2))

-- at first the originals are live under their numbers
originals_live : (cnf : Cnf) (number : Name → ℕ) → NumbersOriginals number → AreLive (originals cnf) (first_live cnf) number
originals_live cnf number numbers name lits is =
    let at = original_at 0 cnf.clauses name lits is in
    let same : number name ≡ at.0 + 1 = ap number at.1 ∙ numbers at.0 in
    record {
      bound = omega (arith, same, at.2);
      found = ap (λ n. live_lits (numbered_from 1 cnf.clauses) n) (same ∙ ap number_of_original (sym at.1)) ∙ originals_numbered cnf name lits is;
    }

-- the lines of lemmas that are derived from the clauses of a formula are in order
pub log_in_order : (cnf : Cnf) (number : Name → ℕ) (lemmas : List Lemma) → NumbersOriginals number → AreNumbered number (length cnf.clauses + 1) lemmas → AreDerived (originals cnf) lemmas →
    IsOk (judge cnf (lines_of number 1 (length cnf.clauses + 1) lemmas))
log_in_order cnf number lemmas numbers numbered derived =
    lines_ok (originals cnf) (first_live cnf) number 1 (length cnf.clauses + 1) lemmas (originals_live cnf number numbers) (omega arith) numbered derived

-- where the last lemma alone is empty, the lines up to the first empty one are all of them
whole_log : (number : Name → ℕ) (line id : ℕ) (earlier : List Lemma) (last : Lemma) → AllByRecursion HasLiterals earlier → last.lits ≡ [] →
    (add_empty (lines_of number line id (earlier ++ last ∷ [])) ≡ true)
    × (up_to_empty (lines_of number line id (earlier ++ last ∷ [])) ≡ lines_of number line id (earlier ++ last ∷ []))
whole_log number line id [] last none empty =
    let here : (length last.lits == 0) ≡ true = ap (λ lits. length lits == 0) empty in (
      or_left (length last.lits == 0) false here,
      ap (λ b. (let l : Line = record { line = line; step = Add id last.lits (map number last.hints) } in l) ∷ cond b [] []) here,
    )
whole_log number line id (lemma ∷ later) last none empty =
    let rest = whole_log number (line + 1) (id + 1) later last none.1 empty in
    let other : (length lemma.lits == 0) ≡ false = ne_eqb (length lemma.lits) 0 (λ is. omega (arith, is, none.0)) in (
      or_right (length lemma.lits == 0) (add_empty (lines_of number (line + 1) (id + 1) (later ++ last ∷ []))) rest.0,
      ap (λ b. (let l : Line = record { line = line; step = Add id lemma.lits (map number lemma.hints) } in l) ∷ cond b [] (up_to_empty (lines_of number (line + 1) (id + 1) (later ++ last ∷ [])))) other
          ∙ ap (λ t. (let l : Line = record { line = line; step = Add id lemma.lits (map number lemma.hints) } in l) ∷ t) rest.1,
    )

-- lemmas that end with an empty one are a proof that checks
pub log_checks : (cnf : Cnf) (number : Name → ℕ) (lemmas : List Lemma) → NumbersOriginals number → AreNumbered number (length cnf.clauses + 1) lemmas → AreDerived (originals cnf) lemmas →
    EndsEmpty lemmas → Checks cnf (lines_of number 1 (length cnf.clauses + 1) lemmas)
log_checks cnf number lemmas numbers numbered derived ends =
    let id = length cnf.clauses + 1 in
    let lines = lines_of number 1 id lemmas in
    let whole = whole_log number 1 id ends.earlier ends.last ends.none_before ends.empty in
    let adds : add_empty lines ≡ true = subst (λ ls. add_empty (lines_of number 1 id ls) ≡ true) (sym ends.split) whole.0 in
    let all : up_to_empty lines ≡ lines = subst (λ ls. up_to_empty (lines_of number 1 id ls) ≡ lines_of number 1 id ls) (sym ends.split) whole.1 in
    and_from (add_empty lines) (is_ok (judge cnf (up_to_empty lines))) adds
    (ap (λ ls. is_ok (judge cnf ls)) all ∙ log_in_order cnf number lemmas numbers numbered derived)
