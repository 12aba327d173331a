-- What is gathered, sifted and sorted is the candidates in order.
use Rattle.std.proofs.Common.{◌≡◌, Bool, true, false, not, ◌&&◌, ◌||◌, cond, List, [], ◌∷◌, length, reverse, map, take, refl, ap, sym, ◌∙◌}
use Rattle.std.specs.Prelude.{◌/◌, filter, nat_lt, Option, Some, None}
use Rattle.std.specs.List.Sorted.{IsPermutation}
use Rattle.std.proofs.lemmas.Bool.{cond_both, cond-true, cond-false, both_ways, false_from_ne_true}
use Rattle.std.proofs.lemmas.List.Sorted.{list_any-IsPermutation, length_permutation, IsPermutation-reverse}
use Rattle.lit_base.specs.Named.{same_name}
use Rattle.lit_base.specs.Held.{HeldClause, is_original, is_among}
use Rattle.lit_base.specs.Analysis.{is_reason}
use Rattle.lit_base.specs.declared.trail.Entry.{Entry}
use Rattle.lit_base.specs.declared.name.Name.{Name}
use Rattle.lit_base.proofs.HeldClauses.{same_name-true}
use Rattle.clause_pool.specs.declared.tally.Tally.{Tally}
use Rattle.clause_pool.specs.Tallies.{tally_of, lemmas_but, tallies_but}
use Rattle.trim_rule.specs.Reduction.{is_reason_on, is_candidate, candidates, goes_before, in_order, dropped_names, with_lemma, lemma_reasons}
use Rattle.trim_rule.specs.Laws.{IsInOrder}
use Rattle.trim_rule.proofs.InOrder.{ordered-in_order, permuted-in_order, same_in_order, times, times-moved, times-passed}
use Rattle.trim_rule.proofs.Ranking.{ranks, exact}

-- the name of an original is no lemma's
original_other : (r n : Name) → is_original r ≡ true → is_original n ≡ false → same_name r n ≡ false
original_other r n original lemma = false_from_ne_true (same_name r n) (λ same. both_ways (is_original n) lemma (ap is_original (sym (same_name-true r n same)) ∙ original))

with_reason : (o : Option Name) (names : List Name) (n : Name) (b : Bool) → is_original n ≡ false → is_among names n ≡ b → is_among (with_lemma o names) n ≡ (is_reason n o || b)
with_reason None names n b lemma is = is
with_reason (Some r) names n b lemma is =
    cond_both (is_original r) names (r ∷ names) (λ all. is_among all n ≡ (same_name r n || b))
    (λ original. is ∙ ap (λ same. same || b) (sym (original_other r n original lemma)))
    (λ other. ap (λ among. same_name r n || among) is)

-- the gathered names are those of the lemmas that are reasons
reasons_among : (entries : List Entry) (n : Name) → is_original n ≡ false → is_among (lemma_reasons entries) n ≡ is_reason_on entries n
reasons_among [] n lemma = refl
reasons_among (e ∷ older) n lemma = with_reason e.reason (lemma_reasons older) n (is_reason_on older n) lemma (reasons_among older n lemma)

pub reasons_gathered : (entries trail : List Entry) (names : List Name) → reverse entries ≡ trail → names ≡ lemma_reasons entries → (n : Name) → is_original n ≡ false →
    is_among names n ≡ is_reason_on trail n
reasons_gathered entries trail names turned are n lemma =
    ap (λ ns. is_among ns n) are
    ∙ (reasons_among entries n lemma
    ∙ (list_any-IsPermutation (λ e. is_reason n e.reason) entries (reverse entries) (IsPermutation-reverse entries) ∙ ap (λ es. is_reason_on es n) turned))

-- of a clause more: o, whether it is an original; m, whether it is one of the names; l, whether it is long; r, whether it is a reason
sifted_first : (o m l r : Bool) (c : HeldClause) (xs ys : List HeldClause) → nat_lt 2 (length c.lits) ≡ l → (o ≡ false → m ≡ r) →
    filter (λ t. nat_lt 2 t.size) (map tally_of xs) ≡ map tally_of ys →
    filter (λ t. nat_lt 2 t.size) (map tally_of (cond (not o && not m) (c ∷ xs) xs)) ≡ map tally_of (cond (not o && (l && not r)) (c ∷ ys) ys)
sifted_first true m l r c xs ys long same is = is
sifted_first false true true true c xs ys long same is = is
sifted_first false true false true c xs ys long same is = is
sifted_first false true l false c xs ys long same is = absurd (both_ways true (same refl) refl)
sifted_first false false l true c xs ys long same is = absurd (both_ways true (sym (same refl)) refl)
sifted_first false false true false c xs ys long same is =
    cond-true (nat_lt 2 (length c.lits)) (tally_of c ∷ filter (λ t. nat_lt 2 t.size) (map tally_of xs)) (filter (λ t. nat_lt 2 t.size) (map tally_of xs)) long
    ∙ ap (λ ts. tally_of c ∷ ts) is
sifted_first false false false false c xs ys long same is =
    cond-false (nat_lt 2 (length c.lits)) (tally_of c ∷ filter (λ t. nat_lt 2 t.size) (map tally_of xs)) (filter (λ t. nat_lt 2 t.size) (map tally_of xs)) long ∙ is

-- the long ones of the lemmas that aren't named are the candidates
sifted : (held : List HeldClause) (trail : List Entry) (names : List Name) → ((n : Name) → is_original n ≡ false → is_among names n ≡ is_reason_on trail n) →
    filter (λ t. nat_lt 2 t.size) (tallies_but names held) ≡ candidates held trail
sifted [] trail names same = refl
sifted (c ∷ later) trail names same =
    sifted_first (is_original c.name) (is_among names c.name) (nat_lt 2 (length c.lits)) (is_reason_on trail c.name) c (lemmas_but names later) (filter (is_candidate trail) later) refl
    (same c.name) (sifted later trail names same)

-- sorted they are the candidates in order
sorted_is : (held : List HeldClause) (trail : List Entry) (names : List Name) (tallies long sorted : List Tally) →
    ((n : Name) → is_original n ≡ false → is_among names n ≡ is_reason_on trail n) → IsPermutation (tallies_but names held) tallies → long ≡ filter (λ t. nat_lt 2 t.size) tallies →
    IsPermutation long sorted → IsInOrder goes_before sorted → sorted ≡ in_order goes_before (candidates held trail)
sorted_is held trail names tallies long sorted same moved sieved placed ordered =
    same_in_order goes_before ranks exact sorted (in_order goes_before (candidates held trail)) ordered (ordered-in_order goes_before ranks (candidates held trail))
    (λ n. times-moved goes_before n long sorted placed
    ∙ (ap (times goes_before n) sieved
    ∙ (times-passed goes_before (λ t. nat_lt 2 t.size) n (tallies_but names held) tallies moved
    ∙ (ap (times goes_before n) (sifted held trail names same)
    ∙ sym (times-moved goes_before n (candidates held trail) (in_order goes_before (candidates held trail)) (permuted-in_order goes_before (candidates held trail)))))))

-- and the first half of them goes
pub chosen : (held : List HeldClause) (trail entries : List Entry) (names : List Name) (tallies long sorted : List Tally) → reverse entries ≡ trail → names ≡ lemma_reasons entries →
    IsPermutation (tallies_but names held) tallies → long ≡ filter (λ t. nat_lt 2 t.size) tallies → IsPermutation long sorted → IsInOrder goes_before sorted →
    map (λ t. t.name) (take (length sorted / 2) sorted) ≡ dropped_names held trail
chosen held trail entries names tallies long sorted turned are moved sieved placed ordered =
    let order = in_order goes_before (candidates held trail) in
    let is : sorted ≡ order = sorted_is held trail names tallies long sorted (reasons_gathered entries trail names turned are) moved sieved placed ordered in
    ap (λ ts. map (λ t. t.name) (take (length ts / 2) ts)) is
    ∙ ap (λ n. map (λ t. t.name) (take (n / 2) order)) (length_permutation (candidates held trail) order (permuted-in_order goes_before (candidates held trail)))
