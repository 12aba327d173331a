-- Lemmas on the place of a lemma's counts among those of all periods.
use Rattle.std.proofs.Common.{◌≡◌, sym, subst, inl, inr, ℕ, zero, suc, ◌+◌, ◌-◌, ◌*◌, ◌/◌, ◌<◌, cond, List, [], ◌∷◌, ◌++◌, length, take, get_or, refl, ap, ◌∙◌, length-append, arith}
use Rattle.std.specs.Prelude.{sum}
use Rattle.std.proofs.lemmas.Bool.{ne_eqb}
use Rattle.std.proofs.lemmas.Nat.{mul-add-lt}
use Rattle.std.proofs.lemmas.List.Sums.{sum_by-append}
use Rattle.std.proofs.Math.Nat.{mul-div_cancel}
use Rattle.lit_base.specs.declared.name.Name.{Name}
use Rattle.log_merge.specs.Sums.{Counted}
use Rattle.log_merge.specs.Numbering.{Numbering, numbering_of, with_period, lemmas_in, kept_row, periods_in, AreWholePeriods, number_before, number_of, IsStanding, HasNumber}
use Rattle.log_merge.proofs.Chunks.{length-first_chunks, first_chunks-push, no_width-push, chunk_at, chunk_sum, chunks_sum, no_width-sum}

-- a name with a number that is of no period 0 is that of a lemma
standing : (n : Numbering) (name : Name) → HasNumber n name → (name.period ≡ 0 → ⊥) → IsStanding n name
standing n name (inl original) later = absurd (later original.period)
standing n name (inr lemma) later = lemma

pub number_of-lemma : (n : Numbering) (name : Name) → (name.period ≡ 0 → ⊥) → number_of n name ≡ number_before n name.period name.core + name.index + 1
number_of-lemma n name later = ap (λ b. cond b (name.index + 1) (number_before n name.period name.core + name.index + 1)) (ne_eqb name.period 0 later)

-- the kept counts of one more period are those of one more whole period
more_periods : (cores : ℕ) (kept counts : List ℕ) → length counts ≡ suc cores → AreWholePeriods (suc cores) kept →
    length (kept ++ counts) ≡ suc (periods_in (suc cores) kept) * suc cores
more_periods cores kept counts one whole = omega (arith, length-append kept counts, one, whole)

-- a period has one count for each core, and is kept as it is where there are cores
kept_row-some : (counts : List ℕ) (cores : ℕ) → length counts ≡ suc cores → kept_row counts ≡ counts
kept_row-some [] cores one = cc
kept_row-some (count ∷ later) cores one = refl

kept_row-none : (counts : List ℕ) → length counts ≡ 0 → kept_row counts ≡ 0 ∷ []
kept_row-none [] none = refl
kept_row-none (count ∷ later) none = cc

empty : (counts : List ℕ) → length counts ≡ 0 → [] ≡ counts
empty [] none = refl
empty (count ∷ later) none = cc

pub periods_in-more : (cores : ℕ) (kept counts : List ℕ) → length counts ≡ cores → AreWholePeriods cores kept →
    periods_in cores (kept ++ kept_row counts) ≡ suc (periods_in cores kept)
periods_in-more zero kept counts one whole = ap (λ row. length (kept ++ row)) (kept_row-none counts one) ∙ omega (arith, length-append kept (0 ∷ []))
periods_in-more (suc cores) kept counts one whole =
    ap (λ row. length (kept ++ row) / suc cores) (kept_row-some counts cores one)
    ∙ ap (λ n. n / suc cores) (more_periods cores kept counts one whole) ∙ mul-div_cancel (suc (periods_in (suc cores) kept)) (omega arith)

pub AreWholePeriods-more : (cores : ℕ) (kept counts : List ℕ) → length counts ≡ cores → AreWholePeriods cores kept → AreWholePeriods cores (kept ++ kept_row counts)
AreWholePeriods-more zero kept counts one whole =
    ap (λ row. sum (kept ++ row)) (kept_row-none counts one) ∙ omega (arith, sum_by-append (λ x. x) kept (0 ∷ []), whole)
AreWholePeriods-more (suc cores) kept counts one whole =
    ap (λ row. length (kept ++ row)) (kept_row-some counts cores one) ∙ more_periods cores kept counts one whole
    ∙ ap (λ n. n * suc cores) (sym (periods_in-more (suc cores) kept counts one whole))

-- a row that is kept has the lemmas of its period
pub sum-kept_row : (counts : List ℕ) → sum (kept_row counts) ≡ sum counts
sum-kept_row [] = refl
sum-kept_row (count ∷ later) = refl

-- the kept counts are those of the lemmas of all periods
pub sum-periods_in : (cores : ℕ) (sums : Counted) → AreWholePeriods cores sums.counts →
    lemmas_in (numbering_of cores (periods_in cores sums.counts) sums).periods ≡ sum sums.counts
sum-periods_in zero sums whole = no_width-sum (length sums.counts) sums.counts ∙ sym whole
sum-periods_in (suc cores) sums whole = chunks_sum (suc cores) (periods_in (suc cores) sums.counts) sums.counts whole

-- one more row of counts is one more period
rows-more : (cores : ℕ) (sums : Counted) (counts : List ℕ) → length counts ≡ cores → AreWholePeriods cores sums.counts →
    numbering_of cores (suc (periods_in cores sums.counts)) (record { first = sums.first; counts = sums.counts ++ kept_row counts })
    ≡ with_period counts (numbering_of cores (periods_in cores sums.counts) sums)
rows-more zero sums counts one whole =
    ap (λ rows. let n : Numbering = record { originals = sums.first; cores = 0; periods = rows } in n)
    (no_width-push (length sums.counts) sums.counts (sums.counts ++ kept_row counts) ∙ ap (λ row. (numbering_of 0 (length sums.counts) sums).periods ++ row ∷ []) (empty counts one))
rows-more (suc cores) sums counts one whole =
    ap (λ rows. let n : Numbering = record { originals = sums.first; cores = suc cores; periods = rows } in n)
    (ap (λ row. (numbering_of (suc cores) (suc (periods_in (suc cores) sums.counts)) (record { first = sums.first; counts = sums.counts ++ row })).periods) (kept_row-some counts cores one)
    ∙ first_chunks-push (suc cores) (periods_in (suc cores) sums.counts) sums.counts counts whole one)

pub numbering_of-with_period : (cores : ℕ) (sums : Counted) (counts : List ℕ) → length counts ≡ cores → AreWholePeriods cores sums.counts →
    numbering_of cores (periods_in cores (sums.counts ++ kept_row counts)) (record { first = sums.first; counts = sums.counts ++ kept_row counts })
    ≡ with_period counts (numbering_of cores (periods_in cores sums.counts) sums)
numbering_of-with_period cores sums counts one whole =
    ap (λ periods. numbering_of cores periods (record { first = sums.first; counts = sums.counts ++ kept_row counts })) (periods_in-more cores sums.counts counts one whole)
    ∙ rows-more cores sums counts one whole

-- what is known of the place of a lemma: it is among the counts, the index is below the count there, and the number
-- is what stands before the place, and the index and 1
pub record IsPlaced (sums : Counted) (n : Numbering) (name : Name) (place : ℕ) : Type 0 where
  pub within : place < length sums.counts
  pub index : name.index < get_or sums.counts place 0
  pub number : sums.first + sum (take place sums.counts) + (name.index + 1) ≡ number_of n name

-- a lemma's place among the counts of so many periods
module _ (cores periods : ℕ) (sums : Counted) (name : Name) (place : ℕ) (whole : length sums.counts ≡ periods * cores)
    (has : HasNumber (numbering_of cores periods sums) name) (later : name.period ≡ 0 → ⊥) (at : place ≡ (name.period - 1) * cores + name.core) where
  stands : IsStanding (numbering_of cores periods sums) name
  stands = standing (numbering_of cores periods sums) name has later

  period_within : name.period - 1 < periods
  period_within = omega (arith, stands.begun, stands.ended, length-first_chunks cores periods sums.counts)

  placed : IsPlaced sums (numbering_of cores periods sums) name place
  placed = record {
    within = omega (arith, at, whole, mul-add-lt (name.period - 1) cores name.core periods period_within stands.core);
    index = omega (arith, ap (λ k. get_or sums.counts k 0) at, stands.index, chunk_at cores periods sums.counts (name.period - 1) name.core period_within stands.core);
    number = omega (
      arith,
      ap (λ k. sum (take k sums.counts)) at,
      chunk_sum cores periods sums.counts (name.period - 1) name.core period_within stands.core,
      number_of-lemma (numbering_of cores periods sums) name later,
    );
  }

-- where there is no core, no lemma stands
placed_among : (cores : ℕ) (sums : Counted) (name : Name) (place : ℕ) → AreWholePeriods cores sums.counts →
    HasNumber (numbering_of cores (periods_in cores sums.counts) sums) name → (name.period ≡ 0 → ⊥) → place ≡ (name.period - 1) * cores + name.core →
    IsPlaced sums (numbering_of cores (periods_in cores sums.counts) sums) name place
placed_among zero sums name place whole has later at = absurd (omega (arith, (standing (numbering_of 0 (length sums.counts) sums) name has later).core))
placed_among (suc cores) sums name place whole has later at = placed (suc cores) (periods_in (suc cores) sums.counts) sums name place whole has later at

pub IsPlaced-of : {cores : ℕ} {sums : Counted} {n : Numbering} {name : Name} {place : ℕ} → numbering_of cores (periods_in cores sums.counts) sums ≡ n →
    AreWholePeriods cores sums.counts → HasNumber n name → (name.period ≡ 0 → ⊥) → place ≡ (name.period - 1) * cores + name.core → IsPlaced sums n name place
IsPlaced-of {cores} {sums} {n} {name} {place} is whole has later at =
    subst (λ (m : Numbering). IsPlaced sums m name place) is
    (placed_among cores sums name place whole (subst (λ (m : Numbering). HasNumber m name) (sym is) has) later at)
