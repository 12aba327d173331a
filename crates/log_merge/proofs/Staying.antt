-- What has a number keeps it.
use Rattle.std.proofs.Common.{◌≡◌, inl, inr, ℕ, zero, suc, ◌+◌, ◌-◌, ◌<◌, ◌≤◌, ◌==◌, cond, List, [], ◌∷◌, length, take, get_or, sym, ap, ◌∙◌, subst, length-append, arith}
use Rattle.std.specs.Prelude.{sum, All}
use Rattle.std.proofs.lemmas.List.{get_or_append_left, take-append-le}
use Rattle.lit_base.specs.declared.name.Name.{Name}
use Rattle.solo_core.specs.declared.lemma.Lemma.{Lemma}
use Rattle.solo_core.specs.State.{lemma_name}
use Rattle.solo_core.specs.Soundness.{AreNamed}
use Rattle.log_merge.specs.Numbering.{Numbering, with_period, lemmas_in, counts_in, number_before, number_of, HasNumber}

-- an ended period keeps its counts
kept_counts : (n : Numbering) (counts : List ℕ) (period : ℕ) → 1 ≤ period → period ≤ length n.periods → counts_in (with_period counts n) period ≡ counts_in n period
kept_counts n counts period begun ended = get_or_append_left n.periods (counts ∷ []) [] (period - 1) (omega arith)

-- and what stands before its cores
kept_before : (n : Numbering) (counts : List ℕ) (period core : ℕ) → 1 ≤ period → period ≤ length n.periods → number_before (with_period counts n) period core ≡ number_before n period core
kept_before n counts period core begun ended =
    ap (λ ps. n.originals + lemmas_in ps + sum (take core (counts_in (with_period counts n) period))) (take-append-le (period - 1) n.periods (counts ∷ []) (omega arith))
    ∙ ap (λ cs. n.originals + lemmas_in (take (period - 1) n.periods) + sum (take core cs)) (kept_counts n counts period begun ended)

pub kept_number : (n : Numbering) (counts : List ℕ) (name : Name) → HasNumber n name → number_of (with_period counts n) name ≡ number_of n name
kept_number n counts name (inl known) =
    ap (λ period. cond (period == 0) (name.index + 1) (number_before (with_period counts n) name.period name.core + name.index + 1)) known.period
    ∙ sym (ap (λ period. cond (period == 0) (name.index + 1) (number_before n name.period name.core + name.index + 1)) known.period)
kept_number n counts name (inr stands) =
    ap (λ before. cond (name.period == 0) (name.index + 1) (before + name.index + 1)) (kept_before n counts name.period name.core stands.begun stands.ended)

pub still_has_number : (n : Numbering) (counts : List ℕ) (name : Name) → HasNumber n name → HasNumber (with_period counts n) name
still_has_number n counts name (inl known) = inl (record { period = known.period; core = known.core; index = known.index })
still_has_number n counts name (inr stands) = inr (record {
  begun = stands.begun;
  ended = omega (arith, stands.ended, length-append n.periods (counts ∷ []));
  core = stands.core;
  index = subst (λ cs. name.index < get_or cs name.core 0) (sym (kept_counts n counts name.period stands.begun stands.ended)) stands.index;
})

-- the name of a lemma at a place
name_at : (period core place : ℕ) (lemmas : List Lemma) (k : ℕ) (d : Lemma) → AreNamed period core place lemmas → k < length lemmas → (get_or lemmas k d).name ≡ lemma_name period core (place + k)
name_at period core place [] k d named within = absurd (omega arith)
name_at period core place (lemma ∷ later) zero d named within = named.0 ∙ ap (lemma_name period core) (omega arith)
name_at period core place (lemma ∷ later) (suc k) d named within = name_at period core (place + 1) later k d named.1 (omega arith) ∙ ap (lemma_name period core) (omega arith)

pub named_have_numbers : (n : Numbering) (period core : ℕ) (lemmas : List Lemma) → 1 ≤ period → period ≤ length n.periods → core < n.cores →
    AreNamed period core 0 lemmas → length lemmas ≤ get_or (counts_in n period) core 0 → All (λ lemma. HasNumber n lemma.name) lemmas
named_have_numbers n period core lemmas begun ended inside named few k d within =
    subst (HasNumber n) (sym (name_at period core 0 lemmas k d named within)) (inr (record {
      begun = begun;
      ended = ended;
      core = inside;
      index = omega (arith, few, within);
    }))
