-- Once no marked entry of the current level is left, the definition's walk goes over the rest of a trail as over its
-- marked entries alone.
use Rattle.std.proofs.Common.{◌≡◌, ℕ, ◌==◌, Bool, true, false, List, [], ◌∷◌, filter, refl, ap, sym, ◌∙◌}
use Rattle.std.specs.Prelude.{Option}
use Rattle.std.proofs.lemmas.Bool.{cond-true, cond-false}
use Rattle.lit_base.specs.Literal.{Literal}
use Rattle.lit_base.specs.declared.trail.Entry.{Entry}
use Rattle.lit_base.specs.declared.name.Name.{Name}
use Rattle.lit_base.specs.Fits.{IsFitting}
use Rattle.lit_base.specs.Analysis.{Trace, is_marked, is_other_left, is_resolved, touch, settle, trace_step, trace}
use Rattle.first_uip.specs.Walked.{settled}
use Rattle.first_uip.proofs.Marking.{fits_older, resolved_at_root, marked_when_met, none_left_after}

-- the walk over the rest is that over the entries that are marked in the end
pub rest_settles : (look : Name → Option (List Literal)) (level : ℕ) (rest : List Entry) (t : Trace) (has : ℕ → Bool) → IsFitting look rest → is_other_left level t.marked rest ≡ false →
    ((v : ℕ) → has v ≡ is_marked (trace look level rest t).marked v) → trace look level rest t ≡ settled look (filter (λ e. has e.lit.variable) rest) t
rest_settles look level [] t has fitting none are = refl
rest_settles look level (e ∷ older) t has fitting none are =
    by_mark (is_marked t.marked e.lit.variable) refl
    (rest_settles look level older (trace_step look level e older t) has (fits_older look e older fitting) (none_left_after look level e older t fitting.leveled none) are)
  where
    own : has e.lit.variable ≡ is_marked t.marked e.lit.variable
    own = are e.lit.variable ∙ marked_when_met look level e older t fitting

    by_mark : (b : Bool) → is_marked t.marked e.lit.variable ≡ b →
        trace look level older (trace_step look level e older t) ≡ settled look (filter (λ e. has e.lit.variable) older) (trace_step look level e older t) → trace look level (e ∷ older) t ≡ settled look (filter (λ e. has e.lit.variable) (e ∷ older)) t
    by_mark true marked rest =
        let step : trace_step look level e older t ≡ settle look (e.level == 0) e (touch e t) =
        cond-true (is_marked t.marked e.lit.variable) (settle look (is_resolved look level t.marked e older) e (touch e t)) t marked
        ∙ ap (λ b. settle look b e (touch e t)) (resolved_at_root look level t.marked e older none) in
        rest
        ∙ (ap (settled look (filter (λ e. has e.lit.variable) older)) step
        ∙ sym (ap (λ es. settled look es t) (cond-true (has e.lit.variable) (e ∷ filter (λ e. has e.lit.variable) older) (filter (λ e. has e.lit.variable) older) (own ∙ marked))))
    by_mark false unmarked rest =
        let step : trace_step look level e older t ≡ t =
        cond-false (is_marked t.marked e.lit.variable) (settle look (is_resolved look level t.marked e older) e (touch e t)) t unmarked in
        rest
        ∙ (ap (settled look (filter (λ e. has e.lit.variable) older)) step
        ∙ sym (ap (λ es. settled look es t) (cond-false (has e.lit.variable) (e ∷ filter (λ e. has e.lit.variable) older) (filter (λ e. has e.lit.variable) older) (own ∙ unmarked))))
