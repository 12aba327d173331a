-- A conflict of propagation from the empty trail gives a proof of one line that checks.
use Rattle.std.proofs.Common.{◌≡◌, ◌+◌, cond, [], length, ap, ◌∙◌, subst, arith}
use Rattle.std.specs.Prelude.{Some, map, Err, is_ok}
use Rattle.std.proofs.lemmas.Bool.{lt-leb}
use Rattle.lit_base.specs.Cnf.{Cnf}
use Rattle.lit_base.specs.declared.name.Name.{Name}
use Rattle.lit_base.specs.Rounds.{originals}
use Rattle.lit_base.specs.Named.{lits_at}
use Rattle.lit_base.specs.Walk.{FollowsByHints, judgement_of}
use Rattle.lit_base.specs.Fits.{IsAnswer, PropagatesFitting}
use Rattle.lit_base.specs.Judgement.{first_live, numbered_from, live_lits, added, Checks}
use Rattle.lit_base.specs.Refutation.{number_of_original, propagated, root_lesson, refutation_of}
use Rattle.lit_base.specs.declared.proof.ProofFault.TheVariants.{IdNotRising}
use Rattle.lit_base.specs.declared.proof.Judged.TheVariants.{Follows}
use Rattle.lit_base.proofs.WalkMore.{judgement_more}
use Rattle.lit_base.proofs.LessonSound.{lesson_follows}
use Rattle.lit_base.proofs.RootLesson.{root_lesson_empty}
use Rattle.lit_base.proofs.PropagationFits.{propagation_fits}
use Rattle.lit_base.proofs.OriginalsFound.{originals_found, originals_numbered}

-- propagation from the empty trail
root_fits : (cnf : Cnf) → PropagatesFitting (lits_at (originals cnf)) [] (propagated cnf)
root_fits cnf = propagation_fits (lits_at (originals cnf)) cnf.variables (originals cnf) [] (originals_found cnf) (record { distinct = tt; fits = tt; leveled = tt })

-- the empty lemma follows from the hints of a conflict
root_follows : (cnf : Cnf) (conflict : Name) → (propagated cnf).conflict ≡ Some conflict → FollowsByHints (lits_at (originals cnf)) [] (root_lesson cnf conflict).hints
root_follows cnf conflict is =
    let look = lits_at (originals cnf) in
    let sound = root_fits cnf in
    subst (λ lemma. FollowsByHints look lemma (root_lesson cnf conflict).hints) (root_lesson_empty look (propagated cnf).trail conflict sound.fitting.leveled sound.level)
    (lesson_follows look (propagated cnf).trail conflict sound.fitting.distinct sound.fitting.fits (subst (λ o. IsAnswer look (propagated cnf).trail o) is sound.conflict))

-- a conflict of propagation from the empty trail refutes the formula, by a proof of one line
pub conflict_refutes : (cnf : Cnf) (conflict : Name) → (propagated cnf).conflict ≡ Some conflict → Checks cnf (refutation_of cnf conflict)
conflict_refutes cnf conflict is =
    let hints = map number_of_original (root_lesson cnf conflict).hints in
    let numbered = live_lits (numbered_from 1 cnf.clauses) in
    let follows : judgement_of [] (map numbered hints) ≡ Follows =
    judgement_more (lits_at (originals cnf)) numbered number_of_original (originals_numbered cnf) [] (root_lesson cnf conflict).hints (root_follows cnf conflict is) in
    ap (λ b. is_ok (cond b (Err (IdNotRising 1)) (added 1 (length cnf.clauses + 1) [] (first_live cnf) (judgement_of [] (map numbered hints))))) (lt-leb (length cnf.clauses + 1) (length cnf.clauses) (omega arith))
    ∙ ap (λ judged. is_ok (added 1 (length cnf.clauses + 1) [] (first_live cnf) judged)) follows
