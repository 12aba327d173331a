use Rattle.std.proofs.Common.{◌∙◌, [], ◌∷◌, ◌++◌, ap}
use Rattle.std.proofs.lemmas.Option.{IfSome_then}
use Rattle.lit_base.specs.Judgement.{judged_line}
use Rattle.lrat_check.specs.Faults.{proof_fault}
use Rattle.lrat_check.specs.Checking.{HasJudged}
use Rattle.lrat_check.proofs.Ends.{judge_more, sound_checks, empty_added}
use Rattle.lrat_check.proofs.checker.Checker.line.Goals as goal

-- a checker that has judged lines has met no fault
pub returns-in-Some-clause-judged : goal.returns-in-Some-clause-judged
unfolding HasJudged
returns-in-Some-clause-judged c cnf lines judged = let none = judged.2.sound in let some = c.in-Some.is in cc

-- the line has none
pub returns-in-Ok-clause-judged : goal.returns-in-Ok-clause-judged
unfolding HasJudged
returns-in-Ok-clause-judged c cnf lines judged =
    let given = c.in-Ok.ensures judged.0 judged.2 in
    ((given.0, judge_more cnf lines c.args.line.now ∙ (ap (λ r. judged_line r c.args.line.now) judged.1 ∙ given.1), given.2), c.step_of.ensures)

-- it adds the empty lemma, so the lines check
pub returns-in-Ok-clause-refuted : goal.returns-in-Ok-clause-refuted
unfolding HasJudged
returns-in-Ok-clause-refuted c cnf lines judged empty =
    let given = c.in-Ok.ensures judged.0 judged.2 in
    let checked = sound_checks cnf (lines ++ c.args.line.now ∷ []) given.0 (judge_more cnf lines c.args.line.now ∙ (ap (λ r. judged_line r c.args.line.now) judged.1 ∙ given.1))
    (empty_added lines c.args.line.now c.step_of.result c.step_of.ensures empty)
    in (checked, c.law_checked_proof_refutes.ensures cnf (lines ++ c.args.line.now ∷ []) checked)

-- it has a fault, which is the first
pub returns-in-Err-clause-judged : goal.returns-in-Err-clause-judged
unfolding HasJudged
returns-in-Err-clause-judged c cnf lines judged =
    IfSome_then (proof_fault c.in-Err.fault) (c.in-Err.ensures judged.0 judged.2)
    (λ found is. judge_more cnf lines c.args.line.now ∙ (ap (λ r. judged_line r c.args.line.now) judged.1 ∙ is))
