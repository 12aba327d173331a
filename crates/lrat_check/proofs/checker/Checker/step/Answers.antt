use Rattle.std.proofs.Common.{◌≡◌, ◌∙◌, sym, ap, ap₂, subst}
use Rattle.lit_base.specs.Judgement.{judged_step}
use Rattle.lit_base.specs.declared.proof.LineStep.TheVariants.{Add, Delete}
use Rattle.lrat_check.specs.Checking.{GivesLive}
use Rattle.lrat_check.proofs.checker.Checker.step.Goals as goal

-- an addition
pub returns-in-Add : goal.returns-in-Add
returns-in-Add c live holds =
    let step : Add c.in-Add.id c.as_slice.result.now c.as_slice-in-Add.result.now ≡ c.args.line.now.step =
    ap₂ (Add c.in-Add.id) c.as_slice.ensures c.as_slice-in-Add.ensures ∙ sym c.in-Add.is
    in subst (λ wanted. GivesLive c.add.new.self c.add.result wanted) (ap (λ s. judged_step c.args.line.now.line s live) step) (c.add.ensures live holds)

-- a deletion
pub returns-in-Delete : goal.returns-in-Delete
returns-in-Delete c live holds =
    let step : Delete c.in-Delete.id c.as_slice-in-Delete.result.now ≡ c.args.line.now.step =
    ap (Delete c.in-Delete.id) c.as_slice-in-Delete.ensures ∙ sym c.in-Delete.is
    in subst (λ wanted. GivesLive c.delete.new.self c.delete.result wanted) (ap (λ s. judged_step c.args.line.now.line s live) step) (c.delete.ensures live holds)
