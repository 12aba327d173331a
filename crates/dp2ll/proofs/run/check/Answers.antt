use Rattle.std.proofs.lemmas.Result.{err_from_is_err_and}
use Rattle.dp2ll.specs.Serving.{desk}
use Rattle.dp2ll.proofs.Checked.{finds_proof}
use Rattle.dp2ll.proofs.run.check.Goals as goal

-- what was found was not said whole
pub returns-in_err-say_finding-clause-checks : goal.returns-in_err-say_finding-clause-checks
returns-in_err-say_finding-clause-checks g c =
    let p = err_from_is_err_and c.from_residual-in_err-say_finding.result c.from_residual-in_err-say_finding.ensures.1 in
    rw (p.1, p.2) (record {
      between = g.I.Inputs.told c.read_formula.new.inputs;
      begun = c.read_formula.ensures.begun;
      cause = record {
        finding = c.in_ok-finding.finding;
        finds = finds_proof c.law_checked_proof_refutes.ensures c.args.file.now c.args.proof.now
            (desk (g.I.Inputs.told c.args.inputs.now) (g.O.Outputs.told c.args.outputs.now)) (g.I.Inputs.told c.read_formula.new.inputs)
            (desk (g.I.Inputs.told c.judge_file.new.inputs) (g.O.Outputs.told c.say_finding.new.outputs)) c.in_ok-formula.formula
            c.in_ok-finding.finding c.read_formula.ensures.begun c.in_ok-formula.ensures.found c.judge_file.ensures.begun
            c.in_ok-finding.ensures.judges;
        cut = c.in_err-say_finding.ensures.says;
      };
    })

-- it was said
pub returns-clause-checks : goal.returns-clause-checks
returns-clause-checks g c = record {
  between = g.I.Inputs.told c.read_formula.new.inputs;
  begun = c.read_formula.ensures.begun;
  cause = record {
    finds = finds_proof c.law_checked_proof_refutes.ensures c.args.file.now c.args.proof.now
        (desk (g.I.Inputs.told c.args.inputs.now) (g.O.Outputs.told c.args.outputs.now)) (g.I.Inputs.told c.read_formula.new.inputs)
        (desk (g.I.Inputs.told c.judge_file.new.inputs) (g.O.Outputs.told c.say_finding.new.outputs)) c.in_ok-formula.formula
        c.in_ok-finding.finding c.read_formula.ensures.begun c.in_ok-formula.ensures.found c.judge_file.ensures.begun
        c.in_ok-finding.ensures.judges;
    says = c.in_ok-say_finding.ensures.says;
  };
}
