use Rattle.dp2ll.proofs.Backed.{backed_by}
use Rattle.dp2ll.proofs.backing.law_verdict_is_backed.Goals as goal

-- by the laws of runs
pub returns : goal.returns
returns c = λ cnf settings is one.
    let models = c.law_model_satisfies_formula.ensures in
    let refutes = c.law_unsat_is_refuted.ensures in
    backed_by cnf settings (models.exactly cnf settings one)
    (λ model found. record { values = models.values cnf settings model one found; satisfied = models.satisfied cnf settings model is one found })
    (λ unsat. record {
      text = c.law_log_follows.ensures.text cnf settings is one;
      checked = refutes.checks cnf settings is one unsat;
      ends_empty = refutes.empty_last cnf settings is one unsat;
      no_model = refutes.no_model cnf settings is one unsat;
    })
    (c.law_unknown_where_all_are_spent.ensures cnf settings one)
