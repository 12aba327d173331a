use Rattle.std.proofs.lemmas.Result.{err_from_is_err_and}
use Rattle.crew.specs.Log.{log_text}
use Rattle.dp2ll.specs.Logging.{log_told}
use Rattle.dp2ll.proofs.Logged.{uncreated}
use Rattle.dp2ll.proofs.answer.run_logged.Goals as goal

-- the log was not created
pub returns-in_err-create_log-clause-log : goal.returns-in_err-create_log-clause-log
returns-in_err-create_log-clause-log g c =
    let p = err_from_is_err_and c.from_residual.result c.from_residual.ensures.1 in
    rw (p.1, p.2)
    (uncreated c.args.log.now (log_text c.args.formula.now c.args.settings.now) (log_told (g.O.Outputs.told c.args.outputs.now))
    (log_told (g.O.Outputs.told c.create_log.new.outputs)) c.in_err-create_log.field-0.0 c.in_err-create_log.ensures.log)
