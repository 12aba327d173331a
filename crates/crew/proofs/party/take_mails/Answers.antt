use Rattle.std.proofs.Common.{rules, ◌≡◌, ap, arith, ◌∙◌, take}
use Rattle.crew.specs.Era.{mail_at}
use Rattle.crew.specs.Run.{mails_at}
use Rattle.crew.proofs.OnBoard.{came_more, all_came}
use Rattle.crew.proofs.party.take_mails.Goals as goal

-- the mails of all cores are there
pub returns-clause-mails : goal.returns-clause-mails
returns-clause-mails c fine =
    let cnf = c.args.formula.now in
    let settings = c.args.settings.now in
    let past = c.args.past in
    let end : c.loop-from.from ≡ settings.cores = omega (arith, c.loop-from.auto.from-end, c.loop-from-test.false) in
    all_came mail_at cnf settings past c.loop-from.mails.items (c.loop-from.invariant.5 fine ∙ ap (λ n. take n (mails_at cnf settings past)) end)

-- one more is there
pub loop-from-preserved : goal.loop-from-preserved
loop-from-preserved c = (
  search rules,
  search rules,
  search rules,
  search rules,
  search rules,
  λ fine. let more = c.keep-fine.ensures fine in
      came_more mail_at c.args.formula.now c.args.settings.now c.args.past c.loop-from.from c.loop-from.mails.items c.keep-fine.new.kept.items c.take_mail-mail.result c.loop-from-test.true c.take_mail-mail.ensures.mail
      (c.loop-from.invariant.5 more.0) more.1,
)
