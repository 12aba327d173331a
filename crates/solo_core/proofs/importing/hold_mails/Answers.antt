use Rattle.std.proofs.Common.{◌∙◌, ap, sym, subst, arith}
use Rattle.std.specs.Prelude.{map}
use Rattle.solo_core.specs.Period.{posted_clause, with_unused, clauses_posted, AreNewTo}
use Rattle.solo_core.proofs.HeldPosts.{mail_new, mail_held}
use Rattle.solo_core.proofs.importing.hold_mails.Goals as goal

-- what the next mail posts is new
pub hold_posts-requires-clause-new : goal.hold_posts-requires-clause-new
hold_posts-requires-clause-new c =
    subst (λ posts. AreNewTo c.loop-mail.pool.held (map posted_clause posts)) (sym c.as_slice.ensures)
    (mail_new (with_unused (clauses_posted c.args.mails.now) c.args.pool.now.held) c.args.mails.now c.loop-mail.mail-index c.mail-item.result c.loop-mail.pool.held (omega arith) c.mail-item.is c.loop-mail.invariant.left)

-- and then held
pub loop-mail-preserved : goal.loop-mail-preserved
loop-mail-preserved c = record {
  left = mail_held (with_unused (clauses_posted c.args.mails.now) c.args.pool.now.held) c.args.mails.now c.loop-mail.mail-index c.mail-item.result c.loop-mail.pool.held c.hold_posts.new.pool.held
      (omega arith) c.mail-item.is c.loop-mail.invariant.left (c.in_ok-hold_posts.ensures.held ∙ ap (λ posts. with_unused (map posted_clause posts) c.loop-mail.pool.held) c.as_slice.ensures);
  attached = c.in_ok-hold_posts.ensures.attached;
  placed = c.in_ok-hold_posts.ensures.placed;
  variables = c.in_ok-hold_posts.ensures.variables ∙ c.loop-mail.invariant.variables;
}
