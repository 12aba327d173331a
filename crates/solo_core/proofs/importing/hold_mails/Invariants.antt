use Rattle.std.proofs.Common.{◌≡◌}
use Rattle.lit_base.specs.Held.{clauses_of}
use Rattle.round_prop.specs.Attached.{IsAttachedTo}
use Rattle.round_prop.specs.Spanned.{IsPlacedIn}
use Rattle.solo_core.specs.Period.{clauses_posted, with_unused}
use Rattle.solo_core.proofs.HeldPosts.{MailsLeft}
use Rattle.solo_core.proofs.importing.hold_mails.Given as goal

-- what the mails from here on post is left, and propagation goes over what is held
abbrev pub invariant-loop-mail : goal.invariant-loop-mail
invariant-loop-mail l = record {
  left : MailsLeft (with_unused (clauses_posted l.mails) l.fn.pool.held) l.mail-index l.mails l.pool.held;
  attached : IsAttachedTo l.rounds (clauses_of l.pool.held) l.trail.entries;
  placed : IsPlacedIn l.rounds l.pool.added;
  variables : l.rounds.variables ≡ l.fn.rounds.variables;
}
