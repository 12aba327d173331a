use Rattle.std.proofs.Common.{◌≡◌, All}
use Rattle.crew.specs.Era.{mail_at}
use Rattle.crew.specs.Turns.{AtMember}
use Rattle.crew.proofs.party.copies_of.Given as goal

-- each copy so far is the core's mail
abbrev pub invariant-loop : goal.invariant-loop
invariant-loop l = All (λ mail. AtMember l.formula l.settings l.past l.core (λ m. mail ≡ mail_at m)) l.mails.items
