use Rattle.std.proofs.Common.{◌≡◌, drop}
use Rattle.std.specs.List.{list_all}
use Rattle.solo_core.specs.declared.sheet.Mail.{Mail}
use Rattle.crew.specs.Era.{is_spent}
use Rattle.crew.proofs.era_mails.are_all_spent.Given as goal

-- it goes by the mails that are left
abbrev pub invariant-loop-mail : goal.invariant-loop-mail
invariant-loop-mail l = list_all (λ (mail : Mail). is_spent mail.end) (drop l.mail-index l.mails) ≡ list_all (λ (mail : Mail). is_spent mail.end) l.mails
