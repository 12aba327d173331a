use Rattle.std.proofs.Common.{◌≡◌, drop}
use Rattle.std.specs.List.{list_all}
use Rattle.solo_core.specs.declared.sheet.Mail.{Mail}
use Rattle.crew.specs.Era.{is_spent, mails_in}
use Rattle.crew.proofs.sheets.are_all_spent.Given as goal

-- it goes by the sheets that are left
abbrev pub invariant-loop-sheet : goal.invariant-loop-sheet
invariant-loop-sheet l =
    list_all (λ (mail : Mail). is_spent mail.end) (mails_in (drop l.sheet-index l.sheets)) ≡ list_all (λ (mail : Mail). is_spent mail.end) (mails_in l.sheets)
