use Rattle.std.proofs.Common.{◌≡◌, drop}
use Rattle.std.specs.Prelude.{max}
use Rattle.crew.specs.Era.{largest_volume}
use Rattle.crew.proofs.era_mails.largest_volume.Given as goal

-- the largest so far, and that of the mails that are left
abbrev pub invariant-loop-mail : goal.invariant-loop-mail
invariant-loop-mail l = max l.largest (largest_volume (drop l.mail-index l.mails)) ≡ largest_volume l.mails
