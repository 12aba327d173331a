use Rattle.std.specs.Prelude.{◌≡◌, ◌≢◌, ℕ, ◌+◌, ◌<◌, ◌≤◌, true, IfSome, slice_index, take}
use Rattle.era_board.specs.Passes.{account}
use Rattle.crew.specs.Era.{mail_at}
use Rattle.crew.specs.Run.{mails_at}
use Rattle.crew.specs.Turns.{AtMember}
use Rattle.crew.specs.Parties.{IsPassIn}
use Rattle.crew.proofs.party.take_mails.Given as goal

-- the mails of those before this one are taken, and the others' are to be
abbrev pub invariant-loop-from : goal.invariant-loop-from
invariant-loop-from l =
    IsPassIn l.board l.formula l.settings l.pass
    × (account l.pass ≡ record (account l.fn.pass) { taken = (account l.pass).taken })
    × ((j : ℕ) → j < l.from → j ≢ (account l.fn.pass).number → slice_index (account l.pass).taken j ≡ l.past + 1)
    × ((j : ℕ) → l.from ≤ j → slice_index (account l.pass).taken j ≡ slice_index (account l.fn.pass).taken j)
    × IfSome l.own (λ mail. AtMember l.formula l.settings l.past (account l.fn.pass).number (λ m. mail ≡ mail_at m))
    × (l.fine ≡ true → l.mails.items ≡ take l.from (mails_at l.formula l.settings l.past))
