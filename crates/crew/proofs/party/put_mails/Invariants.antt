use Rattle.std.specs.Prelude.{◌≡◌, ◌≢◌, ℕ, ◌+◌, ◌<◌, ◌≤◌, All, slice_index}
use Rattle.era_board.specs.Passes.{account}
use Rattle.crew.specs.Era.{mail_at}
use Rattle.crew.specs.Turns.{AtMember}
use Rattle.crew.specs.Parties.{IsPassIn}
use Rattle.crew.proofs.party.put_mails.Given as goal

-- those before this one have got the mail, and the others are to get it
abbrev pub invariant-loop-to : goal.invariant-loop-to
invariant-loop-to l =
    IsPassIn l.board l.formula l.settings l.pass
    × (account l.pass ≡ record (account l.fn.pass) { laid = (account l.pass).laid })
    × ((j : ℕ) → j < l.to → j ≢ (account l.fn.pass).number → slice_index (account l.pass).laid j ≡ l.past + 1)
    × ((j : ℕ) → l.to ≤ j → slice_index (account l.pass).laid j ≡ slice_index (account l.fn.pass).laid j)
    × All (λ mail. AtMember l.formula l.settings l.past (account l.fn.pass).number (λ m. mail ≡ mail_at m)) l.copies.items
