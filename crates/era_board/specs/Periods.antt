-- Where a party stands in its period, towards all others.
use Rattle.std.specs.Prelude.{◌≡◌, ◌≢◌, ℕ, ◌+◌, ◌<◌, slice_index}
use Rattle.board_rule.specs.declared.views.Account.{Account}

module _ {O : Type 0} where
  -- it has laid all mails of the periods at which it arrived, lacks the knowledge that so many of them are complete, and the mails of so many
  pub record Stands (a : Account O) (unknown untaken : ℕ) : Type 0 where
    pub known : a.known + unknown ≡ a.arrivals
    pub laid : (to : ℕ) → to < a.parties → to ≢ a.number → slice_index a.laid to ≡ a.arrivals
    pub taken : (from : ℕ) → from < a.parties → from ≢ a.number → slice_index a.taken from + untaken ≡ a.arrivals

  -- between two periods: nothing is left to take
  abbrev pub IsAtRest : Account O → Type 0
  IsAtRest a = Stands a 0 0

  -- it has sent the mails of a period, and arrived
  abbrev pub HasSent : Account O → Type 0
  HasSent a = Stands a 1 1

  -- it knows that all have, and has taken nothing yet
  abbrev pub MayReceive : Account O → Type 0
  MayReceive a = Stands a 0 1
