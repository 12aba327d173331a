-- What a look at the barrier tells, and a wait until all have arrived.
use Rattle.std.specs.Prelude.{◌≡◌, ◌+◌, ◌*◌, ◌<◌, ◌≤◌}
use Rattle.board_rule.specs.declared.views.Account.{Account}
use Rattle.era_board.specs.declared.look.Look.{Look}
use Rattle.era_board.specs.declared.look.Look.TheVariants.{Ready, NotYet}

module _ {O : Type 0} where
  -- the look has read one word, and is counted. Ready comes where the word is as many arrivals as the parties would have together,
  -- if each had as many as this one, and the party then knows its last period complete; else the word was below, and is told
  abbrev pub LookTells : Account O → Account O → Look → Type 0
  LookTells a a' Ready = (a.parties * a.arrivals ≤ a'.seen) × (a' ≡ record a { looks = a.looks + 1; seen = a'.seen; known = a.arrivals })
  LookTells a a' (NotYet seen) = (seen < a.parties * a.arrivals) × (a' ≡ record a { looks = a.looks + 1; seen = seen })

  -- the party has looked, until the last look was ready
  abbrev pub HasWaited : Account O → Account O → Type 0
  HasWaited a a' = (a.parties * a.arrivals ≤ a'.seen) × (a.looks < a'.looks) × (a' ≡ record a { looks = a'.looks; seen = a'.seen; known = a.arrivals })
