-- What the seats of a board know.
use Rattle.std.specs.Prelude.{◌≡◌, ◌≢◌, ◌⊎◌, ℕ, ◌+◌, ◌-◌, ◌^◌, ◌<◌, ◌≤◌, ◌==◌, ◌&&◌, if◌then◌else◌, length, replicate, slice_index}
use Rattle.board_rule.specs.declared.views.Account.{Account}
use Rattle.board_rule.specs.declared.views.Moving.{Moving}
use Rattle.board_rule.specs.declared.views.Moving.TheVariants.{Still, Filling, Emptying}
use Rattle.board_rule.specs.declared.views.View.{View}
use Rattle.board_rule.specs.declared.views.View.TheVariants.{Maker, Party}
use Rattle.board_rule.specs.Mailbox.{bank_of}

-- 1 where a party at these arrivals is in the middle of a put into the receiver's mailbox of this bank, else 0
abbrev pub filling : ℕ → Moving → ℕ → ℕ → ℕ
filling arrivals Still to bank = 0
filling arrivals (Filling j) to bank = if (j == to) && (bank_of (arrivals + 1) == bank) then 1 else 0
filling arrivals (Emptying i) to bank = 0

-- 1 where a party at these arrivals is in the middle of a take from the sender's mailbox of this bank, else 0
abbrev pub emptying : ℕ → Moving → ℕ → ℕ → ℕ
emptying arrivals Still from bank = 0
emptying arrivals (Filling j) from bank = 0
emptying arrivals (Emptying i) from bank = if (i == from) && (bank_of arrivals == bank) then 1 else 0

module _ {O : Type 0} where
  -- the account of a party that has done nothing
  abbrev pub fresh : O → ℕ → ℕ → Account O
  fresh occasion parties number = record { occasion = occasion; parties = parties; number = number; arrivals = 0; known = 0; looks = 0; seen = 0; laid = replicate parties 0; taken = replicate parties 0; moving = Still }

  -- the maker's view, where the parties from this number on have no seat
  abbrev pub maker_view : O → ℕ → ℕ → View O
  maker_view occasion parties number = Maker occasion parties number

  -- the maker's view once it has given one seat more
  abbrev pub next_maker : View O → View O
  next_maker (Maker occasion parties number) = Maker occasion parties (number + 1)
  next_maker (Party a) = Party a

  -- the view of the party that the maker gives its seat
  abbrev pub next_party : View O → View O
  next_party (Maker occasion parties number) = Party (fresh occasion parties number)
  next_party (Party a) = Party a

  -- the account of a party's view
  abbrev pub account_of : View O → Account O
  account_of (Maker occasion parties number) = fresh occasion parties number
  account_of (Party a) = a

  -- for this party the mail of the last period is laid, or that of the next one too, where the last is known to be complete
  abbrev pub IsLaidInOrder : Account O → ℕ → Type 0
  IsLaidInOrder a to = (slice_index a.laid to ≡ a.arrivals) ⊎ ((slice_index a.laid to ≡ a.arrivals + 1) × (a.known ≡ a.arrivals))

  -- from this party the mail of the period before the last is taken, or that of the last one too, where it is known to be complete
  abbrev pub IsTakenInOrder : Account O → ℕ → Type 0
  IsTakenInOrder a from = (slice_index a.taken from ≡ a.arrivals - 1) ⊎ ((slice_index a.taken from ≡ a.arrivals) × (a.known ≡ a.arrivals))

  -- a party is in the middle of a move with another one only where it knows its last period complete, and the mail is the next
  abbrev pub IsMovingInOrder : Account O → Moving → Type 0
  IsMovingInOrder a Still = Unit {0}
  IsMovingInOrder a (Filling to) = (to < a.parties) × (to ≢ a.number) × (a.known ≡ a.arrivals) × (slice_index a.laid to ≡ a.arrivals)
  IsMovingInOrder a (Emptying from) = (from < a.parties) × (from ≢ a.number) × (a.known ≡ a.arrivals) × (slice_index a.taken from + 1 ≡ a.arrivals)

  -- the account of a party is in order
  pub record IsInOrder (occasion : O) (parties number : ℕ) (a : Account O) : Type 0 where
    pub occasion_is : a.occasion ≡ occasion
    pub parties_is : a.parties ≡ parties
    pub number_is : a.number ≡ number
    pub behind : a.known ≤ a.arrivals
    pub near : a.arrivals ≤ a.known + 1
    pub few : a.arrivals ≤ 2 ^ 40
    pub laid_long : length a.laid ≡ parties
    pub taken_long : length a.taken ≡ parties
    pub laid : (to : ℕ) → to < parties → to ≢ number → IsLaidInOrder a to
    pub taken : (from : ℕ) → from < parties → from ≢ number → IsTakenInOrder a from
    pub moving : IsMovingInOrder a a.moving
