-- What each step tells the seat that makes it: of the step, what the seat knew and held, the word that was found, and what it knows and holds after.
use Rattle.std.specs.Prelude.{◌≡◌, ℕ, ◌+◌, ◌*◌, ◌<◌, ◌≤◌, ◌∷◌, slice_set, Option, Some, None}
use Rattle.atomic_table.specs.Table.{Me, Step, rest}
use Rattle.board_rule.specs.declared.views.Account.{Account}
use Rattle.board_rule.specs.declared.views.Moving.TheVariants.{Still, Filling, Emptying}
use Rattle.board_rule.specs.declared.views.View.{View}
use Rattle.board_rule.specs.declared.views.View.TheVariants.{Party}
use Rattle.board_rule.specs.Mailbox.{bank_of, slot_of, word_of}

-- a seat of a board, and a step of it
abbrev Seated : Type 0 → Type 0 → Type 0
Seated O T = Me (Option T) (View O)

abbrev Stepped : Type 0 → Type 0
Stepped T = Step (Option T)

module _ {O T : Type 0} where
  -- the account of a party becomes one that follows it
  abbrev pub Becomes : Seated O T → Seated O T → (Account O → Account O → Type 0) → Type 0
  Becomes m m' follows = (a : Account O) → m.0 ≡ Party a → (a' : Account O) × (m'.0 ≡ Party a') × follows a a'

  -- the party has arrived once more
  abbrev pub arrived : Stepped T → Seated O T → ℕ → Seated O T → Type 0
  arrived step m found m' = (m'.1 ≡ m.1) × Becomes m m' (λ a a'. a' ≡ record a { arrivals = a.arrivals + 1 })

  -- the party has looked once more. It knows its last period complete where the word is as many as the parties' arrivals would be
  abbrev pub looked : Stepped T → Seated O T → ℕ → Seated O T → Type 0
  looked step m found m' = (m'.1 ≡ m.1) × Becomes m m' (λ a a'.
      (a.parties * a.arrivals ≤ found → a' ≡ record a { looks = a.looks + 1; seen = found; known = a.arrivals })
      × (found < a.parties * a.arrivals → a' ≡ record a { looks = a.looks + 1; seen = found }))

  -- the sender has the empty slot of the mailbox of its next period
  abbrev pub lifted_to_fill : Stepped T → Seated O T → ℕ → Seated O T → Type 0
  lifted_to_fill step m found m' = Becomes m m' (λ a a'. (to : ℕ) → to < a.parties → step.word ≡ word_of (slot_of a.number to (bank_of (a.arrivals + 1)))
      → (a' ≡ record a { moving = Filling to }) × (m'.1 ≡ (slot_of a.number to (bank_of (a.arrivals + 1)), None) ∷ m.1))

  -- the slot is home, and the mail of the sender's next period is laid
  abbrev pub laid_down : Stepped T → Seated O T → ℕ → Seated O T → Type 0
  laid_down step m found m' = (m'.1 ≡ rest m.1) × Becomes m m' (λ a a'. (to : ℕ) → a.moving ≡ Filling to → a' ≡ record a { moving = Still; laid = slice_set a.laid to (a.arrivals + 1) })

  -- the receiver has the slot of the mailbox of its last period, with a mail that fits
  abbrev pub lifted_to_take : (O → ℕ → ℕ → ℕ → T → Type 0) → Stepped T → Seated O T → ℕ → Seated O T → Type 0
  lifted_to_take fits step m found m' = Becomes m m' (λ a a'. (from : ℕ) → from < a.parties → step.word ≡ word_of (slot_of from a.number (bank_of a.arrivals))
      → (a' ≡ record a { moving = Emptying from })
      × ((mail : T) × (m'.1 ≡ (slot_of from a.number (bank_of a.arrivals), Some mail) ∷ m.1) × fits a.occasion from a.number a.arrivals mail))

  -- the slot is home, and the mail of the receiver's last period is taken
  abbrev pub emptied : Stepped T → Seated O T → ℕ → Seated O T → Type 0
  emptied step m found m' = (m'.1 ≡ rest m.1) × Becomes m m' (λ a a'. (from : ℕ) → a.moving ≡ Emptying from → a' ≡ record a { moving = Still; taken = slice_set a.taken from a.arrivals })
