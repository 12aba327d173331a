-- Which view may make which step, and that each step keeps the rule: from every state that meets it, with the word as the step finds it,
-- the state after the step meets it, and the seat is told what the step says.
use Rattle.std.specs.Prelude.{◌≡◌, ◌≢◌, ℕ, ◌+◌, ◌%◌, ◌^◌, ◌<◌, ◌≤◌, ◌==◌, if◌then◌else◌, List, ◌∷◌, replicate, slice_index, Option, Some, None}
use mathlib.Core.Option.{none}
use Rattle.atomic_table.specs.Table.{State, Me, Step, step, opening, Allows, Splits}
use Rattle.board_rule.specs.declared.views.Account.{Account}
use Rattle.board_rule.specs.declared.views.Moving.TheVariants.{Still, Filling, Emptying}
use Rattle.board_rule.specs.declared.views.Terms.{Terms}
use Rattle.board_rule.specs.declared.views.View.{View}
use Rattle.board_rule.specs.declared.views.View.TheVariants.{Maker, Party}
use Rattle.board_rule.specs.Mailbox.{bank_of, slot_of, word_of, uses, period_of}

module _ {O : Type 0} where
  -- a party may arrive that knows its last period complete, has laid all mails of the next one and taken all of the last
  pub record MayArrive (a : Account O) : Type 0 where
    pub still : a.moving ≡ Still
    pub known : a.known ≡ a.arrivals
    pub more : a.arrivals < 2 ^ 40
    pub all_laid : (to : ℕ) → to < a.parties → to ≢ a.number → slice_index a.laid to ≡ a.arrivals + 1
    pub all_taken : (from : ℕ) → from < a.parties → from ≢ a.number → slice_index a.taken from ≡ a.arrivals

  -- a party may lift a slot to fill it that knows its last period complete, and has laid no mail of the next one for the receiver
  pub record MayFill (a : Account O) (to : ℕ) : Type 0 where
    pub still : a.moving ≡ Still
    pub known : a.known ≡ a.arrivals
    pub within : to < a.parties
    pub other : to ≢ a.number
    pub next : slice_index a.laid to ≡ a.arrivals

  -- a party may lift a slot to empty it that knows its last period complete, and has not taken the sender's mail of it
  pub record MayTake (a : Account O) (from : ℕ) : Type 0 where
    pub still : a.moving ≡ Still
    pub known : a.known ≡ a.arrivals
    pub within : from < a.parties
    pub other : from ≢ a.number
    pub next : slice_index a.taken from + 1 ≡ a.arrivals

-- what a seat of a board knows, and the slots that it holds
abbrev pub Seated : Type 0 → Type 0 → Type 0
Seated O T = Me (Option T) (View O)

abbrev pub Held : Type 0 → Type 0
Held T = List (ℕ × Option T)

-- a rule over the table of a board
abbrev pub RuleOf : Type 0 → Type 0 → Type 1
RuleOf O T = Terms O → State (Option T) (View O) → Type 0

-- what a step tells
abbrev pub Tells : Type 0 → Type 0 → Type 1
Tells O T = Step (Option T) → Seated O T → ℕ → Seated O T → Type 0

-- so many added to a word, as the machine adds
abbrev pub more : ℕ → ℕ → ℕ
more by word = (word + by) % 2 ^ 64

module _ {O T : Type 0} where
  -- the table of a board of 1 to 33 parties meets the rule when it is made: all words are 0, and all slots empty
  abbrev pub StartMeets : RuleOf O T → (Terms O → View O) → Type 0
  StartMeets holds first = (terms : Terms O) → 0 < terms.parties → terms.parties ≤ 33 → holds terms (opening (replicate 2194 0) (replicate 2178 None) (first terms))

  abbrev pub ArriveKeeps : RuleOf O T → Tells O T → Type 0
  ArriveKeeps holds tells = (terms : Terms O) (slots id : ℕ) (a : Account O) (held : Held T) → MayArrive a
      → Allows (holds terms) slots id (Party a, held) 0 (more 1) (tells (step slots 0 1 0 none) (Party a, held))

  abbrev pub LookKeeps : RuleOf O T → Tells O T → Type 0
  LookKeeps holds tells = (terms : Terms O) (slots id : ℕ) (a : Account O) (held : Held T)
      → Allows (holds terms) slots id (Party a, held) 0 (λ word. word) (tells (step slots 0 0 0 none) (Party a, held))

  abbrev pub FillKeeps : RuleOf O T → Tells O T → Type 0
  FillKeeps holds tells = (terms : Terms O) (slots id : ℕ) (a : Account O) (held : Held T) (to : ℕ) → MayFill a to
      → let word : ℕ = word_of (slot_of a.number to (bank_of (a.arrivals + 1))) in
      Allows (holds terms) slots id (Party a, held) word (more 1) (tells (step slots word 1 0 none) (Party a, held))

  -- the sender lays down the mail that it has put into the slot, which fits
  abbrev pub LayKeeps : (O → ℕ → ℕ → ℕ → T → Type 0) → RuleOf O T → Tells O T → Type 0
  LayKeeps fits holds tells = (terms : Terms O) (slots id : ℕ) (a : Account O) (held : Held T) (to : ℕ) (mail : T) → a.moving ≡ Filling to → fits a.occasion a.number to (a.arrivals + 1) mail
      → let slot : ℕ = slot_of a.number to (bank_of (a.arrivals + 1)) in
      Allows (holds terms) slots id (Party a, (slot, Some mail) ∷ held) (word_of slot) (more 1) (tells (step slots (word_of slot) 1 0 none) (Party a, (slot, Some mail) ∷ held))

  abbrev pub TakeKeeps : RuleOf O T → Tells O T → Type 0
  TakeKeeps holds tells = (terms : Terms O) (slots id : ℕ) (a : Account O) (held : Held T) (from : ℕ) → MayTake a from
      → let word : ℕ = word_of (slot_of from a.number (bank_of a.arrivals)) in
      Allows (holds terms) slots id (Party a, held) word (more 1) (tells (step slots word 1 0 none) (Party a, held))

  -- the receiver lays down the slot that it has emptied
  abbrev pub EmptyKeeps : RuleOf O T → Tells O T → Type 0
  EmptyKeeps holds tells = (terms : Terms O) (slots id : ℕ) (a : Account O) (held : Held T) (from : ℕ) → a.moving ≡ Emptying from
      → let slot : ℕ = slot_of from a.number (bank_of a.arrivals) in
      Allows (holds terms) slots id (Party a, (slot, None) ∷ held) (word_of slot) (more 1) (tells (step slots (word_of slot) 1 0 none) (Party a, (slot, None) ∷ held))

  -- the maker's view is cut in two while some party has no seat
  abbrev pub SplitKeeps : RuleOf O T → (View O → View O) → (View O → View O) → Type 0
  SplitKeeps holds left right = (terms : Terms O) (id number : ℕ) → number < terms.parties
      → let maker : View O = Maker terms.occasion.value terms.parties number in Splits (holds terms) id maker (left maker) (right maker)

-- no two mailboxes of 33 parties have one slot, and all lie below 2178
abbrev pub SlotsApart : Type 0
SlotsApart = (i j b i' j' b' : ℕ) → i < 33 → j < 33 → b < 2 → i' < 33 → j' < 33 → b' < 2 → slot_of i j b ≡ slot_of i' j' b' → (i ≡ i') × (j ≡ j') × (b ≡ b')

abbrev pub SlotsBelow : Type 0
SlotsBelow = (i j b : ℕ) → i < 33 → j < 33 → b < 2 → slot_of i j b < 2178

-- a bank has one use more in each period that uses it, and none before the first
abbrev pub UsesCounted : Type 0
UsesCounted = (b : ℕ) → b < 2 → (uses 0 b ≡ 0) × ((p : ℕ) → uses (p + 1) b ≡ uses p b + (if bank_of (p + 1) == b then 1 else 0))

-- a period is the one that its number of uses of its bank tells
abbrev pub PeriodsFound : Type 0
PeriodsFound = (p : ℕ) → 1 ≤ p → period_of (uses p (bank_of p)) (bank_of p) ≡ p
