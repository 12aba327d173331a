-- The rule of a board: what its words and slots hold, given what each party has done.
use Rattle.std.specs.Prelude.{◌≡◌, ◌≢◌, ℕ, zero, suc, ◌+◌, ◌*◌, ◌<◌, ◌≤◌, List, length, slice_index, Option, Some, None}
use mathlib.Core.Option.{some, none}
use mathlib.Core.Option as maybe
use lib.ListN.{get_elem?}
use Rattle.atomic_table.specs.Table.{State}
use Rattle.board_rule.specs.declared.views.Account.{Account}
use Rattle.board_rule.specs.declared.views.View.{View}
use Rattle.board_rule.specs.declared.views.View.TheVariants.{Maker, Party}
use Rattle.board_rule.specs.Mailbox.{slot_of, word_of, uses, period_of}
use Rattle.board_rule.specs.Accounts.{fresh, IsInOrder, filling, emptying}

-- f 0 + .. + f (n - 1)
abbrev pub sum_to : ℕ → (ℕ → ℕ) → ℕ
sum_to zero f = 0
sum_to (suc n) f = sum_to n f + f n

module _ {O : Type 0} where
  -- the seat of a view is the maker's, or that of a party which the maker has given one
  abbrev pub IsPlaced : ℕ → ℕ → (ℕ → ℕ) → ℕ → View O → Type 0
  IsPlaced made maker seat id (Maker occasion parties number) = id ≡ maker
  IsPlaced made maker seat id (Party a) = (a.number < made) × (id ≡ seat a.number)

  -- one seat is the maker's, each party below its number has one, and there are no others
  pub record AreSeated (occasion : O) (parties made maker : ℕ) (seat : ℕ → ℕ) (account : ℕ → Account O) (views : List (View O)) : Type 0 where
    pub made_few : made ≤ parties
    pub maker_is : get_elem? views maker ≡ some (Maker occasion parties made)
    pub each_seat : (i : ℕ) → i < made → get_elem? views (seat i) ≡ some (Party (account i))
    pub each_view : (id : ℕ) (v : View O) → get_elem? views id ≡ some v → IsPlaced made maker seat id v
    pub rest_fresh : (i : ℕ) → made ≤ i → account i ≡ fresh occasion parties i

-- A mailbox through which so many mails were laid and taken. Its word counts their moves, twice for each mail, and 1 for a move in its middle.
-- Its slot is out in the middle of a move; else it holds nothing, or the one mail that is not taken, which fits its period.
pub record IsMailbox {T : Type 0} (fits : ℕ → T → Type 0) (words : List ℕ) (homes : List (maybe.Option (Option T))) (slot bank laid taken fills empties : ℕ) : Type 0 where
  pub word : slice_index words (word_of slot) ≡ 2 * laid + 2 * taken + (fills + empties)
  pub alone : fills + empties ≤ 1
  pub out : fills + empties ≡ 1 → get_elem? homes slot ≡ some none
  pub empty : fills + empties ≡ 0 → laid ≡ taken → get_elem? homes slot ≡ some (some None)
  pub full : fills + empties ≡ 0 → laid ≢ taken → (laid ≡ taken + 1) × ((mail : T) × (get_elem? homes slot ≡ some (some (Some mail))) × fits (period_of laid bank) mail)

module _ {O T : Type 0} (fits : O → ℕ → ℕ → ℕ → T → Type 0) where
  -- the mailbox of a bank between two parties with these accounts
  abbrev pub IsMailboxOf : O → List ℕ → List (maybe.Option (Option T)) → ℕ → ℕ → ℕ → Account O → Account O → Type 0
  IsMailboxOf occasion words homes from to bank a b = IsMailbox (fits occasion from to) words homes (slot_of from to bank) bank
      (uses (slice_index a.laid to) bank) (uses (slice_index b.taken from) bank) (filling a.arrivals a.moving to bank) (emptying b.arrivals b.moving from bank)

  -- the rule of a board of so many parties, from 1 to 33
  pub record BoardRule (parties : ℕ) (occasion : O) (s : State (Option T) (View O)) : Type 0 where
    pub made : ℕ
    pub maker : ℕ
    pub seat : ℕ → ℕ
    pub account : ℕ → Account O
    pub some_party : 0 < parties
    pub few_parties : parties ≤ 33
    pub wide : length s.words ≡ 2194
    pub deep : length s.homes ≡ 2178
    pub seats : AreSeated occasion parties made maker seat account s.views
    pub arrivals : slice_index s.words 0 ≡ sum_to parties (λ i. (account i).arrivals)
    pub phases : (i j : ℕ) → i < parties → j < parties → (account i).known ≤ (account j).arrivals
    pub accounts : (i : ℕ) → i < parties → IsInOrder occasion parties i (account i)
    pub mailboxes : (i j bank : ℕ) → i < parties → j < parties → i ≢ j → bank < 2 → IsMailboxOf occasion s.words s.homes i j bank (account i) (account j)
