-- Which mailbox a mail goes through, and where it lies in the table. A mailbox has a sender, a receiver and a bank.
use Rattle.std.specs.Prelude.{ℕ, ◌+◌, ◌-◌, ◌*◌, ◌/◌, ◌%◌}

-- the bank that a period uses
abbrev pub bank_of : ℕ → ℕ
bank_of period = period % 2

-- the slot of a mailbox, among those of 33 parties
abbrev pub slot_of : ℕ → ℕ → ℕ → ℕ
slot_of from to bank = (from * 33 + to) * 2 + bank

-- the word of a slot: word 0 counts the arrivals, and the next 15 are unused
abbrev pub word_of : ℕ → ℕ
word_of slot = slot + 16

-- how many of the periods from 1 to the last one use the bank
abbrev pub uses : ℕ → ℕ → ℕ
uses last bank = (last + bank) / 2

-- the period that is the count-th one to use the bank
abbrev pub period_of : ℕ → ℕ → ℕ
period_of count bank = 2 * count - bank
