-- The chains by which slots are found: each slot leads to the next older one of its chain.
use Rattle.std.specs.Prelude.{◌≡◌, ℕ, ◌+◌, ◌*◌, ◌/◌, ◌%◌, ◌^◌, ◌<◌, ◌==◌, ⊤, List, [], ◌∷◌, length, get_or, if◌then◌else◌}
use Rattle.lit_base.specs.declared.name.Name.{Name}
use Rattle.lit_base.specs.Literal.{Literal}
use Rattle.lit_base.specs.Held.{volume_of}
use Rattle.clause_pool.specs.declared.slot.Slot.{Slot}
use Rattle.clause_pool.specs.Arena.{IsArena}
use Rattle.clause_pool.specs.Slots.{ends_of, clauses_in}

-- a number of 64 bits that spreads names
unfoldable pub hash_of : Name → ℕ
hash_of name = ((name.period * 4294967296 + name.index + name.core * 14029467366897019727 % 2 ^ 64) % 2 ^ 64 * 11400714819323198485) % 2 ^ 64

-- the chain of a name, of so many; which one it is decides nothing but the time
unfoldable pub chain_of : ℕ → Name → ℕ
chain_of count name = hash_of name * count / 2 ^ 64

-- where a chain begins: one more than the place of its newest slot, or 0 where it has none
abbrev pub head_in : ℕ → ℕ → List Slot → ℕ
head_in count chain [] = 0
head_in count chain (s ∷ older) = if chain_of count s.name == chain then length older + 1 else head_in count chain older

-- each slot leads to where its chain began before it
abbrev pub AreLinks : ℕ → List Slot → Type 0
AreLinks count [] = ⊤
AreLinks count (s ∷ older) = (s.link ≡ head_in count (chain_of count s.name) older) × AreLinks count older

-- the heads are where the chains of the slots begin, and there are some where there are slots
pub record IsLinked (heads : List ℕ) (slots : List Slot) : Type 0 where
  pub some : 0 < length slots → 0 < length heads
  pub heads_are : (chain : ℕ) → chain < length heads → get_or heads chain 0 ≡ head_in (length heads) chain slots
  pub links : AreLinks (length heads) slots

-- slots over an arena, linked where a link can tell the place of each, with a flag for each and the number of lemmas
pub record IsTable (literals : List Literal) (slots : List Slot) (flags : ℕ) (heads : List ℕ) (volume : ℕ) : Type 0 where
  pub arena : IsArena literals (ends_of slots)
  pub flagged : flags ≡ length slots
  pub some : 0 < length slots → 0 < length heads
  pub linked : length slots < 2 ^ 32 → IsLinked heads slots
  pub counted : volume ≡ volume_of (clauses_in literals slots)
