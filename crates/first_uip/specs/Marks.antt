-- Flags by variable, for the marked variables of an analysis, and the count of the flagged entries of a level.
use Rattle.std.specs.Prelude.{◌≡◌, ◌≤◌, ℕ, ◌==◌, Bool, false, ◌&&◌, List, [], ◌++◌, Option, Some, None, slice_index_or, filter, count_by, vec_len, vec_capacity, if◌then◌else◌}
use Rattle.lit_base.specs.Analysis.{is_marked}
use Rattle.lit_base.specs.declared.trail.Entry.{Entry}
use Rattle.first_uip.specs.declared.marks.Marks.{Marks}

-- whether the flag of the variable is set
abbrev pub is_flagged : List Bool → ℕ → Bool
is_flagged flags v = slice_index_or flags v false

-- the flags that are set are those of the marked variables
abbrev pub AreFlagsOf : List ℕ → List Bool → Type 0
AreFlagsOf marked flags = (v : ℕ) → is_flagged flags v ≡ is_marked marked v

-- the entries whose flag is set
abbrev pub flagged : List Bool → List Entry → List Entry
flagged flags entries = filter (λ e. is_flagged flags e.lit.variable) entries

-- how many of the entries have their flag set, of those whose level passes the test
abbrev pub flagged_count : (ℕ → Bool) → List Bool → List Entry → ℕ
flagged_count test flags entries = count_by (λ e. test e.level && is_flagged flags e.lit.variable) entries

-- the one level passes
abbrev pub this_level : ℕ → ℕ → Bool
this_level level n = n == level

-- one where there is a number that passes the test, else none
abbrev pub one_if : (ℕ → Bool) → Option ℕ → ℕ
one_if test None = 0
one_if test (Some n) = if test n then 1 else 0

-- the list begins with the other
pub record GoesOn (marked after : List ℕ) : Type 0 where
  pub more : List ℕ
  pub is : after ≡ marked ++ more

-- the list has each marked variable once, no more of them than flags are set, and there is room for one of each flag
pub record AreListed (m : Marks) : Type 0 where
  pub flags : AreFlagsOf m.marked.items m.flags.items
  pub once : (v : ℕ) → count_by (λ w. v == w) m.marked.items ≡ (if is_flagged m.flags.items v then 1 else 0)
  pub few : vec_len m.marked ≤ count_by (λ flag. flag) m.flags.items
  pub room : vec_len m.flags ≤ vec_capacity m.marked

-- the count is that of the flagged entries of the level among these
pub record IsCounted (level : ℕ) (rest : List Entry) (m : Marks) : Type 0 where
  pub of_level : m.left ≡ flagged_count (this_level level) m.flags.items rest
  pub listed : AreListed m

-- no flag of so many is set, and nothing is counted or listed
pub record AreClear (flags : ℕ) (m : Marks) : Type 0 where
  pub len : vec_len m.flags ≡ flags
  pub unset : (v : ℕ) → is_flagged m.flags.items v ≡ false
  pub none_listed : m.marked.items ≡ []
  pub none : vec_len m.marked ≡ 0
  pub room : flags ≤ vec_capacity m.marked
  pub left : m.left ≡ 0
