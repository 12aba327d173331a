-- Which lemmas a reduction drops. That half of them goes from time to time, those of little use first, is as in MiniSat (Eén and
-- Sörensson 2003); the order and what may go are this product's own.
use Rattle.std.specs.Prelude.{ℕ, ◌/◌, ◌==◌, nat_lt, Bool, not, ◌&&◌, ◌||◌, if◌then◌else◌, List, [], ◌∷◌, length, map, filter, take, Option, Some, None}
use Rattle.std.specs.List.{list_any}
use Rattle.lit_base.specs.Held.{HeldClause, is_original, is_before}
use Rattle.lit_base.specs.Analysis.{is_reason}
use Rattle.lit_base.specs.declared.trail.Entry.{Entry}
use Rattle.lit_base.specs.declared.name.Name.{Name}
use Rattle.clause_pool.specs.declared.tally.Tally.{Tally}
use Rattle.clause_pool.specs.Tallies.{tally_of}

-- whether a name is that of the reason of an entry
abbrev pub is_reason_on : List Entry → Name → Bool
is_reason_on trail name = list_any (λ e. is_reason name e.reason) trail

-- what may go: a clause that is no original, has more than two literals, and is no reason on the trail
abbrev pub is_candidate : List Entry → HeldClause → Bool
is_candidate trail c = not (is_original c.name) && (nat_lt 2 (length c.lits) && not (is_reason_on trail c.name))

-- of each held clause that may go its name, the number of its literals, and its uses
abbrev pub candidates : List HeldClause → List Entry → List Tally
candidates held trail = map tally_of (filter (is_candidate trail) held)

-- which of two clauses goes first: the one of fewer uses, of as many uses the longer one, of one length the one of lesser name
abbrev pub goes_before : Tally → Tally → Bool
goes_before a b =
    nat_lt a.uses b.uses || ((a.uses == b.uses) && (nat_lt b.size a.size || ((b.size == a.size) && is_before a.name b.name)))

-- an item put in front of the first of these that doesn't go before it
abbrev pub with_ordered : {X : Type 0} → (X → X → Bool) → X → List X → List X
with_ordered before x [] = x ∷ []
with_ordered before x (y ∷ later) = if before y x then y ∷ with_ordered before x later else x ∷ y ∷ later

-- items in an order
abbrev pub in_order : {X : Type 0} → (X → X → Bool) → List X → List X
in_order before [] = []
in_order before (x ∷ others) = with_ordered before x (in_order before others)

-- how many go: half of the candidates, rounded down
abbrev pub dropped_count : List HeldClause → List Entry → ℕ
dropped_count held trail = length (candidates held trail) / 2

-- the candidates that go, in their order: the first half
abbrev pub dropped_clauses : List HeldClause → List Entry → List Tally
dropped_clauses held trail = take (dropped_count held trail) (in_order goes_before (candidates held trail))

-- the names of the clauses that a reduction drops
abbrev pub dropped_names : List HeldClause → List Entry → List Name
dropped_names held trail = map (λ t. t.name) (dropped_clauses held trail)

-- names with that of a reason, where it is a lemma's
abbrev pub with_lemma : Option Name → List Name → List Name
with_lemma None names = names
with_lemma (Some name) names = if is_original name then names else name ∷ names

-- the lemmas that are reasons of entries
abbrev pub lemma_reasons : List Entry → List Name
lemma_reasons [] = []
lemma_reasons (e ∷ older) = with_lemma e.reason (lemma_reasons older)
