-- What holds of the clauses that a reduction drops.
use Rattle.std.specs.Prelude.{◌≡◌, ◌<◌, ⊤, Bool, true, false, List, [], ◌∷◌, ◌++◌, length, IsSome, IfSome, All, Contains}
use Rattle.std.specs.List.{AllByRecursion, IsDistinct}
use Rattle.std.specs.List.Sorted.{IsPermutation}
use Rattle.lit_base.specs.Named.{same_name, lits_at}
use Rattle.lit_base.specs.Held.{HeldClause, clauses_of, is_original, is_among}
use Rattle.lit_base.specs.Analysis.{is_reason}
use Rattle.lit_base.specs.declared.trail.Entry.{Entry}
use Rattle.lit_base.specs.declared.name.Name.{Name}
use Rattle.clause_pool.specs.declared.tally.Tally.{Tally}
use Rattle.clause_pool.specs.Rising.{IsOrdered}
use Rattle.trim_rule.specs.Reduction.{candidates, goes_before, dropped_count, dropped_clauses, dropped_names}

-- a held clause of this name may go
pub record MayGo (held : List HeldClause) (trail : List Entry) (name : Name) : Type 0 where
  pub clause : HeldClause
  pub stands : Contains held clause
  pub named : clause.name ≡ name
  -- it is no original
  pub lemma : is_original name ≡ false
  -- it has more than two literals
  pub long : 2 < length clause.lits
  -- it is the reason of no entry
  pub needless : AllByRecursion (λ e. is_reason name e.reason ≡ false) trail

-- each dropped clause may go
abbrev pub OnlyCandidatesGo : Type 0
OnlyCandidatesGo = (held : List HeldClause) (trail : List Entry) → All (MayGo held trail) (dropped_names held trail)

-- the reason of an entry is none of these names
abbrev pub HaveOtherReasons : List Entry → List Name → Type 0
HaveOtherReasons trail names = AllByRecursion (λ e. IfSome e.reason (λ reason. is_among names reason ≡ false)) trail

-- no reason on the trail goes
abbrev pub ReasonsStay : Type 0
ReasonsStay = (held : List HeldClause) (trail : List Entry) → HaveOtherReasons trail (dropped_names held trail)

-- half of the candidates go, rounded down
abbrev pub HalfGoes : Type 0
HalfGoes = (held : List HeldClause) (trail : List Entry) → length (dropped_names held trail) ≡ dropped_count held trail

-- with a candidate each one goes that goes before it
abbrev pub EarlierGoToo : Type 0
EarlierGoToo = (held : List HeldClause) (trail : List Entry) (t d : Tally) → Contains (candidates held trail) t →
    Contains (dropped_clauses held trail) d → goes_before t d ≡ true → Contains (dropped_clauses held trail) t

-- lemmas may be dropped under these names: each is held, none stands twice, and none is an original's
pub record MayBeDropped (held : List HeldClause) (names : List Name) : Type 0 where
  pub stand : All (λ name. IsSome (lits_at (clauses_of held) name)) names
  pub distinct : IsDistinct same_name names
  pub lemmas : All (λ name. is_original name ≡ false) names

-- of clauses that are found by their names held lemmas go, and each once
abbrev pub HeldLemmasGo : Type 0
HeldLemmasGo = (held : List HeldClause) (trail : List Entry) → IsOrdered held → MayBeDropped held (dropped_names held trail)

-- items stand in an order: none goes before an earlier one
abbrev pub IsInOrder : {X : Type 0} → (X → X → Bool) → List X → Type 0
IsInOrder before [] = ⊤
IsInOrder before (x ∷ later) = AllByRecursion (λ y. before y x ≡ false) later × IsInOrder before later

-- these are the candidates that go, where those that go and those that stay are all candidates in order, and half go
pub record IsReduction (held : List HeldClause) (trail : List Entry) (dropped : List Tally) : Type 0 where
  pub kept : List Tally
  pub all : IsPermutation (candidates held trail) (dropped ++ kept)
  pub ordered : IsInOrder goes_before (dropped ++ kept)
  pub half : length dropped ≡ dropped_count held trail

-- the dropped clauses are such a half, and no others are
pub record IsDetermined (held : List HeldClause) (trail : List Entry) : Type 0 where
  pub is : IsReduction held trail (dropped_clauses held trail)
  pub only : (dropped : List Tally) → IsReduction held trail dropped → dropped ≡ dropped_clauses held trail

-- so it is of all held clauses and on every trail
abbrev pub AreDetermined : Type 0
AreDetermined = (held : List HeldClause) (trail : List Entry) → IsDetermined held trail
