-- Trails that fit clauses: what propagation and decisions keep, and what the analysis of a conflict rests on.
use Rattle.std.specs.Prelude.{ℕ, ◌+◌, ◌≡◌, ⊤, IsTrue, ◌||◌, List, [], ◌∷◌, Option, Some, None}
use Rattle.std.specs.List.{list_any, list_all, AllByRecursion}
use Rattle.lit_base.specs.Literal.{Literal, same}
use Rattle.lit_base.specs.Trail.{is_false, is_free, level_now}
use Rattle.lit_base.specs.Rounds.{NamedClause, is_falsified, Propagated}
use Rattle.lit_base.specs.declared.trail.Entry.{Entry}
use Rattle.lit_base.specs.declared.name.Name.{Name}

-- the entries are over distinct variables
abbrev pub HasDistinctVariables : List Entry → Type 0
HasDistinctVariables [] = ⊤
HasDistinctVariables (e ∷ older) = IsTrue (is_free older e.lit.variable) × HasDistinctVariables older

-- a clause implies a literal over a trail: it holds the literal, and its other literals are false
pub record IsImplied (trail : List Entry) (l : Literal) (lits : List Literal) : Type 0 where
  pub held : IsTrue (list_any (λ m. same m l) lits)
  pub others : IsTrue (list_all (λ m. is_false trail m || same m l) lits)

-- the same of the clause that was looked up, which has to be there
abbrev pub IsImpliedBy : List Entry → Literal → Option (List Literal) → Type 0
IsImpliedBy trail l None = ⊥
IsImpliedBy trail l (Some lits) = IsImplied trail l lits

-- a reason names a clause that implies the literal over the older entries; a decision has none
abbrev pub HasReason : (Name → Option (List Literal)) → List Entry → Literal → Option Name → Type 0
HasReason look older l None = ⊤
HasReason look older l (Some name) = IsImpliedBy older l (look name)

-- a trail fits clauses where each reason names a clause that implies its entry's literal over the older entries
abbrev pub FitsClauses : (Name → Option (List Literal)) → List Entry → Type 0
FitsClauses look [] = ⊤
FitsClauses look (e ∷ older) = HasReason look older e.lit e.reason × FitsClauses look older

-- the level of a new entry: one more for a decision, else the present one
abbrev pub IsNextLevel : ℕ → ℕ → Option Name → Type 0
IsNextLevel now level None = level ≡ now + 1
IsNextLevel now level (Some name) = level ≡ now

-- levels begin at 0, never fall, and rise by one exactly at a decision
abbrev pub IsLeveled : List Entry → Type 0
IsLeveled [] = ⊤
IsLeveled (e ∷ older) = IsNextLevel (level_now older) e.level e.reason × IsLeveled older

-- the clause that was looked up is there and falsified
abbrev pub IsFalsifiedBy : List Entry → Option (List Literal) → Type 0
IsFalsifiedBy trail None = ⊥
IsFalsifiedBy trail (Some lits) = IsTrue (is_falsified trail lits)

-- the clause with this name is a conflict on the trail
abbrev pub IsConflict : (Name → Option (List Literal)) → List Entry → Name → Type 0
IsConflict look trail name = IsFalsifiedBy trail (look name)

-- each of the clauses is found under its name
abbrev pub FindsAll : (Name → Option (List Literal)) → List NamedClause → Type 0
FindsAll look clauses = AllByRecursion (λ c. look c.name ≡ Some c.lits) clauses

-- a trail over distinct variables, with its levels in order, that fits the clauses
pub record IsFitting (look : Name → Option (List Literal)) (trail : List Entry) : Type 0 where
  pub distinct : HasDistinctVariables trail
  pub fits : FitsClauses look trail
  pub leveled : IsLeveled trail

-- the answer of propagation is a conflict, where it is one
abbrev pub IsAnswer : (Name → Option (List Literal)) → List Entry → Option Name → Type 0
IsAnswer look trail None = ⊤
IsAnswer look trail (Some name) = IsConflict look trail name

-- propagation leaves a fitting trail at the level that it found, and answers a clause that is a conflict on it, or none
pub record PropagatesFitting (look : Name → Option (List Literal)) (before : List Entry) (after : Propagated) : Type 0 where
  pub fitting : IsFitting look after.trail
  pub level : level_now after.trail ≡ level_now before
  pub conflict : IsAnswer look after.trail after.conflict
