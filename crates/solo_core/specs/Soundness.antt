-- What holds of a core between two turns, and what a stretch leaves. `base` are the clauses that were known when the
-- period began: originals, and lemmas of earlier periods, of this core and of those whose clauses it imported.
use Rattle.std.specs.Prelude.{ℕ, ◌+◌, ◌≤◌, ◌≡◌, ⊤, IsTrue, IsSome, Bool, All, List, [], ◌∷◌, ◌++◌, length, Option, None}
use Rattle.std.specs.List.{AllByRecursion, IsDistinct}
use Rattle.lit_base.specs.Literal.{Literal, IsWithin, same}
use Rattle.lit_base.specs.Cnf.{Cnf}
use Rattle.lit_base.specs.Truth.{is_clause_true}
use Rattle.lit_base.specs.Trail.{is_full, model_of}
use Rattle.lit_base.specs.Rounds.{NamedClause, originals}
use Rattle.lit_base.specs.Named.{lits_at}
use Rattle.lit_base.specs.Held.{HeldClause, clauses_of}
use Rattle.lit_base.specs.Walk.{FollowsByHints, FindsMore}
use Rattle.lit_base.specs.Fits.{FindsAll, IsFitting}
use Rattle.lit_base.specs.Quiet.{AreQuietBelow}
use Rattle.lit_base.specs.declared.trail.Entry.{Entry}
use Rattle.lit_base.specs.declared.name.Name.{Name}
use Rattle.solo_core.specs.declared.lemma.Lemma.{Lemma}
use Rattle.solo_core.specs.State.{CoreFrame, CoreState, lemma_name, lemma_clause, lemma_clauses}
use Rattle.solo_core.specs.Turn.{look_of}

-- each hint of the lemma names a clause that is found, and the lemma follows from its hints
pub record IsDerived (look : Name → Option (List Literal)) (lemma : Lemma) : Type 0 where
  pub found : AllByRecursion (λ hint. IsSome (look hint)) lemma.hints
  pub follows : FollowsByHints look lemma.lits lemma.hints

-- each lemma is derived from the known clauses and the earlier lemmas
abbrev pub AreDerived : List NamedClause → List Lemma → Type 0
AreDerived known [] = ⊤
AreDerived known (lemma ∷ later) = IsDerived (lits_at known) lemma × AreDerived (known ++ lemma_clause lemma ∷ []) later

-- the lemmas have the names of this period and core, by their places from this one on
abbrev pub AreNamed : ℕ → ℕ → ℕ → List Lemma → Type 0
AreNamed period core place [] = ⊤
AreNamed period core place (lemma ∷ later) =
    (lemma.name ≡ lemma_name period core place) × AreNamed period core (place + 1) later

-- the lemma isn't empty
abbrev pub HasLiterals : Lemma → Type 0
HasLiterals lemma = 1 ≤ length lemma.lits

-- the literals of the lemmas are within the variables
abbrev pub AreLemmasWithin : ℕ → List Lemma → Type 0
AreLemmasWithin variables lemmas = AllByRecursion (λ lemma. All (IsWithin variables) lemma.lits) lemmas

-- what holds of the clauses that a core holds, and of its trail
pub record IsHolding (variables : ℕ) (clauses : List HeldClause) (trail : List Entry) : Type 0 where
  -- each held clause is found under its name, and its literals are within the variables
  pub found : FindsAll (lits_at (clauses_of clauses)) (clauses_of clauses)
  pub within : All (λ c. All (IsWithin variables) c.lits) (clauses_of clauses)
  -- the trail fits the held clauses, its literals are within the variables, and at no lower level a held clause was
  -- left unit or falsified
  pub fitting : IsFitting (lits_at (clauses_of clauses)) trail
  pub trail_within : AllByRecursion (λ e. IsWithin variables e.lit) trail
  pub quiet : AreQuietBelow trail (clauses_of clauses)

-- the literals of each lemma are distinct
abbrev pub AreLemmasDistinct : List Lemma → Type 0
AreLemmasDistinct lemmas = AllByRecursion (λ lemma. IsDistinct same lemma.lits) lemmas

-- none of the clauses has a name of this period or a later one, of any core
abbrev pub NoneFrom : List NamedClause → ℕ → Type 0
NoneFrom clauses period = (name : Name) → period ≤ name.period → lits_at clauses name ≡ None

-- what holds of the lemmas of a period, over the clauses that were known when it began
pub record IsDeriving (base : List NamedClause) (frame : CoreFrame) (period : ℕ) (clauses : List HeldClause) (lemmas : List Lemma) : Type 0 where
  -- what is held was known when the period began, or is a lemma of the period
  pub carried : FindsMore (lits_at (clauses_of clauses)) (lits_at (base ++ lemma_clauses lemmas)) (λ name. name)
  -- no clause that was known then has a name of this period or a later one
  pub fresh : NoneFrom base period
  -- the lemmas have the next names, are derived from what was known then, and none is empty
  pub named : AreNamed period frame.core 0 lemmas
  pub derived : AreDerived base lemmas
  pub none_empty : AllByRecursion HasLiterals lemmas
  -- the literals of each are distinct, and within the variables
  pub lemmas_distinct : AreLemmasDistinct lemmas
  pub lemmas_within : AreLemmasWithin frame.variables lemmas

-- what holds of a core between two turns
pub record IsSound (base : List NamedClause) (frame : CoreFrame) (state : CoreState) : Type 0 where
  pub holds : IsHolding frame.variables state.clauses state.trail
  pub derives : IsDeriving base frame state.period state.clauses state.lemmas

-- the last lemma, and no earlier one, is empty
pub record EndsEmpty (lemmas : List Lemma) : Type 0 where
  pub earlier : List Lemma
  pub last : Lemma
  pub split : lemmas ≡ earlier ++ last ∷ []
  pub empty : last.lits ≡ []
  pub none_before : AllByRecursion HasLiterals earlier

-- the model makes each of the clauses true
abbrev pub AreTrueIn : List Bool → List NamedClause → Type 0
AreTrueIn model clauses = AllByRecursion (λ c. IsTrue (is_clause_true model c.lits)) clauses

-- the trail gives each variable a value, and the model that it is makes each held clause true
pub record IsModelFound (frame : CoreFrame) (state : CoreState) : Type 0 where
  pub full : IsTrue (is_full frame.variables state.trail)
  pub satisfied : AreTrueIn (model_of frame.variables state.trail) (clauses_of state.clauses)

-- each clause of the formula is held
abbrev pub HoldsFormula : Cnf → CoreState → Type 0
HoldsFormula cnf state = FindsAll (look_of state) (originals cnf)
