-- The order of the held clauses, and what each of them is.
use Rattle.std.specs.Prelude.{⊤, IsTrue, List, [], ◌∷◌}
use Rattle.std.specs.List.{AllByRecursion, IsDistinct}
use Rattle.lit_base.specs.Literal.{same}
use Rattle.lit_base.specs.Rounds.{NamedClause}
use Rattle.lit_base.specs.Named.{lits_at}
use Rattle.lit_base.specs.Held.{HeldClause, clauses_of, is_before}
use Rattle.lit_base.specs.Fits.{FindsAll}

-- the clauses stand by strictly rising names: each name is before all later ones
abbrev pub AreRising : List HeldClause → Type 0
AreRising [] = ⊤
AreRising (c ∷ later) = AllByRecursion (λ d. IsTrue (is_before c.name d.name)) later × AreRising later

-- the clauses stand by rising names, so each is found under its name
pub record IsOrdered (held : List HeldClause) : Type 0 where
  pub rising : AreRising held
  pub found : FindsAll (lits_at (clauses_of held)) (clauses_of held)

-- the literals of each clause are distinct
abbrev pub HaveDistinctLits : List NamedClause → Type 0
HaveDistinctLits clauses = AllByRecursion (λ c. IsDistinct same c.lits) clauses
