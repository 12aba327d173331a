-- The held lemmas without their literals.
use Rattle.std.specs.Prelude.{Bool, not, ◌&&◌, List, length, filter, map}
use Rattle.lit_base.specs.Held.{HeldClause, is_original, is_among}
use Rattle.lit_base.specs.declared.name.Name.{Name}
use Rattle.clause_pool.specs.declared.tally.Tally.{Tally}

-- a clause's name, the number of its literals, and its uses
abbrev pub tally_of : HeldClause → Tally
tally_of c = record { name = c.name; size = length c.lits; uses = c.uses }

-- whether a name is that of a lemma, and none of these
abbrev pub is_other_lemma : List Name → Name → Bool
is_other_lemma names name = not (is_original name) && not (is_among names name)

-- the lemmas among held clauses, but those with these names
abbrev pub lemmas_but : List Name → List HeldClause → List HeldClause
lemmas_but names held = filter (λ c. is_other_lemma names c.name) held

-- their tallies
abbrev pub tallies_but : List Name → List HeldClause → List Tally
tallies_but names held = map tally_of (lemmas_but names held)
