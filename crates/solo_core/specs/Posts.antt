-- What a core posts to the others: the short lemmas of its period.
use Rattle.std.specs.Prelude.{ℕ, Bool, ◌&&◌, nat_le, List, length, map, filter}
use Rattle.solo_core.specs.declared.lemma.Lemma.{Lemma}
use Rattle.solo_core.specs.declared.sheet.Posted.{Posted}

-- a lemma is posted where it has at least one literal and at most as many as the share limit
abbrev pub is_posted : ℕ → Lemma → Bool
is_posted share lemma = nat_le 1 (length lemma.lits) && nat_le (length lemma.lits) share

-- a lemma as a posted clause
abbrev pub posted_of : Lemma → Posted
posted_of lemma = record { name = lemma.name; lits = lemma.lits }

-- the posted ones of these lemmas, in their order
abbrev pub posts_of : ℕ → List Lemma → List Posted
posts_of share lemmas = map posted_of (filter (is_posted share) lemmas)
