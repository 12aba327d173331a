-- From one period to the next: what a core keeps, and what it imports from the mails of the others.
use Rattle.std.specs.Prelude.{ℕ, ◌+◌, ◌≤◌, ◌≡◌, ◌≢◌, ⊤, All, List, [], ◌∷◌, ◌++◌, map, None}
use Rattle.std.specs.List.{IsDistinct}
use Rattle.lit_base.specs.Literal.{IsWithin, same}
use Rattle.lit_base.specs.Rounds.{NamedClause}
use Rattle.lit_base.specs.Named.{lits_at}
use Rattle.lit_base.specs.Held.{HeldClause, clauses_of, unused, with_clause}
use Rattle.lit_base.specs.declared.name.Name.{Name}
use Rattle.solo_core.specs.State.{CoreState, lemma_name}
use Rattle.solo_core.specs.Changes.{with_clauses}
use Rattle.solo_core.specs.declared.sheet.Mail.{Mail}
use Rattle.solo_core.specs.declared.sheet.Posted.{Posted}

-- a core at the start of its next period: the lemmas and the conflicts of the last one are over
abbrev pub in_next_period : CoreState → CoreState
in_next_period state = record state { period = state.period + 1; period_conflicts = 0; lemmas = [] }

-- at the start of a period a core has no lemma and no conflict of it
abbrev pub BeginsPeriod : CoreState → Type 0
BeginsPeriod state = (state.period_conflicts ≡ 0) × (state.lemmas ≡ [])

-- none of the clauses has a name of this period and of another core
abbrev pub NoneOfOthers : List NamedClause → ℕ → ℕ → Type 0
NoneOfOthers clauses period core = (name : Name) → name.period ≡ period → name.core ≢ core → lits_at clauses name ≡ None

-- a posted clause under its name
abbrev pub posted_clause : Posted → NamedClause
posted_clause post = record { name = post.name; lits = post.lits }

-- the clauses that these mails post, mail by mail
abbrev pub clauses_posted : List Mail → List NamedClause
clauses_posted [] = []
clauses_posted (mail ∷ later) = map posted_clause mail.posted ++ clauses_posted later

-- the held clauses with these, which have no uses
abbrev pub with_unused : List NamedClause → List HeldClause → List HeldClause
with_unused [] held = held
with_unused (c ∷ later) held = with_unused later (with_clause (unused c) held)

-- clauses that can be held one after the other: each has distinct literals, and a name under which none is held when its
-- turn comes
abbrev pub AreNewTo : List HeldClause → List NamedClause → Type 0
AreNewTo held [] = ⊤
AreNewTo held (c ∷ later) =
    (lits_at (clauses_of held) c.name ≡ None) × IsDistinct same c.lits × AreNewTo (with_clause (unused c) held) later

-- a core that holds these clauses too
abbrev pub with_more : List NamedClause → CoreState → CoreState
with_more clauses state = with_clauses (with_unused clauses state.clauses) state

-- a core after it imported what these mails post: it is in the next period
abbrev pub core_after_import : List Mail → CoreState → CoreState
core_after_import mails state = with_more (clauses_posted mails) (in_next_period state)

-- the posts have names of this period and core, with rising indexes from this place on, and their literals are
-- distinct and within the variables
abbrev pub ArePosts : ℕ → ℕ → ℕ → ℕ → List Posted → Type 0
ArePosts variables period core place [] = ⊤
ArePosts variables period core place (post ∷ later) =
    (place ≤ post.name.index) × (post.name ≡ lemma_name period core post.name.index) ×
    All (IsWithin variables) post.lits × IsDistinct same post.lits × ArePosts variables period core (post.name.index + 1) later

-- the mails are of other cores, from this one on and rising, and post lemmas of their cores in this period
abbrev pub AreMails : ℕ → ℕ → ℕ → ℕ → List Mail → Type 0
AreMails variables period own core [] = ⊤
AreMails variables period own core (mail ∷ later) =
    (core ≤ mail.core) × (mail.core ≢ own) × ArePosts variables period mail.core 0 mail.posted ×
    AreMails variables period own (mail.core + 1) later
