-- The loop of a walk, by what its steps tell.
use Rattle.std.proofs.Common.{◌≡◌, ℕ, ◌+◌, ◌-◌, ◌*◌, ◌<◌, ◌≤◌, Bool, List, length, sym, subst, arith}
use Rattle.std.specs.Prelude.{if◌then◌else◌}
use Rattle.lit_base.specs.Literal.{Literal, IsWithin}
use Rattle.lit_base.specs.Rounds.{NamedClause}
use Rattle.lit_base.specs.declared.trail.Entry.{Entry}
use Rattle.round_prop.specs.declared.table.Table.{Table}
use Rattle.round_prop.specs.Linked.{IsStep}
use Rattle.round_prop.specs.Noting.{AreFlagged, HasMoreNotes}
use Rattle.round_prop.specs.Pairs.{occurrences_of}
use Rattle.round_prop.specs.Readied.{row_names, AreNamedApart, HaveSameRows, IsTable}
use Rattle.round_prop.specs.Walking.{IsWalk, MayWalk}
use Rattle.round_prop.specs.Chains.{no_node, list_at}
use Rattle.trail_book.specs.Arrays.{index_of}
use Rattle.round_prop.proofs.TableSteps.{index_inside, begun_walk, walked_table, walk_few}

-- what a step tells of walks
abbrev pub StepTells : List NamedClause → List Entry → Literal → ℕ → ℕ → Table → Table → Bool → ℕ → ℕ → Type 0
StepTells clauses trail l last newest t after more steps now =
    (done next : List Entry) (left most : ℕ) → IsStep trail done next l → AreFlagged (row_names t.rows.items) t.noted.flags.items t.noted.notes.items → IsWalk clauses trail done next l (left + 1) steps most last t →
    IsWalk clauses trail done next l (if more then left else 0) now most newest after

-- so many are left behind a step, or none
pub one_step : (clauses : List NamedClause) (trail done next : List Entry) (l : Literal) (last newest : ℕ) (first t after : Table) (more b : Bool) (nodes counter steps now most : ℕ) → StepTells clauses trail l last newest t after more steps now → more ≡ b → counter < nodes →
    IsStep trail done next l → HaveSameRows first t → HasMoreNotes trail clauses (row_names first.rows.items) first.noted t.noted → AreFlagged (row_names first.rows.items) first.noted.flags.items first.noted.notes.items →
    IsWalk clauses trail done next l (nodes - counter) steps most last t → IsWalk clauses trail done next l (if b then nodes - (counter + 1) else 0) now most newest after
one_step clauses trail done next l last newest first t after more b nodes counter steps now most tells is inside step rows notes flagged walk =
    let e : nodes - counter ≡ nodes - (counter + 1) + 1 = omega (arith, inside) in
    subst (λ c. IsWalk clauses trail done next l (if c then nodes - (counter + 1) else 0) now most newest after) is
    (tells done next (nodes - (counter + 1)) most step (subst (λ rs. AreFlagged (row_names rs) t.noted.flags.items t.noted.notes.items) (sym rows.rows) (notes.flagged flagged))
    (subst (λ k. IsWalk clauses trail done next l k steps most last t) e walk))

-- the numbers of the loop
pub walk_left : (clauses : List NamedClause) (trail done next : List Entry) (l : Literal) (left other steps most last : ℕ) (t : Table) → left ≡ other → IsWalk clauses trail done next l left steps most last t → IsWalk clauses trail done next l other steps most last t
walk_left clauses trail done next l left other steps most last t is walk = subst (λ k. IsWalk clauses trail done next l k steps most last t) is walk

pub more_named : (trail : List Entry) (clauses : List NamedClause) (first t after : Table) → HaveSameRows first t → HasMoreNotes trail clauses (row_names t.rows.items) t.noted after.noted → HasMoreNotes trail clauses (row_names first.rows.items) t.noted after.noted
more_named trail clauses first t after rows more = subst (λ rs. HasMoreNotes trail clauses (row_names rs) t.noted after.noted) rows.rows more

-- what a walk tells that has ended
abbrev pub WalkEnds : List NamedClause → List Entry → Literal → ℕ → Table → Table → ℕ → ℕ → Type 0
WalkEnds clauses trail l last before after steps now =
    (done next : List Entry) (most : ℕ) → IsStep trail done next l → AreFlagged (row_names before.rows.items) before.noted.flags.items before.noted.notes.items →
    IsWalk clauses trail done next l (length before.links.nodes.items) steps most no_node before → IsWalk clauses trail done next l 0 now most last after

module _ (clauses : List NamedClause) (trail : List Entry) (l : Literal) (variables last : ℕ) (before after : Table) (steps now : ℕ) (within : IsWithin variables l) (wide : length before.links.heads.items ≡ 2 * variables + 2)
    (ends : WalkEnds clauses trail l last before after steps now) where
  -- its table is right for the entry
  pub ended_table : HaveSameRows before after → HasMoreNotes trail clauses (row_names before.rows.items) before.noted after.noted → (done next : List Entry) → IsStep trail done next l → IsTable clauses trail done before → IsTable clauses trail next after
  ended_table rows more done next step table =
      let bounds = index_inside variables l within in
      let most = steps + length (list_at table.threaded.lists (index_of l)) in
      let walk = ends done next most step table.flagged (begun_walk clauses trail done next l before steps most step table bounds.0 (omega (arith, wide, bounds.1)) (omega arith)) in
      walked_table clauses trail done next l now most last before after bounds.0 (omega (arith, wide, bounds.1, rows.heads)) table rows more walk

  -- and it has read few clauses
  pub ended_few : MayWalk clauses trail l before → AreNamedApart (row_names before.rows.items) → now ≤ steps + occurrences_of l clauses
  ended_few may apart =
      let bounds = index_inside variables l within in
      walk_few clauses trail l last before after steps now may apart bounds.0 (omega (arith, wide, bounds.1)) ends
