-- What propagation asks, and what it leaves.
use Rattle.std.specs.Prelude.{◌≡◌, [], All, length}
use Rattle.lit_base.specs.Literal.{IsWithin}
use Rattle.lit_base.specs.Rounds.{propagate}
use Rattle.lit_base.specs.Held.{clauses_of}
use Rattle.clause_pool.specs.Spans.{PoolState}
use Rattle.trail_book.specs.TrailState.{TrailState}
use Rattle.round_prop.specs.Attached.{RoundsState, IsAttached, IsAttachedTo}
use Rattle.round_prop.specs.Spanned.{IsPlacedIn}
use Rattle.round_prop.specs.Found.{found_of}
use Rattle.round_prop.specs.declared.found.Found.{Found}

-- propagation may go over the clauses of a pool from this trail: exactly those that are held are attached, the entries seen are
-- an older part of the trail, what is remembered of places is right, and all is over the same variables
pub record MayPropagate (r : RoundsState) (pool : PoolState) (trail : TrailState) : Type 0 where
  pub attached : IsAttachedTo r (clauses_of pool.held) trail.entries
  pub placed : IsPlacedIn r pool.added
  pub variables : r.variables ≡ length trail.saved
  pub within : All (λ c. All (IsWithin (length trail.saved)) c.lits) (clauses_of pool.held)

-- propagation over the clauses of a pool has gone from the one trail to the other, and has found this: the trail grew by the
-- units of its rounds, nothing is fresh any more, all entries were seen, and what is remembered of places is right
pub record HasPropagated (pool : PoolState) (before : TrailState) (r : RoundsState) (after : TrailState) (found : Found) : Type 0 where
  pub trail : after ≡ record before { entries = (propagate (length before.saved) (clauses_of pool.held) before.entries).trail }
  pub answer : found ≡ found_of (propagate (length before.saved) (clauses_of pool.held) before.entries).conflict
  pub attached : IsAttached r (clauses_of pool.held) [] after.entries
  pub placed : IsPlacedIn r pool.added
  pub variables : r.variables ≡ length before.saved
