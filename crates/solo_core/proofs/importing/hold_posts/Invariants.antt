use Rattle.std.proofs.Common.{◌≡◌}
use Rattle.std.specs.Prelude.{map}
use Rattle.lit_base.specs.Held.{clauses_of}
use Rattle.round_prop.specs.Attached.{IsAttachedTo}
use Rattle.round_prop.specs.Spanned.{IsPlacedIn}
use Rattle.solo_core.specs.Period.{posted_clause, with_unused}
use Rattle.solo_core.proofs.HeldPosts.{PostsLeft}
use Rattle.solo_core.proofs.importing.hold_posts.Given as goal

-- the posts from here on are left, and propagation goes over what is held
abbrev pub invariant-loop-post : goal.invariant-loop-post
invariant-loop-post l = record {
  left : PostsLeft (with_unused (map posted_clause l.posts) l.fn.pool.held) l.post-index l.posts l.pool.held;
  attached : IsAttachedTo l.rounds (clauses_of l.pool.held) l.trail.entries;
  placed : IsPlacedIn l.rounds l.pool.added;
  variables : l.rounds.variables ≡ l.fn.rounds.variables;
}
