use Rattle.std.proofs.Common.{◌≡◌, take}
use Rattle.lit_base.specs.Held.{clauses_of}
use Rattle.round_prop.specs.Attached.{IsAttachedTo}
use Rattle.round_prop.specs.Spanned.{IsPlacedIn}
use Rattle.solo_core.proofs.FirstClauses.{held_from}
use Rattle.solo_core.proofs.first.hold_originals.Given as goal

-- the clauses so far are held, and propagation goes over them
abbrev pub invariant-loop-index : goal.invariant-loop-index
invariant-loop-index l = record {
  held : l.pool.held ≡ held_from 0 (take l.index l.clauses);
  attached : IsAttachedTo l.rounds (clauses_of l.pool.held) l.trail.entries;
  placed : IsPlacedIn l.rounds l.pool.added;
  variables : l.rounds.variables ≡ l.fn.rounds.variables;
}
