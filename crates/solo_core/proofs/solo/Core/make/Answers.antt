use Rattle.std.proofs.Common.{◌≡◌, refl}
use Rattle.lit_base.specs.Trail.{level_now}
use Rattle.lit_base.specs.Rounds.{originals}
use Rattle.solo_core.specs.Soundness.{IsSound}
use Rattle.solo_core.specs.First.{frame_of, first_state}
use Rattle.solo_core.proofs.Joined.{at_search}
use Rattle.solo_core.proofs.FirstState.{first_sound}
use Rattle.solo_core.proofs.solo.Core.make.Goals as goal

-- the first search is sound over the clauses of the formula
pub invariant_of-result : goal.invariant_of-result
invariant_of-result c whole =
    let cnf = c.args.formula.now in
    record {
      base = originals cnf;
      sound = at_search (λ f k. IsSound (originals cnf) f k) (frame_of cnf c.args.settings.now c.args.core) (first_state cnf c.args.settings.now c.args.core) c.in_ok-search.search c.in_ok-search.ensures.state
          (first_sound cnf c.args.settings.now c.args.core c.first_search.ensures.formula);
      root = at_search (λ f k. level_now k.trail ≡ 0) (frame_of cnf c.args.settings.now c.args.core) (first_state cnf c.args.settings.now c.args.core) c.in_ok-search.search c.in_ok-search.ensures.state refl;
      joined = c.in_ok-search.ensures.joined;
    }
