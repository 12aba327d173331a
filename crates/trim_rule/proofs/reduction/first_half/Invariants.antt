use Rattle.std.proofs.Common.{◌≡◌, ◌/◌, map, take, length}
use Rattle.trim_rule.proofs.reduction.first_half.Given as goal

-- the names of the clauses so far
abbrev pub invariant-loop-tally : goal.invariant-loop-tally
invariant-loop-tally l = l.names ≡ map (λ t. t.name) (take l.tally-index (take (length l.tallies / 2) l.tallies))
