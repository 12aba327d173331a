use Rattle.std.proofs.Common.{◌+◌, ap, ◌∙◌, arith}
use Rattle.std.specs.Prelude.{sum}
use Rattle.log_merge.specs.Sums.{Counted}
use Rattle.log_merge.proofs.Rising.{end_is}
use Rattle.log_merge.proofs.sums.Sums.extend.Goals as goal

-- the end is the number before the first count and all counts
pub push_starts-self-inside-requires-clause-fits : goal.push_starts-self-inside-requires-clause-fits
push_starts-self-inside-requires-clause-fits c =
    let whole = end_is c.self.inside.starts.items c.self.inside.end c.self.invariant.rising ∙ ap (λ (v : Counted). v.first + sum v.counts) c.self.view_is in
    omega (arith, whole, c.requires)
