use Rattle.std.proofs.Common.{◌+◌, take, get_or, ap, ◌∙◌, arith}
use Rattle.std.specs.Prelude.{sum}
use Rattle.std.proofs.lemmas.List.{get_or_read}
use Rattle.log_merge.specs.Sums.{Counted}
use Rattle.log_merge.proofs.Rising.{has_start, start_at, start_fits}
use Rattle.log_merge.proofs.sums.Sums.before.Goals as goal

-- a place that has a count has a start
pub index-requires : goal.index-requires
index-requires c =
    omega (arith, has_start c.self.inside.starts.items c.self.inside.end c.args.place c.args.self.now c.self.view_is c.requires, c.self.inside.starts.ok.0)

-- what was read is the first number and the counts before the place
pub returns-clause-sum : goal.returns-clause-sum
returns-clause-sum c =
    let starts = c.self.inside.starts.items in
    let at = has_start starts c.self.inside.end c.args.place c.args.self.now c.self.view_is c.requires in
    get_or_read starts _ _ at c.index.ensures 0 ∙ start_at starts c.self.inside.end c.args.place c.self.invariant.rising at
    ∙ ap (λ (v : Counted). v.first + sum (take c.args.place v.counts)) c.self.view_is

-- with the count it is within the end
pub returns-clause-fits : goal.returns-clause-fits
returns-clause-fits c =
    let starts = c.self.inside.starts.items in
    let at = has_start starts c.self.inside.end c.args.place c.args.self.now c.self.view_is c.requires in
    omega (
      arith,
      get_or_read starts _ _ at c.index.ensures 0,
      start_fits starts c.self.inside.end c.args.place c.self.invariant.rising at,
      c.self.invariant.fits,
      ap (λ (v : Counted). get_or v.counts c.args.place 0) c.self.view_is,
    )
