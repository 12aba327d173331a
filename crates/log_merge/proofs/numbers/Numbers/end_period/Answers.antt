use Rattle.std.proofs.Common.{◌+◌, ◌++◌, List, ℕ, ap, ◌∙◌, arith}
use Rattle.std.specs.Prelude.{sum}
use Rattle.log_merge.specs.Sums.{Counted}
use Rattle.log_merge.specs.Numbering.{Numbering, numbering_of, with_period, lemmas_in, periods_in}
use Rattle.log_merge.proofs.Placed.{AreWholePeriods-more, sum-kept_row, sum-periods_in, numbering_of-with_period}
use Rattle.log_merge.proofs.numbers.Numbers.end_period.Goals as goal

-- the counts of all periods are those of the rows
pub extend-requires : goal.extend-requires
extend-requires c =
    let fields = c.self.inside in
    let total = ap (λ (n : Numbering). n.originals + lemmas_in n.periods) c.self.view_is in
    omega (arith, total, sum-periods_in fields.cores fields.sums c.self.invariant, ap sum c.row_of.ensures, sum-kept_row c.args.counts.now, c.requires.fits)

-- there is one row more
pub invariant_of-self-2 : goal.invariant_of-self-2
invariant_of-self-2 c =
    let fields = c.self.inside in
    let one = ap (λ (n : Numbering). n.cores) c.self.view_is in
    rw (c.in_ok-extend.ensures.ok, c.row_of.ensures) (AreWholePeriods-more fields.cores fields.sums.counts c.args.counts.now (omega (arith, c.requires.cores, one)) c.self.invariant)

pub returns-clause-ok : goal.returns-clause-ok
returns-clause-ok c =
    let fields = c.self.inside in
    let one = ap (λ (n : Numbering). n.cores) c.self.view_is in
    let added : (row : List ℕ) → Counted = λ row. record { first = fields.sums.first; counts = fields.sums.counts ++ row } in
    ap (λ (sums : Counted). numbering_of fields.cores (periods_in fields.cores sums.counts) sums) (c.in_ok-extend.ensures.ok ∙ ap added c.row_of.ensures)
    ∙ numbering_of-with_period fields.cores fields.sums c.args.counts.now (omega (arith, c.requires.cores, one)) c.self.invariant
    ∙ ap (with_period c.args.counts.now) c.self.view_is
