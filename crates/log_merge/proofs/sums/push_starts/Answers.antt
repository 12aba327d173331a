use Rattle.std.proofs.Common.{◌+◌, ◌++◌, ◌∷◌, [], take, get_or, sym, ap, ◌∙◌, subst, append_assoc, arith}
use Rattle.std.proofs.lemmas.List.{take_more}
use Rattle.std.proofs.lemmas.List.Sums.{sum_by_more}
use Rattle.log_merge.specs.Sums.{next_start, counts_between, AreRising}
use Rattle.log_merge.proofs.Rising.{next_start-push, counts_between-push, AreRising-push}
use Rattle.log_merge.proofs.sums.push_starts.Goals as goal

-- the start of one more count is there
pub loop-count-preserved : goal.loop-count-preserved
loop-count-preserved c =
    let counts = c.args.counts.now in
    let i = c.loop-count.count-index in
    let count = get_or counts i 0 in
    let before = c.loop-count.starts.items in
    let next = c.loop-count.next in
    let pushed = c.push_reserved.ensures.items in
    record {
      room = omega (arith, c.loop-count.invariant.room);
      next = omega (arith, c.loop-count.invariant.next, sum_by_more (λ x. x) counts i 0 c.loop-count-test.true);
      first = ap (λ starts. next_start starts (next + count)) pushed ∙ next_start-push before next count ∙ c.loop-count.invariant.first;
      counts = ap (λ starts. counts_between starts (next + count)) pushed ∙ counts_between-push before next count
          ∙ ap (λ cs. cs ++ count ∷ []) c.loop-count.invariant.counts
          ∙ append_assoc (counts_between c.args.starts.now.items c.args.end) (take i counts) (count ∷ [])
          ∙ ap (λ cs. counts_between c.args.starts.now.items c.args.end ++ cs) (sym (take_more counts i 0 c.loop-count-test.true));
      rising = subst (λ starts. AreRising starts (next + count)) (sym pushed) (AreRising-push before next count c.loop-count.invariant.rising);
    }
