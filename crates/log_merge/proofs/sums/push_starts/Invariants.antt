use Rattle.std.proofs.Common.{◌≡◌, ◌+◌, ◌-◌, ◌≤◌, ◌++◌, length, take, vec_len, vec_capacity}
use Rattle.std.specs.Prelude.{sum}
use Rattle.log_merge.specs.Sums.{next_start, counts_between, AreRising}
use Rattle.log_merge.proofs.sums.push_starts.Given as goal

-- the starts of the counts so far are there, and there is room for those to come
abbrev pub invariant-loop-count : goal.invariant-loop-count
invariant-loop-count l = record {
  room : vec_len l.starts + (length l.counts - l.count-index) ≤ vec_capacity l.starts;
  next : l.next ≡ l.end + sum (take l.count-index l.counts);
  first : next_start l.starts.items l.next ≡ next_start l.fn.starts.items l.end;
  counts : counts_between l.starts.items l.next ≡ counts_between l.fn.starts.items l.end ++ take l.count-index l.counts;
  rising : AreRising l.starts.items l.next;
}
