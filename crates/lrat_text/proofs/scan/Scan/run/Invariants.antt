use Rattle.std.proofs.Common.{◌≡◌, ◌+◌, ◌-◌, ◌≤◌, false, length, take}
use Rattle.lrat_text.specs.Machine.{read, outcome_at, is_ready}
use Rattle.lrat_text.proofs.scan.Scan.run.Given as goal

-- the bytes so far lead to this state, in which a line may be ready; before the first byte none is
abbrev pub invariant-loop-at : goal.invariant-loop-at
invariant-loop-at l = record {
  reads : read l.initial.self (take l.at l.bytes) ≡ outcome_at l.self;
  within : l.at ≤ length l.bytes;
  lines : l.self.line ≤ l.initial.self.line + l.at;
  first : l.at ≡ 0 → is_ready l.self.place ≡ false;
}

abbrev pub decreases-loop-at : goal.decreases-loop-at
decreases-loop-at l = length l.bytes - l.at
