use Rattle.std.proofs.Common.{◌≡◌, ◌+◌, ◌-◌, ◌≤◌, true, length, take}
use Rattle.lrat_text.specs.Machine.{read, outcome_at, is_between}
use Rattle.lrat_text.proofs.scan.Scan.pass_numbers.Given as goal

-- the numbers so far lead to this state, in which the next byte begins a token, or none is open
abbrev pub invariant-loop-at : goal.invariant-loop-at
invariant-loop-at l = record {
  reads : read l.initial.self (take l.at l.bytes) ≡ outcome_at l.self;
  between : is_between l.self.place l.self.token ≡ true;
  within : l.at ≤ length l.bytes;
  lines : l.self.line ≤ l.initial.self.line + l.at;
  none : l.at ≡ 0 → l.self ≡ l.initial.self;
}

abbrev pub decreases-loop-at : goal.decreases-loop-at
decreases-loop-at l = length l.bytes - l.at
