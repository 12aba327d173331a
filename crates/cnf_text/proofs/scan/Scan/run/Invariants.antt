use Rattle.std.proofs.Common.{◌≡◌, ◌+◌, ◌-◌, ◌≤◌, length, drop}
use Rattle.cnf_text.specs.Machine.{steps}
use Rattle.cnf_text.proofs.scan.Scan.run.Given as goal

-- the steps of the bytes that are left are those of all the bytes
abbrev pub invariant-loop-at : goal.invariant-loop-at
invariant-loop-at l = record {
  same : steps l.initial.self l.bytes ≡ steps l.self (drop l.at l.bytes);
  within : l.at ≤ length l.bytes;
  lines : l.self.line ≤ l.initial.self.line + l.at;
}

abbrev pub decreases-loop-at : goal.decreases-loop-at
decreases-loop-at l = length l.bytes - l.at
