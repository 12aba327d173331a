use Rattle.std.proofs.Common.{◌≡◌, ◌≤◌, min, drop}
use Rattle.lit_base.specs.Numeral.{value_from}
use Rattle.cnf_text.proofs.class.value_of.Given as goal

-- the value of the digits so far, capped
abbrev pub invariant-loop-digit : goal.invariant-loop-digit
invariant-loop-digit l = record {
  same : min (value_from l.value (drop l.digit-index l.digits)) 100000000 ≡ min (value_from 0 l.digits) 100000000;
  small : l.value ≤ 100000000;
}
