use Rattle.std.proofs.Common.{◌≡◌, ◌<◌, ◌^◌, take, true}
use Rattle.std.specs.List.{list_all}
use Rattle.std.specs.Char.{is_ascii_digit}
use Rattle.lit_base.specs.Numeral.{value_from}
use Rattle.lit_base.proofs.numeral.leading_digits.Given as goal

-- the bytes so far are digits, and this is their value
abbrev pub invariant-loop-byte : goal.invariant-loop-byte
invariant-loop-byte l = record {
  count : l.digits.count ≡ l.byte-index;
  all : list_all is_ascii_digit (take l.byte-index l.front) ≡ true;
  value : l.digits.value ≡ value_from 0 (take l.byte-index l.front);
  small : l.digits.value < 10 ^ l.byte-index;
}
