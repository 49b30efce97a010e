use Rattle.std.proofs.Common.{◌≡◌, ◌-◌, ◌^◌, min, true, take}
use Rattle.std.specs.{List.list_all, Char.is_ascii_digit}
use Rattle.text_lines.specs.Numbers.{digits_value}
use Rattle.text_lines.proofs.numbers.number.Given as goal

abbrev pub invariant-loop-byte : goal.invariant-loop-byte
invariant-loop-byte l = record {
  digits : list_all is_ascii_digit (take l.byte-index l.bytes) ≡ true;
  value : l.value ≡ min (digits_value (take l.byte-index l.bytes)) (2 ^ 64 - 1);
}
