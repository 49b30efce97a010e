use Rattle.std.proofs.Common.{◌≡◌, ◌-◌, ◌^◌, min, true, take}
use Rattle.std.specs.List.{list_all}
use Rattle.image_lines.specs.Tokens.{is_hex, hex_value}
use Rattle.image_lines.proofs.tokens.hex_value.Given as goal

abbrev pub invariant-loop-digit : goal.invariant-loop-digit
invariant-loop-digit l = record {
  digits : list_all is_hex (take l.digit-index l.digits) ≡ true;
  value : l.value ≡ min (hex_value (take l.digit-index l.digits)) (2 ^ 64 - 1);
}
