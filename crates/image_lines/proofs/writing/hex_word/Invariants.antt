use Rattle.std.proofs.Common.{◌≡◌, ◌-◌, ◌++◌, length, drop}
use Rattle.image_lines.specs.Words.{hex_digits}
use Rattle.image_lines.proofs.writing.hex_word.Given as goal

abbrev pub invariant-digits : goal.invariant-digits
invariant-digits l = record {
  long : length l.digits ≡ 16;
  digits : hex_digits (16 - l.k) l.rest ++ drop (16 - l.k) l.digits ≡ hex_digits 16 l.word;
}
