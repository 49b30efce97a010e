use Rattle.std.proofs.{Common.◌∙◌, lemmas.List.length-set}
use Rattle.image_lines.specs.Words.{hex_digits}
use Rattle.image_lines.proofs.WritingLemmas.{one_more}
use Rattle.image_lines.proofs.writing.hex_word.Goals as goal

pub digits-preserved : goal.digits-preserved
digits-preserved c = record {
  long = length-set _ _ _ ∙ c.digits.invariant.long;
  digits =
      rw c.hex_digit.ensures
      (one_more (hex_digits 16 c.args.word) c.digits.digits c.digits.rest c.digits.k c.digits-test.true c.digits.invariant.long c.digits.invariant.digits);
}
