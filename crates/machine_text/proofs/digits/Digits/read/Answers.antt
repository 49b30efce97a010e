use Rattle.std.proofs.Common.{sym}
use Rattle.machine_text.proofs.DigitLemmas.{number_is}
use Rattle.machine_text.proofs.digits.Digits.read.Goals as goal

pub invariant_of-result : goal.invariant_of-result
invariant_of-result c = number_is c.args.bytes.now (sym c.if-is_number.ensures)

pub returns-then-is_number : goal.returns-then-is_number
returns-then-is_number c = sym (number_is c.args.bytes.now (sym c.if-is_number.ensures))
