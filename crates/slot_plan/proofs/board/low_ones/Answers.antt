use Rattle.std.proofs.Common.{◌-◌, ◌*◌, arith}
use Rattle.slot_plan.proofs.ScanLemmas.{ones_word, low_word, full_word}
use Rattle.slot_plan.proofs.board.low_ones.Goals as goal

pub returns-then-ones-lt64 : goal.returns-then-ones-lt64
returns-then-ones-lt64 c = λ b low. low_word c.args.from c.args.w _ (ones_word (c.args.from - 64 * c.args.w) (omega arith)) (omega arith) b

pub returns-else-ones-lt64 : goal.returns-else-ones-lt64
returns-else-ones-lt64 c = λ b low. full_word c.args.from c.args.w b (omega arith) low
