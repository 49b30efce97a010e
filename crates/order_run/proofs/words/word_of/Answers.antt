use Rattle.std.proofs.Common.{◌+◌, ◌*◌, ap}
use Rattle.order_run.proofs.words.word_of.Goals as goal

pub returns : goal.returns
returns c = ap (λ code. 4 * c.args.turn + code) c.code.ensures
