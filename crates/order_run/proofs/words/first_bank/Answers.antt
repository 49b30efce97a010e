use Rattle.std.proofs.{Common.sym, Math.Nat.zero-mod}
use Rattle.order_run.proofs.words.first_bank.Goals as goal

pub returns : goal.returns
returns c = c.next_bank.ensures 0 (sym (zero-mod c.args.banks))
