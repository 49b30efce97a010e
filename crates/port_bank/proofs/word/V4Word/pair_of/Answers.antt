use Rattle.port_bank.proofs.PairLemmas.{pair_entry}
use Rattle.port_bank.proofs.word.V4Word.pair_of.Goals as goal

pub returns : goal.returns
returns c a b = rw (c.code.ensures, c.code-2.ensures) (pair_entry c.args.table.now a b c.args.c c.args.d)
