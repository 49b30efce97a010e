use Rattle.std.proofs.Common.{length, arith, sym}
use Rattle.home_pick.proofs.UseLemmas.{entry_within}
use Rattle.home_pick.proofs.spread.unmark_all.Goals as goal

pub unmark-requires-clause-within : goal.unmark-requires-clause-within
unmark-requires-clause-within c = entry_within c.args.taken.now c.taken.k (length c.args.spread.now) (length c.taken.spread) (omega arith) (sym c.taken.invariant.size) c.requires.within
