use Rattle.std.proofs.Common.{length, arith, sym}
use Rattle.home_pick.proofs.UseLemmas.{entry_within}
use Rattle.home_pick.proofs.uses.give_bag.Goals as goal

pub give_entry-requires-clause-within : goal.give_entry-requires-clause-within
give_entry-requires-clause-within c = entry_within c.args.taken.now c.taken.k (length c.args.bags.now) (length c.taken.bags) (omega arith) (sym c.taken.invariant.gives.size) c.requires.within
