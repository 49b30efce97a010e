use Rattle.std.proofs.Common.{length, arith}
use Rattle.home_pick.proofs.UseLemmas.{entry_within, entry_there}
use Rattle.home_pick.proofs.uses.take_bag.Goals as goal

pub take_entry-requires-clause-within : goal.take_entry-requires-clause-within
take_entry-requires-clause-within c = entry_within c.args.taken.now c.taken.k (length c.args.bags.now) (length c.taken.bags) (omega arith) c.taken.invariant.gives.size c.requires.within

pub take_entry-requires-clause-some : goal.take_entry-requires-clause-some
take_entry-requires-clause-some c = entry_there c.args.bags.now c.taken.bags c.args.taken.now c.taken.k c.args.port (omega arith) c.requires.within c.requires.some c.taken.invariant.gives
