use Rattle.std.proofs.Common.{List, length, ap, arith}
use Rattle.home_pick.specs.declared.bags.Entry.{Entry}
use Rattle.home_pick.proofs.BagLemmas.{take_some, take_none}
use Rattle.home_pick.proofs.bags.take.Goals as goal

pub lower-requires-clause-some : goal.lower-requires-clause-some
lower-requires-clause-some c = take_some c.args.bag.now c.as_slice.result.now c.place_of-k.result c.args.key c.args.count c.as_slice.ensures c.requires.bag (omega arith) c.place_of-k.ensures.here c.requires.some

pub returns-else-k-len-clause-times : goal.returns-else-k-len-clause-times
returns-else-k-len-clause-times c = take_none c.args.bag.now c.as_slice.result.now c.place_of-k.result c.args.key c.args.count c.as_slice.ensures
    (let long = ap (λ (xs : List Entry). length xs) c.as_slice.ensures in let within = c.place_of-k.ensures.within in omega (arith, long, within)) c.place_of-k.ensures.none c.requires.some
