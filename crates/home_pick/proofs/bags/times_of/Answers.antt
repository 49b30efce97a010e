use Rattle.std.proofs.Common.{◌∙◌, ap, sym, arith}
use Rattle.home_pick.specs.code.Bags.{times}
use Rattle.home_pick.proofs.BagLemmas.{times_absent, times_here}
use Rattle.home_pick.proofs.bags.times_of.Goals as goal

pub returns-then-k-bag : goal.returns-then-k-bag
returns-then-k-bag c = sym (times_here c.args.bag.now c.place_of-k.result c.requires (omega arith)) ∙ ap (times c.args.bag.now) (c.place_of-k.ensures.here (omega arith))

pub returns-else-k-bag : goal.returns-else-k-bag
returns-else-k-bag c = sym (times_absent c.args.bag.now c.args.key (c.place_of-k.ensures.none (let within = c.place_of-k.ensures.within in omega (arith, within))))
