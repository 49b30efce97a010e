use Rattle.std.proofs.Common.{arith}
use Rattle.home_pick.proofs.FillLemmas.{filled_more}
use Rattle.home_pick.proofs.blocks.Filling.put.Goals as goal

pub returns : goal.returns
returns c = rw c.in_ok-push.ensures.ok (rw c.set.ensures (rw c.as_slice.ensures (filled_more _ _ c.args.self.now _ c.requires.before c.args.a c.args.needed (let low = c.requires.within in let count = c.requires.before.array in omega (arith, low, count)) c.requires.needed c.requires.least)))
