use Rattle.std.proofs.Common.{arith}
use Rattle.home_pick.proofs.law.picked_or_too_many.Goals as goal

pub returns : goal.returns
returns c nodes machine homes needed limit picked many = omega (arith, picked.few, many.count, many.room, many.past)
