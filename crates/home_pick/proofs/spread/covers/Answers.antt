use Rattle.std.proofs.Common.{arith}
use Rattle.home_pick.proofs.spread.covers.Goals as goal

pub numbers-init : goal.numbers-init
numbers-init c q low = absurd (omega (arith, low))
