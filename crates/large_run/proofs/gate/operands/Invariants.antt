use Rattle.std.proofs.Common.{◌≡◌, ◌<◌}
use Rattle.large_run.specs.{Draws.draw, Large.operands}
use Rattle.large_run.proofs.gate.operands.Given as goal

abbrev pub invariant-places : goal.invariant-places
invariant-places l = record {
  state : l.draws.state ≡ draw l.fn.draws.state l._i;
  below : l.draws.state < 30269;
  operands : l.ops ≡ operands l.fn.draws.state l.j l._i;
}
