use Rattle.std.proofs.Common.{◌≡◌, ◌<◌}
use Rattle.large_run.specs.{Draws.draw, Large.drawn_values}
use Rattle.large_run.proofs.stimulus.values.Given as goal

abbrev pub invariant-columns : goal.invariant-columns
invariant-columns l = record {
  state : l.draws.state ≡ draw l.fn.draws.state l._i;
  below : l.draws.state < 30269;
  values : l.values ≡ drawn_values l.fn.draws.state l._i;
}
