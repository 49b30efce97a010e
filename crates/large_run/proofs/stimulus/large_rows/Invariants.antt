use Rattle.std.proofs.Common.{◌≡◌, ◌*◌, ◌<◌, map}
use Rattle.std.specs.List.{range_with_len}
use Rattle.large_run.specs.{Draws.draw, Large.drawn_row}
use Rattle.large_run.proofs.stimulus.large_rows.Given as goal

abbrev pub invariant-turns : goal.invariant-turns
invariant-turns l = record {
  state : l.draws.state ≡ draw l.state (8 * l._c);
  below : l.draws.state < 30269;
  rows : l.rows ≡ map (λ c. drawn_row (draw l.state (8 * c))) (range_with_len 0 l._c);
}
