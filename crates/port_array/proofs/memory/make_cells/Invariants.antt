use Rattle.std.proofs.Common.{◌≡◌, length, replicate}
use Rattle.logic_four.specs.Memory.{initial_words}
use Rattle.port_array.proofs.memory.make_cells.Given as goal

abbrev pub invariant-lanes : goal.invariant-lanes
invariant-lanes g l = record {
  so_far : l.cells ≡ replicate l._lane (initial_words (length l.block.address) (length l.block.word) l.v);
}
