use Rattle.std.proofs.Common.{◌≡◌, take}
use Rattle.large_run.specs.{Summaries.counts_of, code.Rows.cells_in}
use Rattle.large_run.proofs.counts.counted.Given as goal

abbrev pub invariant-rows : goal.invariant-rows
invariant-rows l = record {
  so_far : l.counts ≡ counts_of (cells_in (take l.row-index l.rows));
}
