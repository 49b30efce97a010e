use Rattle.std.proofs.Common.{◌≡◌, ◌+◌, ◌++◌, List, take}
use Rattle.logic_four.specs.declared.V4.{V4}
use Rattle.large_run.specs.Summaries.{counts_of}
use Rattle.large_run.proofs.SummaryLemmas.{total}
use Rattle.large_run.proofs.summary.CellCounts.add.Given as goal

abbrev pub invariant-loop-cell : goal.invariant-loop-cell
invariant-loop-cell l = record {
  counts : (before : List V4) → l.fn.self ≡ counts_of before → l.self ≡ counts_of (before ++ take l.cell-index l.cells);
  total_is : total l.self ≡ total l.fn.self + l.cell-index;
}
