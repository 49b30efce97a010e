use Rattle.std.proofs.Common.{◌∙◌, get_or, ap, sym, arith}
use Rattle.logic_four.specs.declared.V4.TheVariants.{Zero}
use Rattle.large_run.specs.code.Summaries.{with_cell}
use Rattle.large_run.proofs.SummaryLemmas.{total, total_more, row_more}
use Rattle.large_run.proofs.summary.CellCounts.add.Goals as goal

pub loop-cell-preserved : goal.loop-cell-preserved
loop-cell-preserved c = record {
  counts = λ before same. c.count.ensures ∙ (ap (λ k. with_cell k (get_or c.args.cells.now c.loop-cell.cell-index Zero)) (c.loop-cell.invariant.counts before same) ∙ sym (row_more before c.args.cells.now c.loop-cell.cell-index Zero (omega arith)));
  total_is = let is = c.loop-cell.invariant.total_is in let more = total_more c.loop-cell.self (get_or c.args.cells.now c.loop-cell.cell-index Zero) in ap total c.count.ensures ∙ (more ∙ omega (arith, is));
}
