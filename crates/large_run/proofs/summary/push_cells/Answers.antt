use Rattle.std.proofs.lemmas.List.{append_assoc}
use Rattle.large_run.specs.Summaries.{cells_line}
use Rattle.large_run.proofs.summary.push_cells.Goals as goal

pub returns : goal.returns
unfolding cells_line
returns c = simp (c.in_ok-push_bytes.ensures.ok, c.in_ok-push_pair-2.ensures, c.in_ok-push_pair.ensures, append_assoc)
