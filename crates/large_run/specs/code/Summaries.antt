-- Beside specs/Summaries.antt, what only private functions and proofs cite.
use Rattle.std.specs.Prelude.{◌+◌}
use Rattle.logic_four.specs.declared.V4.TheVariants.{Zero, One, Undef, HighZ}
use Rattle.logic_four.specs.declared.V4.{V4}
use Rattle.large_run.specs.declared.summary.CellCounts.{CellCounts}

-- one cell more
abbrev pub with_cell : CellCounts → V4 → CellCounts
with_cell counts Zero = record { zeros = counts.zeros + 1; ones = counts.ones; xs = counts.xs; zs = counts.zs }
with_cell counts One = record { zeros = counts.zeros; ones = counts.ones + 1; xs = counts.xs; zs = counts.zs }
with_cell counts Undef = record { zeros = counts.zeros; ones = counts.ones; xs = counts.xs + 1; zs = counts.zs }
with_cell counts HighZ = record { zeros = counts.zeros; ones = counts.ones; xs = counts.xs; zs = counts.zs + 1 }
