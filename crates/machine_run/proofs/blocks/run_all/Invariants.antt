use Rattle.std.proofs.Common.{Ok, ℕ, ◌-◌, ◌≡◌}
use Rattle.edge_io.specs.Writing.{Writes}
use Rattle.net_defs.specs.Time.{cycle_count}
use Rattle.machine_run.specs.{Blocks.cycles_of_blocks, Lines.cells_shown, Lines.lines_between}
use Rattle.machine_run.proofs.RunLemmas.{AreOver}
use Rattle.machine_run.proofs.blocks.run_all.Given as goal

abbrev pub invariant-runs : goal.invariant-runs
invariant-runs g l = record {
  run : (k : ℕ) × AreOver g.G.Gate l.fn.crew.image l.fn.crew.stimulus l.fn.crew.workers l.fn.gates k l.crew l.gates
      × Writes g.O.Sink l.fn.out l.out (Ok tt)
      (lines_between (cells_shown l.fn.crew.image l.fn.crew.stimulus) 0 (cycles_of_blocks l.fn.crew.image l.fn.crew.stimulus k));
  room : l.line.room ≡ l.fn.line.room;
}

abbrev pub decreases-runs : goal.decreases-runs
decreases-runs g l = cycle_count l.fn.crew.stimulus - l.crew.rows
