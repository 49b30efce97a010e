use Rattle.std.proofs.Common.{◌≡◌, ◌+◌, take, Ok}
use Rattle.std.specs.List.{enumerate_from, flat_map}
use Rattle.net_defs.specs.Trace.{cycle_line}
use Rattle.edge_io.specs.Writing.{Writes}
use Rattle.trace_text.proofs.traces.write_rows.Given as goal

abbrev pub invariant-rows : goal.invariant-rows
invariant-rows g l = record {
  room : l.line.room ≡ l.fn.line.room;
  written : Writes g.O.Sink l.fn.out l.out (Ok tt)
      (flat_map (λ p. cycle_line (p.0 + 1) p.1.cells) (take l.i (enumerate_from 0 l.rows)));
}
