use Rattle.std.proofs.Common.{◌≡◌, length, replicate, take}
use Rattle.std.specs.List.{flat_map}
use Rattle.ref_sim.specs.code.Runs.{AreWide}
use Rattle.ref_sim.proofs.trace_rows.undefined_rows.Given as goal

abbrev pub invariant-loop-row : goal.invariant-loop-row
invariant-loop-row l = record {
  wide : AreWide l.net l.rows;
  long : length l.rows ≡ length (flat_map (λ row. replicate row.times row.values) (take l.row-index l.row-items));
  whole : l.row-items ≡ l.stim.rows;
}
