use Rattle.std.proofs.Common.{◌≡◌, length, replicate, take}
use Rattle.std.specs.List.{flat_map}
use Rattle.net_defs.proofs.stimulus.Stimulus.cycles.Given as goal

abbrev pub invariant-loop-row : goal.invariant-loop-row
invariant-loop-row l = record {
  so_far : l.cycles ≡ length (flat_map (λ row. replicate row.times row.values) (take l.row-index l.row-items));
  whole : l.row-items ≡ l.self.rows;
}
