use Rattle.std.proofs.Common.{◌≡◌, ◌≤◌, take}
use Rattle.std.specs.List.{count_by}
use Rattle.image_file.specs.Ranges as ranges
use Rattle.image_file.proofs.room.count_arrays.Given as goal

abbrev pub invariant-loop-port : goal.invariant-loop-port
invariant-loop-port l = record {
  counted : l.count ≡ count_by (λ port. ranges.is_array port.work) (take l.port-index l.ports);
  few : l.count ≤ l.port-index;
}
