use Rattle.std.proofs.Common.{◌≡◌, ◌++◌, take}
use Rattle.std.specs.List.{flat_map}
use Rattle.net_defs.specs.Canonical.{driver_line}
use Rattle.net_defs.proofs.canonical.push_drivers.Given as goal

abbrev pub invariant-loop-signal : goal.invariant-loop-signal
invariant-loop-signal l = record {
  so_far : l.text ≡ l.fn.text ++ flat_map (driver_line l.net) (take l.signal-index l.signal-items);
  whole : l.signal-items ≡ l.net.signals;
}
