use Rattle.std.proofs.Common.{◌≡◌, ◌++◌, take}
use Rattle.std.specs.List.{flat_map}
use Rattle.net_defs.specs.Canonical.{output_line}
use Rattle.net_defs.proofs.canonical.push_outputs.Given as goal

abbrev pub invariant-loop-number : goal.invariant-loop-number
invariant-loop-number l = record {
  so_far : l.text ≡ l.fn.text ++ flat_map (output_line l.net) (take l.number-index l.number-items);
  whole : l.number-items ≡ l.net.printed;
}
