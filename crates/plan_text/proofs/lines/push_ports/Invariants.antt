use Rattle.std.proofs.Common.{◌≡◌, ◌++◌}
use Rattle.std.specs.List.{flat_map, range_with_len}
use Rattle.plan_text.specs.Lines.{port_line}
use Rattle.plan_text.proofs.lines.push_ports.Given as goal

abbrev pub invariant-ports : goal.invariant-ports
invariant-ports l = l.text ≡ l.fn.text ++ flat_map (port_line l.homes l.figures) (range_with_len 0 l.port)
