use Rattle.std.proofs.Common.{◌≡◌, ◌++◌, take, codes}
use Rattle.std.specs.List.{flat_map}
use Rattle.plan_text.specs.Lines.{port_name}
use Rattle.plan_text.proofs.lines.push_readers.Given as goal

abbrev pub invariant-loop-port : goal.invariant-loop-port
invariant-loop-port l = l.text ≡ l.fn.text ++ flat_map (λ port. codes " " ++ port_name l.homes port) (take l.port-index l.readers)
