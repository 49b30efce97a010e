use Rattle.std.specs.List.{flat_map}
use Rattle.image_lines.specs.Words.{line_text}
use Rattle.image_file.specs.Files.{port_lines}
use Rattle.image_file.proofs.WritingLemmas.{WritesOn}
use Rattle.image_file.proofs.writing.push_ports.Given as goal

abbrev pub invariant-loop-port : goal.invariant-loop-port
invariant-loop-port l = WritesOn (λ x. flat_map line_text (port_lines x.0 x.1.items)) l.fn.text l.ports l.claims l.port-iterator l.text
