use Rattle.std.proofs.Common.{◌≡◌, take}
use Rattle.std.specs.{Prelude.map, List.zip}
use Rattle.cover_sim.specs.Lines.{signal_line}
use Rattle.cover_sim.proofs.lines.signal_lines.Given as goal

abbrev pub invariant-signals : goal.invariant-signals
invariant-signals l = record {
  lines : l.lines ≡ map (λ p. signal_line p.0.name p.1) (take l.s (zip l.net.signals l.marks));
}
