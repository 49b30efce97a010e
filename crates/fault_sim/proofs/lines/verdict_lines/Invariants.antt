use Rattle.std.proofs.Common.{◌≡◌, take}
use Rattle.std.specs.{Prelude.map, List.zip}
use Rattle.fault_sim.specs.Lines.{verdict_line}
use Rattle.fault_sim.proofs.lines.verdict_lines.Given as goal

abbrev pub invariant-verdicts : goal.invariant-verdicts
invariant-verdicts l = record {
  lines : l.lines ≡ map (λ p. verdict_line l.net p.0 p.1) (take l.k (zip l.faults l.verdicts));
}
