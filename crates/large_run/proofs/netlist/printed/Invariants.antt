use Rattle.std.proofs.Common.{◌≡◌, ◌+◌, ◌-◌, map}
use Rattle.std.specs.List.{range_with_len}
use Rattle.large_run.proofs.netlist.printed.Given as goal

abbrev pub invariant-printed : goal.invariant-printed
invariant-printed l = record { list : l.list ≡ map (λ j. 8 + j) (range_with_len (l.gates - 8) l.k); first : l.first ≡ l.gates - 8 }
