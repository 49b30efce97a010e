use Rattle.std.proofs.Common.{◌≡◌, ◌*◌, ◌≤◌, take}
use Rattle.std.specs.List.{sum}
use Rattle.limits.specs.declared.TheConstants.{MAX_NODES}
use Rattle.home_pick.proofs.ports.total.Given as goal

abbrev pub invariant-ports : goal.invariant-ports
invariant-ports l = record {
  so_far : l.total ≡ sum (take l.p l.limits);
  small : l.total ≤ l.p * MAX_NODES;
}
