use Rattle.std.proofs.Common.{◌≡◌, map, take}
use Rattle.yse_compile.proofs.claimed.claims_by_port.Given as goal

abbrev pub invariant-ports : goal.invariant-ports
invariant-ports l = map (λ port. port.items) l.ports ≡ take l.p l.lists
