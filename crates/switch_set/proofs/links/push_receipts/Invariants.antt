use Rattle.std.proofs.Common.{take}
use Rattle.std.specs.List.{Contains}
use Rattle.switch_set.specs.code.Links.{Receives}
use Rattle.switch_set.proofs.links.push_receipts.Given as goal

abbrev pub invariant-readers : goal.invariant-readers
invariant-readers l = Receives l.fn.ports l.ports (Contains (take l.k l.readers)) l.receipt
