use Rattle.std.proofs.Common.{◌≡◌, map, take}
use Rattle.image_build.specs.Built.{link_in}
use Rattle.image_build.proofs.links.links_in.Given as goal

abbrev pub invariant-receipts : goal.invariant-receipts
invariant-receipts l = l.ins ≡ map link_in (take l.k l.receipts)
