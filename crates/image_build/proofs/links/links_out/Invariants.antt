use Rattle.std.proofs.Common.{◌≡◌, map, take}
use Rattle.image_build.specs.Built.{link_out}
use Rattle.image_build.proofs.links.links_out.Given as goal

abbrev pub invariant-sends : goal.invariant-sends
invariant-sends l = l.outs ≡ map link_out (take l.k l.sends)
