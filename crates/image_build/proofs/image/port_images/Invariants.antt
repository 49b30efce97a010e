use Rattle.image_build.specs.code.Plans.{AreFirstPorts}
use Rattle.image_build.proofs.image.port_images.Given as goal

abbrev pub invariant-ports : goal.invariant-ports
invariant-ports l = AreFirstPorts l.nodes l.homes l.plan l.switch l.lists l.p l.ports
