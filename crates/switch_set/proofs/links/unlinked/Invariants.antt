use Rattle.switch_set.specs.code.Links.{AreUnlinked}
use Rattle.switch_set.proofs.links.unlinked.Given as goal

abbrev pub invariant-ports : goal.invariant-ports
invariant-ports l = AreUnlinked l._port l.ports
