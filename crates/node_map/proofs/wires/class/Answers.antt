use Rattle.std.proofs.Common.{refl, sym}
use Rattle.node_map.proofs.wires.class.Goals as goal

pub returns-in-Input : goal.returns-in-Input
returns-in-Input c = rw (sym c.in-Some.ensures) (rw c.in-Input.is refl)

pub returns-in-BlockBit : goal.returns-in-BlockBit
returns-in-BlockBit c = rw (sym c.in-Some.ensures) (rw c.in-BlockBit.is refl)
