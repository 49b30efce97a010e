use Rattle.std.proofs.Common.{arith}
use Rattle.port_walk.proofs.StopLemmas.{places_few}
use Rattle.port_walk.proofs.stops.stop_at.Goals as goal

pub overflow_cast-result : goal.overflow_cast-result
overflow_cast-result c =
    let few = places_few c.args.slots c.args.items.now c.requires.items in
    let within = c.count_through.ensures.within in
    let most = c.requires.few in
    omega arith
