use Rattle.std.proofs.{Common.◌+◌, Common.arith, Common.get_or, lemmas.Option.slice_get-get_or}
use Rattle.port_walk.proofs.StopLemmas.{front_at, front_end}
use Rattle.port_walk.proofs.stops.count_through.Goals as goal

pub returns-then-slot-slots : goal.returns-then-slot-slots
returns-then-slot-slots c =
    let slots = c.args.slots.now in
    front_at slots (c.args.slot + 1) c.rest.i (get_or slots c.rest.i 0) c.requires.rising c.rest.invariant (slice_get-get_or slots c.rest.i 0 c.rest-test.true) (omega arith)

pub returns : goal.returns
returns c =
    front_end c.args.slots.now (c.args.slot + 1) (record { within = omega arith; before = λ i slot there low. c.rest.invariant.before i slot there (omega arith) })
