use Rattle.std.proofs.Common.{◌+◌, ◌-◌, length}
use Rattle.image_defs.specs.Places.{in_slots, out_slots}
use Rattle.port_walk.specs.code.Stops.{IsOnTheWay}
use Rattle.port_walk.proofs.stops.stops_of.Given as goal

abbrev pub invariant-stops : goal.invariant-stops
invariant-stops l = IsOnTheWay (out_slots l.outs) (in_slots l.ins) l.slots l.items l.stops l.sent l.took l.from

abbrev pub decreases-stops : goal.decreases-stops
decreases-stops l = length l.outs + length l.ins - (l.sent + l.took)
