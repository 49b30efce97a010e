use Rattle.std.proofs.Common.{◌+◌, ◌<◌, length, subst, sym, arith}
use Rattle.std.proofs.lemmas.List.{length-map}
use Rattle.image_defs.specs.{declared.image.LinkIn.LinkIn, declared.image.LinkOut.LinkOut, Places.in_slots, Places.out_slots}
use Rattle.port_walk.specs.{Stops.IsStop, Stops.AreStops, code.Stops.IsOnTheWay}
use Rattle.port_walk.proofs.StopLemmas.{stop_is, way_begins, way_sends, way_receives, way_ends, send_within, receipt_within, places_few}
use Rattle.port_walk.proofs.stops.stops_of.Goals as goal

pub stops-init : goal.stops-init
stops-init c = way_begins (out_slots c.args.outs.now) (in_slots c.args.ins.now) c.args.slots c.args.items.now c.new-stops.result c.new-stops.ensures

pub stops-smaller-in-Send : goal.stops-smaller-in-Send
stops-smaller-in-Send c =
    let a = c.args in
    let outs = out_slots a.outs.now in
    let ins = in_slots a.ins.now in
    let stop = c.stop_at-stop.result in
    let is : IsStop outs ins a.slots a.items.now c.stops.sent c.stops.took stop =
    stop_is outs ins a.slots a.items.now c.stops.sent c.stops.took stop c.out_at.result c.in_at.result c.out_at.ensures c.in_at.ensures c.stop_at-stop.ensures.kind c.stop_at-stop.ensures.slot c.stop_at-stop.ensures.front in
    let within : c.stops.sent < length outs = send_within outs ins a.slots a.items.now c.stops.stops c.stops.sent c.stops.took c.stops.from c.stops.invariant stop is c.in-Send.is in
    omega (arith, length-map a.outs.now (λ (link : LinkOut). link.slot), length-map a.outs.now (λ (link : LinkOut). link.slot), length-map a.ins.now (λ (link : LinkIn). link.slot), c.stops.invariant.sent_within, c.stops.invariant.took_within)

pub stops-smaller : goal.stops-smaller
stops-smaller c =
    let a = c.args in
    let outs = out_slots a.outs.now in
    let ins = in_slots a.ins.now in
    let stop = c.stop_at-stop.result in
    let is : IsStop outs ins a.slots a.items.now c.stops.sent c.stops.took stop =
    stop_is outs ins a.slots a.items.now c.stops.sent c.stops.took stop c.out_at.result c.in_at.result c.out_at.ensures c.in_at.ensures c.stop_at-stop.ensures.kind c.stop_at-stop.ensures.slot c.stop_at-stop.ensures.front in
    let within : c.stops.took < length ins = receipt_within outs ins a.slots a.items.now c.stops.stops c.stops.sent c.stops.took c.stops.from c.stops.invariant stop is c.in-Receive.is in
    omega (arith, length-map a.ins.now (λ (link : LinkIn). link.slot), length-map a.outs.now (λ (link : LinkOut). link.slot), length-map a.ins.now (λ (link : LinkIn). link.slot), c.stops.invariant.sent_within, c.stops.invariant.took_within)

pub stops-preserved-in-Send : goal.stops-preserved-in-Send
stops-preserved-in-Send c =
    let a = c.args in
    let outs = out_slots a.outs.now in
    let ins = in_slots a.ins.now in
    let stop = c.stop_at-stop.result in
    let is : IsStop outs ins a.slots a.items.now c.stops.sent c.stops.took stop =
    stop_is outs ins a.slots a.items.now c.stops.sent c.stops.took stop c.out_at.result c.in_at.result c.out_at.ensures c.in_at.ensures c.stop_at-stop.ensures.kind c.stop_at-stop.ensures.slot c.stop_at-stop.ensures.front in
    subst (λ stops. IsOnTheWay outs ins a.slots a.items.now stops (c.stops.sent + 1) (c.stops.took) stop.items) (sym c.in_ok-push.ensures.ok)
    (way_sends outs ins a.slots a.items.now c.stops.stops c.stops.sent c.stops.took c.stops.from c.stops.invariant stop is c.requires.outs c.requires.ins c.in-Send.is)

pub stops-preserved : goal.stops-preserved
stops-preserved c =
    let a = c.args in
    let outs = out_slots a.outs.now in
    let ins = in_slots a.ins.now in
    let stop = c.stop_at-stop.result in
    let is : IsStop outs ins a.slots a.items.now c.stops.sent c.stops.took stop =
    stop_is outs ins a.slots a.items.now c.stops.sent c.stops.took stop c.out_at.result c.in_at.result c.out_at.ensures c.in_at.ensures c.stop_at-stop.ensures.kind c.stop_at-stop.ensures.slot c.stop_at-stop.ensures.front in
    subst (λ stops. IsOnTheWay outs ins a.slots a.items.now stops (c.stops.sent) (c.stops.took + 1) stop.items) (sym c.in_ok-push.ensures.ok)
    (way_receives outs ins a.slots a.items.now c.stops.stops c.stops.sent c.stops.took c.stops.from c.stops.invariant stop is c.requires.outs c.requires.ins c.in-Receive.is)

pub returns : goal.returns
returns c =
    let a = c.args in
    let outs = out_slots a.outs.now in
    let ins = in_slots a.ins.now in
    let stop = c.stop_at-stop.result in
    let is : IsStop outs ins a.slots a.items.now c.stops.sent c.stops.took stop =
    stop_is outs ins a.slots a.items.now c.stops.sent c.stops.took stop c.out_at.result c.in_at.result c.out_at.ensures c.in_at.ensures c.stop_at-stop.ensures.kind c.stop_at-stop.ensures.slot c.stop_at-stop.ensures.front in
    subst (AreStops outs ins a.slots a.items.now) (sym c.in_ok-push.ensures.ok)
    (way_ends outs ins a.slots a.items.now c.stops.stops c.stops.sent c.stops.took c.stops.from c.stops.invariant stop is c.in-End.is)

pub stop_at-stop-requires-clause-from : goal.stop_at-stop-requires-clause-from
stop_at-stop-requires-clause-from c = rw (c.out_at.ensures, c.in_at.ensures) c.stops.invariant.items_before

pub overflow_add-sent : goal.overflow_add-sent
overflow_add-sent c =
    let few = places_few c.args.slots (out_slots c.args.outs.now) c.requires.outs in
    omega (arith, c.requires.few, c.stops.invariant.sent_within)

pub overflow_add-took : goal.overflow_add-took
overflow_add-took c =
    let few = places_few c.args.slots (in_slots c.args.ins.now) c.requires.ins in
    omega (arith, c.requires.few, c.stops.invariant.took_within)

pub stop_at-stop-requires-clause-few : goal.stop_at-stop-requires-clause-few
stop_at-stop-requires-clause-few c = c.requires.few

pub stop_at-stop-requires-clause-items : goal.stop_at-stop-requires-clause-items
stop_at-stop-requires-clause-items c = c.requires.items
