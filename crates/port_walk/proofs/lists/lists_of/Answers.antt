use Rattle.std.proofs.Common.{◌≡◌, ◌∙◌, ◌≤◌, length, subst, sym}
use Rattle.limits.specs.declared.TheConstants.{MAX_SLOTS}
use Rattle.image_defs.specs.Places.{Each, item_slots, in_slots, out_slots}
use Rattle.port_walk.specs.{Rows.AreReaders, code.Stops.ArePlaces, code.Stops.HasFewReaders}
use Rattle.port_walk.proofs.WalkLemmas.{out_places, in_places, few_sends, few_readers, stops_read}
use Rattle.port_walk.proofs.lists.lists_of.Goals as goal

pub stops_of-requires-clause-items : goal.stops_of-requires-clause-items
stops_of-requires-clause-items c =
    let image = c.args.image.now in
    let port_image = c.args.port_image.now in
    let good = c.requires.image.ports c.requires.port_image.0 port_image c.requires.port_image.1 in
    let slots_are : c.as_slice.result.now ≡ item_slots port_image.work = c.as_slice.ensures ∙ c.in_ok-slots.ensures in
    subst (ArePlaces image.slots) (sym slots_are) (record { rising = good.items; low = good.item_slots_within })

pub stops_of-requires-clause-outs : goal.stops_of-requires-clause-outs
stops_of-requires-clause-outs c =
    let image = c.args.image.now in
    let port_image = c.args.port_image.now in
    let good = c.requires.image.ports c.requires.port_image.0 port_image c.requires.port_image.1 in
    subst (λ xs. ArePlaces image.slots (out_slots xs)) (sym c.as_slice-2.ensures) (out_places image c.requires.port_image.0 port_image good)

pub stops_of-requires-clause-ins : goal.stops_of-requires-clause-ins
stops_of-requires-clause-ins c =
    let image = c.args.image.now in
    let port_image = c.args.port_image.now in
    let good = c.requires.image.ports c.requires.port_image.0 port_image c.requires.port_image.1 in
    subst (λ xs. ArePlaces image.slots (in_slots xs)) (sym c.as_slice-3.ensures) (in_places image c.requires.port_image.0 port_image good)

pub readers_of-requires-clause-few : goal.readers_of-requires-clause-few
readers_of-requires-clause-few c =
    let few = few_sends c.args.image.now c.requires.image c.requires.port_image.0 c.args.port_image.now c.requires.port_image.1 in
    subst (λ xs. length xs ≤ MAX_SLOTS) (sym c.as_slice-4.ensures) few

pub readers_of-requires-clause-readers : goal.readers_of-requires-clause-readers
readers_of-requires-clause-readers c =
    subst (Each HasFewReaders) (sym c.as_slice-4.ensures) (few_readers c.args.image.now c.requires.image c.requires.port_image.0 c.args.port_image.now c.requires.port_image.1)

pub returns : goal.returns
returns c =
    let port_image = c.args.port_image.now in (
      c.in_ok-slots.ensures,
      stops_read c.args.image.now.slots c.in_ok-slots.slots c.as_slice.result.now port_image.outs c.as_slice-2.result.now port_image.ins c.as_slice-3.result.now c.in_ok-stops.stops
          c.as_slice.ensures c.as_slice-2.ensures c.as_slice-3.ensures c.in_ok-stops.ensures,
      subst (λ xs. AreReaders (length xs) xs c.in_ok-readers.readers) c.as_slice-4.ensures c.in_ok-readers.ensures,
    )
