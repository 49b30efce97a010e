use Rattle.std.proofs.Common.{◌∙◌, length, get_or, ap, subst, sym, arith}
use Rattle.std.proofs.lemmas.Option.{slice_get_within}
use Rattle.port_walk.specs.{declared.upcoming.Upcoming.TheVariants.Take, declared.upcoming.Upcoming.TheVariants.Tell, Stands.IsNextOf, Walks.Walked}
use Rattle.port_walk.proofs.MoveLemmas.{at_here, link_sent, row_sent, sent_there, sent_rising, sent_next}
use Rattle.port_walk.proofs.{KeptLemmas.next_take, KeptLemmas.next_tell, WalkLemmas.no_stop}
use Rattle.port_walk.proofs.walk.Walk.next.Goals as goal

pub readers_at-readers-requires-clause-order : goal.readers_at-readers-requires-clause-order
readers_at-readers-requires-clause-order g c = (row_sent g.W.Word c.self.invariant c.as_slice.result.now c.as_slice.ensures c.in-Send.is).order

pub readers_at-readers-requires-clause-within : goal.readers_at-readers-requires-clause-within
readers_at-readers-requires-clause-within g c = (row_sent g.W.Word c.self.invariant c.as_slice.result.now c.as_slice.ensures c.in-Send.is).within

pub next_of_send-requires-clause-there : goal.next_of_send-requires-clause-there
next_of_send-requires-clause-there g c =
    sent_there g.W.Word c.self.invariant c.as_slice.result.now c.as_slice.ensures c.in-Send.is c.readers_at-readers.result.now c.readers_at-readers.ensures c.args.known.now (c.requires ∙ ap (λ (view : Walked _). length view.stand.image.ports) (sym c.self.view_is))

pub next_of_send-requires-clause-rising : goal.next_of_send-requires-clause-rising
next_of_send-requires-clause-rising g c = sent_rising g.W.Word c.self.invariant c.as_slice.result.now c.as_slice.ensures c.in-Send.is c.readers_at-readers.result.now c.readers_at-readers.ensures c.args.known.now

pub returns-in-Send : goal.returns-in-Send
returns-in-Send g c =
    subst (λ (view : Walked _). IsNextOf view.stand c.args.known.now c.args.banks c.next_of_send.result) c.self.view_is
    (sent_next g.W.Word c.self.invariant c.as_slice.result.now c.as_slice.ensures c.in-Send.is c.readers_at-readers.result.now c.readers_at-readers.ensures c.args.known.now c.args.banks c.turns_wanted-turns.result c.next_of_send.result c.if-self.false c.turns_wanted-turns.ensures c.next_of_send.ensures)

pub returns-in-Receive : goal.returns-in-Receive
returns-in-Receive g c =
    let kept = c.self.invariant in
    subst (λ (view : Walked _). IsNextOf view.stand c.args.known.now c.args.banks (Take (get_or c.as_slice.result.now c.self.inside.at no_stop).slot)) c.self.view_is
    (next_take g.W.Word _ kept _ (at_here g.W.Word kept c.as_slice.result.now c.as_slice.ensures) c.args.known.now c.args.banks c.if-self.false c.in-Receive.is)

pub returns-in-End : goal.returns-in-End
returns-in-End g c =
    let kept = c.self.invariant in
    subst (λ (view : Walked _). IsNextOf view.stand c.args.known.now c.args.banks Tell) c.self.view_is
    (next_tell g.W.Word _ kept _ (at_here g.W.Word kept c.as_slice.result.now c.as_slice.ensures) c.args.known.now c.args.banks c.if-self.false c.in-End.is)

pub offset_bounds-as_slice-self-inside : goal.offset_bounds-as_slice-self-inside
offset_bounds-as_slice-self-inside g c =
    let within = slice_get_within c.self.inside.stops c.self.inside.at _ (at_here g.W.Word c.self.invariant c.as_slice.result.now c.as_slice.ensures) in
    omega (arith, within, ap length c.as_slice.ensures, c.as_slice.type_inv.1)

pub bounds-as_slice-self-inside : goal.bounds-as_slice-self-inside
bounds-as_slice-self-inside g c =
    let within = slice_get_within c.self.inside.stops c.self.inside.at _ (at_here g.W.Word c.self.invariant c.as_slice.result.now c.as_slice.ensures) in
    omega (arith, within, ap length c.as_slice.ensures)

pub readers_at-readers-requires-clause-there : goal.readers_at-readers-requires-clause-there
readers_at-readers-requires-clause-there g c =
    let link = link_sent g.W.Word c.self.invariant c.as_slice.result.now c.as_slice.ensures c.in-Send.is in
    let within = slice_get_within c.self.inside.port_image.now.outs c.self.inside.sent link.0 link.1.is in
    omega (arith, within, c.self.invariant.readers.count)
