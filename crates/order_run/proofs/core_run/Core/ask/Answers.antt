use Rattle.std.proofs.Common.{◌∙◌, ◌<◌, ◌≡◌, ◌≤◌, ◌-◌, length, get_or, slice_set, ap, subst, refl, arith}
use Rattle.std.proofs.lemmas.Bool.{false≢true}
use Rattle.std.specs.List.{refill}
use Rattle.event_defs.specs.declared.place.CoreStep.TheVariants.{Moved, NotYet}
use Rattle.event_defs.specs.declared.place.Action.TheVariants as action
use Rattle.event_defs.specs.declared.place.Event.TheVariants as event
use Rattle.order_run.specs.{declared.core_run.Core.TheInside.Inside, Core.Applies, Core.CoreView, code.Core.IsUpcoming, Kept.IsKept, Kept.view_of}
use Rattle.order_run.specs.code.CorePorts.{core_port_asked}
use Rattle.order_run.proofs.CoreLemmas.{ask_moves, ask_waits, at_core_port, inside_of, known_within, reader_within, replaced, core_port_in, core_port_low, core_port_there, upcoming_of}
use Rattle.order_run.proofs.CorePortLemmas.{not_less}
use Rattle.order_run.proofs.core_run.Core.ask.Goals.{After-self, After-turn-turn, After-ask}
use Rattle.order_run.proofs.core_run.Core.ask.Goals as goal

-- the core as it is made, and the next event of its port
module _ (c : After-self) where
  within : c.args.port < length c.self.inside.image.now.ports
  within = inside_of c.self.inside c.args.self.now c.self.view_is c.args.port c.requires.inside

  upcoming : IsUpcoming (view_of c.self.inside) c.args.port (action.Ask c.args.reader)
  upcoming = upcoming_of c.self.inside c.args.self.now c.self.view_is c.args.port (action.Ask c.args.reader) c.requires.next

-- the turn of the port
turn_is : (c : After-turn-turn) → c.turn-turn.result ≡ (core_port_there c.self.inside c.self.invariant c.args.port (within (goal.at.After-turn-turn c).After-self)).0.port.turn
turn_is c = let first = (goal.at.After-turn-turn c).After-self in c.turn-turn.ensures _ (core_port_in c.self.inside c.self.invariant c.args.port (within first) c.as_slice.result.now c.as_slice.ensures)

pub bounds-as_slice-reader : goal.bounds-as_slice-reader
bounds-as_slice-reader c =
    let first = (goal.at.bounds-as_slice-reader c).After-self in
    let low = reader_within c.self.inside c.self.invariant c.args.port (within first) c.args.reader (upcoming first) in
    let long = c.self.invariant.finished in
    let same = ap length c.as_slice-2.ensures in
    omega arith

pub returns-then-lags : goal.returns-then-lags
returns-then-lags c =
    let a = c.self.inside in
    let at = goal.at.returns-then-lags c in
    let first = at.After-self in
    subst (λ (v : CoreView). Applies v c.args.port NotYet v) c.self.view_is
    (ask_waits a c.self.invariant c.args.port (within first) c.args.reader c.turn-turn.result (upcoming first) (turn_is at.After-turn-turn) (subst (λ xs. get_or xs c.args.reader 0 < c.turn-turn.result - a.banks) c.as_slice-2.ensures (c.if-lags.ensures.0 refl)))

pub ask-requires : goal.ask-requires
ask-requires c =
    let a = c.self.inside in
    let first = (goal.at.ask-requires c).After-self in
    record {
      there = core_port_low a c.self.invariant c.args.port (within first) c.as_mut_slice.result.now c.as_mut_slice.ensures.value;
      reader = at_core_port a c.self.invariant c.args.port (within first) c.as_mut_slice.result.now c.as_mut_slice.ensures.value (λ s. c.args.reader < length s.known) (known_within a c.self.invariant c.args.port (within first) c.args.reader (upcoming first));
    }

-- the core afterwards
abbrev after : After-ask → Inside
after c = record c.self.inside { core_ports = refill (length c.self.inside.core_ports) c.self.inside.core_ports c.ask.new.core_ports }

moved : (c : After-ask) → IsKept (after c) × Applies (view_of c.self.inside) c.args.port (Moved (event.Ask c.args.reader)) (view_of (after c))
moved c =
    let a = c.self.inside in
    let kept = c.self.invariant in
    let p = c.args.port in
    let r = c.args.reader in
    let at = goal.at.After-ask c in
    let first = at.After-self in
    let core_port = (core_port_there a kept p (within first)).0 in
    rw (replaced a.core_ports c.as_mut_slice.result.now c.ask.new.core_ports p (core_port_asked core_port r (get_or a.finished r 0)) c.as_mut_slice.ensures.value (c.ask.ensures core_port (core_port_in a kept p (within first) c.as_mut_slice.result.now c.as_mut_slice.ensures.value) ∙ ap (λ xs. slice_set c.as_mut_slice.result.now p (core_port_asked core_port r (get_or xs r 0))) c.as_slice-2.ensures))
    (ask_moves a kept p (within first) r c.turn-turn.result (upcoming first) (turn_is at.After-turn-turn) (subst (λ xs. c.turn-turn.result - a.banks ≤ get_or xs r 0) c.as_slice-2.ensures (not_less (get_or c.as_slice-2.result.now r 0) (c.turn-turn.result - a.banks) (λ less. false≢true (c.if-lags.ensures.1 less)))))

pub invariant_of-self : goal.invariant_of-self
invariant_of-self c = (moved (goal.at.invariant_of-self c).After-ask).0

pub returns : goal.returns
returns c =
    let last = (goal.at.returns c).After-ask in
    subst (λ (v : CoreView). Applies v c.args.port (Moved (event.Ask c.args.reader)) (view_of (after last))) c.self.view_is (moved last).1
