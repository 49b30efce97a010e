use Rattle.std.proofs.Common.{◌<◌, length, subst, refl}
use Rattle.std.proofs.lemmas.Bool.{false≢true}
use Rattle.std.specs.List.{refill}
use Rattle.event_defs.specs.declared.place.CoreStep.TheVariants.{Moved, NotYet}
use Rattle.event_defs.specs.declared.place.Action.TheVariants as action
use Rattle.event_defs.specs.declared.place.Event.TheVariants as event
use Rattle.port_walk.specs.Placed.{CanTake, CanTakeValue}
use Rattle.order_run.specs.{declared.core_run.Core.TheInside.Inside, Core.Applies, Core.CoreView, code.Core.IsUpcoming, Kept.IsKept, Kept.view_of}
use Rattle.order_run.specs.code.CorePorts.{HasTakeRoom, IsWordRead, core_port_taken}
use Rattle.order_run.proofs.CoreLemmas.{at_core_port, can_take, can_take_value, inside_of, replaced, core_port_in, core_port_low, core_port_there, take_moves, take_room, take_waits, upcoming_of}
use Rattle.order_run.proofs.core_run.Core.take.Goals.{After-self, After-read-word, After-take}
use Rattle.order_run.proofs.core_run.Core.take.Goals as goal

-- the core as it is made, and the next event of its port
module _ (c : After-self) where
  within : c.args.port < length c.self.inside.image.now.ports
  within = inside_of c.self.inside c.args.self.now c.self.view_is c.args.port c.requires.inside

  upcoming : IsUpcoming (view_of c.self.inside) c.args.port (action.Take c.args.slot)
  upcoming = upcoming_of c.self.inside c.args.self.now c.self.view_is c.args.port (action.Take c.args.slot) c.requires.next

pub read-word-requires : goal.read-word-requires
read-word-requires c =
    let a = c.self.inside in
    let first = (goal.at.read-word-requires c).After-self in
    let here = at_core_port a c.self.invariant c.args.port (within first) c.as_slice.result.now c.as_slice.ensures in
    record {
      there = core_port_low a c.self.invariant c.args.port (within first) c.as_slice.result.now c.as_slice.ensures;
      can = here (λ s. CanTake s.port) (can_take a c.self.invariant c.args.port (within first) c.args.slot (upcoming first));
      room = here (λ s. HasTakeRoom s a.banks (length a.words)) (take_room a c.self.invariant c.args.port (within first));
    }

-- the word that was read
read : (c : After-read-word) → IsWordRead (core_port_there c.self.inside c.self.invariant c.args.port (within (goal.at.After-read-word c).After-self)).0 c.self.inside.banks c.self.inside.words c.read-word.result
read c = let first = (goal.at.After-read-word c).After-self in c.read-word.ensures _ (core_port_in c.self.inside c.self.invariant c.args.port (within first) c.as_slice.result.now c.as_slice.ensures)

pub returns-then-not-is_of : goal.returns-then-not-is_of
returns-then-not-is_of c =
    let a = c.self.inside in
    let kept = c.self.invariant in
    let p = c.args.port in
    let at = goal.at.returns-then-not-is_of c in
    let first = at.After-self in
    subst (λ (v : CoreView). Applies v p NotYet v) c.self.view_is
    (take_waits a kept p (within first) c.args.slot c.read-word.result c.turn.result (upcoming first) (read at.After-read-word) (c.turn.ensures _ (core_port_in a kept p (within first) c.as_slice-2.result.now c.as_slice-2.ensures)) (λ same. false≢true (c.if-not-is_of.ensures.1 same)))

pub take-requires : goal.take-requires
take-requires c =
    let a = c.self.inside in
    let kept = c.self.invariant in
    let p = c.args.port in
    let at = goal.at.take-requires c in
    let first = at.After-self in
    record {
      there = core_port_low a kept p (within first) c.as_mut_slice.result.now c.as_mut_slice.ensures.value;
      can = at_core_port a kept p (within first) c.as_mut_slice.result.now c.as_mut_slice.ensures.value (λ s. CanTakeValue s.port c.decoded.result)
          (can_take_value a kept p (within first) c.args.slot c.read-word.result c.turn.result c.decoded.result (upcoming first) (read at.After-read-word) (c.turn.ensures _ (core_port_in a kept p (within first) c.as_slice-2.result.now c.as_slice-2.ensures)) (c.if-not-is_of.ensures.0 refl) c.decoded.ensures);
    }

-- the core afterwards
abbrev after : After-take → Inside
after c = record c.self.inside { core_ports = refill (length c.self.inside.core_ports) c.self.inside.core_ports c.take.new.core_ports }

moved : (c : After-take) → IsKept (after c) × Applies (view_of c.self.inside) c.args.port (Moved (event.Take c.args.slot)) (view_of (after c))
moved c =
    let a = c.self.inside in
    let kept = c.self.invariant in
    let p = c.args.port in
    let at = goal.at.After-take c in
    let first = at.After-self in
    take_moves a kept p (within first) c.args.slot c.read-word.result c.turn.result (refill (length a.core_ports) a.core_ports c.take.new.core_ports) (upcoming first) (read at.After-read-word) (c.turn.ensures _ (core_port_in a kept p (within first) c.as_slice-2.result.now c.as_slice-2.ensures)) (c.if-not-is_of.ensures.0 refl)
    (λ j link receiving. replaced a.core_ports c.as_mut_slice.result.now c.take.new.core_ports p (core_port_taken (core_port_there a kept p (within first)).0 link.slot) c.as_mut_slice.ensures.value (c.take.ensures _ (core_port_in a kept p (within first) c.as_mut_slice.result.now c.as_mut_slice.ensures.value) j link receiving))

pub invariant_of-self : goal.invariant_of-self
invariant_of-self c = (moved (goal.at.invariant_of-self c).After-take).0

pub returns : goal.returns
returns c =
    let last = (goal.at.returns c).After-take in
    subst (λ (v : CoreView). Applies v c.args.port (Moved (event.Take c.args.slot)) (view_of (after last))) c.self.view_is (moved last).1
