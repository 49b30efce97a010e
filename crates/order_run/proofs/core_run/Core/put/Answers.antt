use Rattle.std.proofs.Common.{◌<◌, ◌^◌, length, subst}
use Rattle.event_defs.specs.declared.place.CoreStep.TheVariants.{Moved}
use Rattle.event_defs.specs.declared.place.Action.TheVariants as action
use Rattle.event_defs.specs.declared.place.Event.TheVariants as event
use Rattle.port_walk.specs.Placed.{CanPut}
use Rattle.order_run.specs.{declared.core_run.Core.TheInside.Inside, Core.Applies, Core.CoreView, code.Core.IsUpcoming, Kept.IsKept, Kept.view_of}
use Rattle.order_run.specs.code.CorePorts.{HasPutRoom, core_port_put}
use Rattle.order_run.proofs.CoreLemmas.{at_core_port, can_put, early_turn, inside_of, put_moves, put_room, replaced, core_port_in, core_port_low, core_port_there, upcoming_of}
use Rattle.order_run.proofs.core_run.Core.put.Goals.{After-self, After-put}
use Rattle.order_run.proofs.core_run.Core.put.Goals as goal
use Rattle.std.specs.List.{refill}

-- the core as it is made, and the next event of its port
module _ (c : After-self) where
  within : c.args.port < length c.self.inside.image.now.ports
  within = inside_of c.self.inside c.args.self.now c.self.view_is c.args.port c.requires.inside

  upcoming : IsUpcoming (view_of c.self.inside) c.args.port (action.Put c.args.slot c.args.value)
  upcoming = upcoming_of c.self.inside c.args.self.now c.self.view_is c.args.port (action.Put c.args.slot c.args.value) c.requires.next

  can : CanPut (core_port_there c.self.inside c.self.invariant c.args.port within).0.port
  can = can_put c.self.inside c.self.invariant c.args.port within c.args.slot c.args.value upcoming

pub write-requires : goal.write-requires
write-requires c =
    let a = c.self.inside in
    let first = (goal.at.write-requires c).After-self in
    let here = at_core_port a c.self.invariant c.args.port (within first) c.as_slice.result.now c.as_slice.ensures in
    record {
      there = core_port_low a c.self.invariant c.args.port (within first) c.as_slice.result.now c.as_slice.ensures;
      can = here (λ s. CanPut s.port) (can first);
      room = here (λ s. HasPutRoom s a.banks (length a.words)) (put_room a c.self.invariant c.args.port (within first));
      early = here (λ s. s.port.turn < 2 ^ 60) (early_turn a c.self.invariant c.args.port (within first));
      some = c.self.invariant.some;
    }

pub put-requires : goal.put-requires
put-requires c =
    let first = (goal.at.put-requires c).After-self in
    record {
      there = core_port_low c.self.inside c.self.invariant c.args.port (within first) c.as_mut_slice.result.now c.as_mut_slice.ensures.value;
      can = at_core_port c.self.inside c.self.invariant c.args.port (within first) c.as_mut_slice.result.now c.as_mut_slice.ensures.value (λ s. CanPut s.port) (can first);
    }

-- the core afterwards
abbrev after : (c : After-put) → Inside
after c = record c.self.inside { core_ports = refill (length c.self.inside.core_ports) c.self.inside.core_ports c.put.new.core_ports; words = c.write.new.words }

moved : (c : After-put) → IsKept (after c) × Applies (view_of c.self.inside) c.args.port (Moved (event.Put c.args.slot)) (view_of (after c))
moved c =
    let a = c.self.inside in
    let kept = c.self.invariant in
    let p = c.args.port in
    let first = (goal.at.After-put c).After-self in
    put_moves a kept p (within first) c.args.slot c.args.value (refill (length a.core_ports) a.core_ports c.put.new.core_ports) c.write.new.words (upcoming first) (c.write.ensures (core_port_there a kept p (within first)).0 (core_port_in a kept p (within first) c.as_slice.result.now c.as_slice.ensures)) (λ i link sending. replaced a.core_ports c.as_mut_slice.result.now c.put.new.core_ports p (core_port_put (core_port_there a kept p (within first)).0 link.slot) c.as_mut_slice.ensures.value (c.put.ensures (core_port_there a kept p (within first)).0 (core_port_in a kept p (within first) c.as_mut_slice.result.now c.as_mut_slice.ensures.value) i link sending))

pub invariant_of-self : goal.invariant_of-self
invariant_of-self c = (moved (goal.at.invariant_of-self c).After-put).0

pub returns : goal.returns
returns c =
    let last = (goal.at.returns c).After-put in
    subst (λ (v : CoreView). Applies v c.args.port (Moved (event.Put c.args.slot)) (view_of (after last))) c.self.view_is (moved last).1
