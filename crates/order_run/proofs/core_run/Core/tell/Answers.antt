use Rattle.std.proofs.Common.{◌≡◌, ◌<◌, ◌+◌, ◌%◌, length, subst}
use Rattle.std.specs.List.{refill}
use Rattle.event_defs.specs.declared.place.CoreStep.TheVariants.{Moved}
use Rattle.event_defs.specs.declared.place.Action.TheVariants as action
use Rattle.event_defs.specs.declared.place.Event.TheVariants as event
use Rattle.port_walk.specs.Placed.{IsEnding}
use Rattle.order_run.specs.{declared.core_run.Core.TheInside.Inside, Core.Applies, Core.CoreView, code.Core.IsUpcoming, Kept.IsKept, Kept.view_of}
use Rattle.order_run.specs.code.CorePorts.{core_port_told}
use Rattle.order_run.proofs.CoreLemmas.{at_core_port, can_tell, inside_of, is_core_port, replaced, core_port_in, core_port_low, core_port_there, tell_moves, upcoming_of}
use Rattle.order_run.proofs.core_run.Core.tell.Goals.{After-self, After-set}
use Rattle.order_run.proofs.core_run.Core.tell.Goals as goal

-- the core as it is made, and the next event of its port
module _ (c : After-self) where
  within : c.args.port < length c.self.inside.image.now.ports
  within = inside_of c.self.inside c.args.self.now c.self.view_is c.args.port c.requires.inside

  upcoming : IsUpcoming (view_of c.self.inside) c.args.port action.Tell
  upcoming = upcoming_of c.self.inside c.args.self.now c.self.view_is c.args.port action.Tell c.requires.next

pub tell-requires : goal.tell-requires
tell-requires c =
    let a = c.self.inside in
    let first = (goal.at.tell-requires c).After-self in
    let here = at_core_port a c.self.invariant c.args.port (within first) c.as_mut_slice.result.now c.as_mut_slice.ensures.value in
    record {
      there = core_port_low a c.self.invariant c.args.port (within first) c.as_mut_slice.result.now c.as_mut_slice.ensures.value;
      can = here (λ s. IsEnding s.port) (can_tell a c.self.invariant c.args.port (within first) (upcoming first));
      bank = here (λ s. s.bank ≡ s.port.turn % a.banks) (is_core_port a c.self.invariant c.args.port (within first)).bank;
      some = c.self.invariant.some;
    }

-- the core afterwards
abbrev after : After-set → Inside
after c = record c.self.inside { core_ports = refill (length c.self.inside.core_ports) c.self.inside.core_ports c.tell.new.core_ports; finished = c.set.new.self }

moved : (c : After-set) → IsKept (after c) × Applies (view_of c.self.inside) c.args.port (Moved event.Tell) (view_of (after c))
moved c =
    let a = c.self.inside in
    let kept = c.self.invariant in
    let p = c.args.port in
    let first = (goal.at.After-set c).After-self in
    let core_port = (core_port_there a kept p (within first)).0 in
    rw (replaced a.core_ports c.as_mut_slice.result.now c.tell.new.core_ports p (core_port_told core_port ((core_port.port.turn + 1) % a.banks)) c.as_mut_slice.ensures.value (c.tell.ensures core_port (core_port_in a kept p (within first) c.as_mut_slice.result.now c.as_mut_slice.ensures.value)), c.set.ensures)
    (tell_moves a kept p (within first) c.turn-turn.result (upcoming first) (c.turn-turn.ensures core_port (core_port_in a kept p (within first) c.as_slice.result.now c.as_slice.ensures)))

pub invariant_of-self : goal.invariant_of-self
invariant_of-self c = (moved (goal.at.invariant_of-self c).After-set).0

pub returns : goal.returns
returns c =
    let last = (goal.at.returns c).After-set in
    subst (λ (v : CoreView). Applies v c.args.port (Moved event.Tell) (view_of (after last))) c.self.view_is (moved last).1
