use Rattle.std.proofs.Common.{◌≡◌, ◌<◌, length, subst, sym}
use Rattle.order_run.specs.{declared.core_ports.CorePort.CorePort, Core.CoreView, code.Core.IsUpcoming}
use Rattle.order_run.proofs.CoreLemmas.{known_wide, next_seen, same_core_port, core_port_in}
use Rattle.order_run.proofs.core_run.Core.next.Goals as goal

pub next-requires-clause-wide : goal.next-requires-clause-wide
next-requires-clause-wide c core_port at =
    let a = c.self.inside in
    let within : c.args.port < length a.image.now.ports = subst (λ (v : CoreView). c.args.port < length v.image.ports) (sym c.self.view_is) c.requires in
    subst (λ (s : CorePort). length s.known ≡ length s.port.image.ports) (same_core_port a c.self.invariant c.args.port within core_port c.as_slice.result.now c.as_slice.ensures at) (known_wide a c.self.invariant c.args.port within)

pub returns-clause-next : goal.returns-clause-next
returns-clause-next c =
    let a = c.self.inside in
    let within : c.args.port < length a.image.now.ports = subst (λ (v : CoreView). c.args.port < length v.image.ports) (sym c.self.view_is) c.requires in
    subst (λ (v : CoreView). IsUpcoming v c.args.port c.next.result) c.self.view_is
    (next_seen a c.self.invariant c.args.port within c.next.result (c.next.ensures _ (core_port_in a c.self.invariant c.args.port within c.as_slice.result.now c.as_slice.ensures)))
