use Rattle.std.proofs.Common.{◌≡◌, ◌∙◌, ◌-◌, ap, refl}
use Rattle.image_defs.specs.{Places.host_of, Ports.at_first}
use Rattle.port_host.proofs.HostLemmas.{host_found, room_made, ready_first}
use Rattle.port_host.proofs.port.HostPort.new.Goals as goal

pub invariant_of-result : goal.invariant_of-result
invariant_of-result c =
    let image = c.args.image.now in
    let port : c.len-port.result - 1 ≡ host_of image = ap (λ n. n - 1) c.len-port.ensures in
    ready_first _ image c.args.stim.now c.index-as_slice-port.result (c.in_ok-bank-in-Host.ensures ∙ ap (at_first image c.args.stim.now) port) c.requires.image c.requires.stimulus c.requires.columns
    (host_found image c.len-port.result c.index-as_slice-port.result _ c.requires.image c.as_slice.ensures c.len-port.ensures c.index-as_slice-port.is)
    (rw (c.as_slice-in-Host.ensures, c.as_slice-in-Host-2.ensures) c.in-Host.is)
    refl refl refl c.begin.ensures.on c.begin.ensures.turn
    (rw c.as_slice-in-Host-2.ensures (room_made _ c.args.window c.len.result c.in-Host.printed c.in_ok-cells-in-Host.ensures c.len.ensures))
