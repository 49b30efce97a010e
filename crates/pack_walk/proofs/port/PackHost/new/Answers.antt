use Rattle.std.proofs.Common.{◌≡◌, ◌∙◌, ◌-◌, ◌*◌, ap, refl}
use Rattle.image_defs.specs.{Places.host_of, Ports.at_first}
use Rattle.stim_text.specs.Lanes.{longest}
use Rattle.port_host.proofs.HostLemmas.{host_found}
use Rattle.pack_walk.proofs.HostLemmas.{ready_new}
use Rattle.pack_walk.proofs.port.PackHost.new.Goals as goal

pub cycles-requires : goal.cycles-requires
cycles-requires c = c.requires.lanes.valid

pub invariant_of-result : goal.invariant_of-result
invariant_of-result c =
    let image = c.args.image.now in
    let port : c.len-port.result - 1 ≡ host_of image = ap (λ n. n - 1) c.len-port.ensures in
    ready_new _ image c.args.lanes.now c.index-as_slice-port.result (c.in_ok-bank-in-Host.ensures ∙ ap (at_first image c.args.lanes.now) port) c.requires.image c.requires.lanes
    (host_found image c.len-port.result c.index-as_slice-port.result _ c.requires.image c.as_slice.ensures c.len-port.ensures c.index-as_slice-port.is)
    (rw (c.as_slice-in-Host.ensures, c.as_slice-in-Host-2.ensures) c.in-Host.is)
    c.in_ok-feed-in-Host.ensures refl refl
    (rw c.as_slice-in-Host-2.ensures (c.in_ok-cells-in-Host.ensures ∙ (ap (λ n. n * c.len.result) c.cycles.ensures ∙ ap (λ n. longest c.args.lanes.now * n) c.len.ensures)))
