use Rattle.std.proofs.Common.{ap, arith, length, refl, subst, sym, ◌∙◌}
use Rattle.std.proofs.lemmas.Option.{get_or_from_slice_get, slice_get_within}
use Rattle.image_defs.specs.Places.{host_of}
use Rattle.machine_run.proofs.HostLemmas.{host_there}
use Rattle.pack_run.specs.contracts.seated.PackSeatedStepper.TheImpl as seated
use Rattle.pack_run.specs.declared.seated.PackSeated.{PackSeated}
use Rattle.pack_machine.specs.code.Ends.{IsHostAtEnd}
use Rattle.pack_machine.proofs.machine.host.Goals as goal

pub bounds-as_slice-0 : goal.bounds-as_slice-0
bounds-as_slice-0 g c =
    let has = c.requires.dealt.host (omega arith) in
    slice_get_within c.as_slice.result.now 0 has.seat (host_there seated.ghosts.port (length c.args.crew.now) (length c.args.image.now.ports) c.args.crew.now has c.len-host.result _ c.worker_of.result c.args.crew.now c.index-crew-worker_of.result c.as_slice.result.now c.len-host.ensures refl c.worker_of.ensures.is refl c.index-crew-worker_of.is c.as_slice.ensures)

pub returns : goal.returns
returns g c =
    let has = c.requires.dealt.host (omega arith) in
    let is = (c.requires.dealt.each _ 0 has.seat has.member).seat_is in
    let there = host_there seated.ghosts.port (length c.args.crew.now) (length c.args.image.now.ports) c.args.crew.now has c.len-host.result _ c.worker_of.result c.args.crew.now c.index-crew-worker_of.result c.as_slice.result.now c.len-host.ensures refl c.worker_of.ensures.is refl c.index-crew-worker_of.is c.as_slice.ensures in
    subst (λ (s : PackSeated). IsHostAtEnd c.args.image.now c.args.lanes.now s.run) (sym (get_or_from_slice_get c.as_slice.result.now 0 has.seat c.index-as_slice-0.result there))
    (record { image_is = is.image; lanes_are = is.lanes; port = has.port_is ∙ sym (ap host_of is.image); turn = is.turn })
