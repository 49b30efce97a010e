use Rattle.std.proofs.Common.{◌*◌, ◌≡◌, ap, length, refl, sym, subst, arith}
use Rattle.image_defs.specs.{Places.IsPort, Ports.at_first, WellFormed.IsWellFormed}
use Rattle.port_bank.specs.Packed.{PackPortView}
use Rattle.port_walk.proofs.lemmas.KindLemmas.{port_image_there}
use Rattle.pack_walk.proofs.PlacedLemmas.{all_valid, all_turns}
use Rattle.pack_walk.proofs.placed.PackPlaced.new.Goals as goal

pub lists_of-requires-clause-port_image : goal.lists_of-requires-clause-port_image
lists_of-requires-clause-port_image c =
    (c.args.port, port_image_there c.args.image.now c.args.port c.index-as_slice-port.result c.as_slice.result.now c.requires.there c.as_slice.ensures c.index-as_slice-port.is)

pub new-requires-clause-valid : goal.new-requires-clause-valid
new-requires-clause-valid c = all_valid c.args.image.now c.args.lanes.now c.args.port _ c.in_ok-kind.ensures.view c.requires.lanes

pub new-requires-clause-port_image : goal.new-requires-clause-port_image
new-requires-clause-port_image c =
    let port_image = c.index-as_slice-port.result in
    let is = port_image_there c.args.image.now c.args.port port_image c.as_slice.result.now c.requires.there c.as_slice.ensures c.index-as_slice-port.is in
    subst (λ (view : PackPortView). IsPort view.image view.port port_image) (sym c.in_ok-kind.ensures.view) is

pub new-requires-clause-until : goal.new-requires-clause-until
new-requires-clause-until c = all_turns c.args.image.now c.args.lanes.now c.args.port _ c.in_ok-kind.ensures.view _ (ap (λ n. c.args.image.now.units * n) c.cycles.ensures)

pub bounds-as_slice-port : goal.bounds-as_slice-port
bounds-as_slice-port c = omega (arith, c.requires.there, ap length c.as_slice.ensures)

pub new-requires-clause-image : goal.new-requires-clause-image
new-requires-clause-image c = subst (λ (view : PackPortView). IsWellFormed view.image) (sym c.in_ok-kind.ensures.view) c.requires.image

pub new-requires-clause-first : goal.new-requires-clause-first
new-requires-clause-first c = subst (λ (view : PackPortView). view ≡ at_first view.image view.stimulus view.port) (sym c.in_ok-kind.ensures.view) refl
