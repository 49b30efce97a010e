use Rattle.std.proofs.Common.{◌≡◌, ◌∙◌, ap, subst}
use Rattle.image_defs.specs.{Places.IsPort, WellFormed.IsArray}
use Rattle.port_bank.proofs.lemmas.TurnLemmas.{port_image_found}
use Rattle.port_array.specs.code.Lanes.{AreFirst}
use Rattle.port_array.proofs.{KeptLemmas.blocks_few, LaneKept.ready_first}
use Rattle.port_array.proofs.port.ArrayPort.new.Goals as goal

pub make_memories-requires : goal.make_memories-requires
make_memories-requires g c =
    let port_image = c.index-as_slice-port.result in
    let same : c.requires.array.port ≡ port_image = port_image_found c.args.image.now c.args.port c.requires.array.port port_image _ c.requires.array.is c.as_slice.ensures c.index-as_slice-port.is in
    rw c.as_slice-in-Array.ensures
    (blocks_few c.args.image.now c.args.port port_image c.in-Array.blocks c.in-Array.outs c.requires.image (subst (IsPort c.args.image.now c.args.port) same c.requires.array.is) c.in-Array.is)

pub invariant_of-result : goal.invariant_of-result
invariant_of-result g c =
    let port_image = c.index-as_slice-port.result in
    let same : c.requires.array.port ≡ port_image = port_image_found c.args.image.now c.args.port c.requires.array.port port_image _ c.requires.array.is c.as_slice.ensures c.index-as_slice-port.is in
    ready_first g.W.Word _ c.args.image.now c.args.stim.now c.args.port port_image c.in_ok-bank-in-Array.ensures c.requires.image (subst (IsPort c.args.image.now c.args.port) same c.requires.array.is)
    (rw (c.as_slice-in-Array-2.ensures, c.as_slice-in-Array-3.ensures) c.in-Array.is)
    (rw c.as_slice-in-Array-2.ensures (subst (λ v. AreFirst g.W.Word v c.in-Array.blocks c.in_ok-memories-in-Array.memories) c.initial_value.ensures (rw c.as_slice-in-Array.ensures at c.in_ok-memories-in-Array.ensures)))

pub unreachable-requires-in-Host : goal.unreachable-requires-in-Host
unreachable-requires-in-Host g c =
    let same : c.requires.array.port ≡ c.index-as_slice-port.result =
    port_image_found c.args.image.now c.args.port c.requires.array.port c.index-as_slice-port.result _ c.requires.array.is c.as_slice.ensures c.index-as_slice-port.is in
    subst IsArray (ap (λ q. q.work) same ∙ c.in-Host.is) c.requires.array.kind
