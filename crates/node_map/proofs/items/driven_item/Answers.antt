use Rattle.std.proofs.Common.{◌≡◌, ◌∙◌, ap, subst, Some}
use Rattle.net_defs.specs.{declared.netlist.Driver.TheVariants.Dff, Valid.IsDrivable}
use Rattle.node_map.specs.code.{Made.driver_at, Nodes.IsNodeAt, Wires.operands_of}
use Rattle.node_map.proofs.ItemLemmas.{made_input, made_bit, made_latch, made_gate, driver_there}
use Rattle.node_map.proofs.items.driven_item.Goals as goal

pub returns-in-Input-clause-item : goal.returns-in-Input-clause-item
returns-in-Input-clause-item c =
    made_input c.args.net.now c.args.timing.now c.args.numbering.now.names c.args.palette.now.shelf.tables c.args.key.now
    (c.requires.driven ∙ ap Some c.in-Input.is) c.requires.among

pub returns-in-BlockBit-clause-item : goal.returns-in-BlockBit-clause-item
returns-in-BlockBit-clause-item c =
    made_bit c.args.net.now c.args.timing.now c.args.numbering.now.names c.args.palette.now.shelf.tables c.args.key.now c.in-BlockBit.block c.in-BlockBit.bit
    (c.requires.driven ∙ ap Some c.in-BlockBit.is) c.requires.among

pub returns-in-Dff-clause-item : goal.returns-in-Dff-clause-item
returns-in-Dff-clause-item c =
    let driven : driver_at c.args.net.now c.args.key.now.signal ≡ Some (Dff c.in-Dff.op) = c.requires.driven ∙ ap Some c.in-Dff.is in
    let found : _ = driver_there c.args.net.now c.args.key.now.signal (Dff c.in-Dff.op) driven in
    let drivable : IsDrivable c.args.net.now c.args.key.now.signal (Dff c.in-Dff.op) =
    subst (IsDrivable c.args.net.now c.args.key.now.signal) found.2 (c.requires.valid.drivers c.args.key.now.signal found.0 found.1) in
    made_latch c.args.net.now c.args.timing.now c.args.numbering.now.names c.args.palette.now.shelf.tables c.args.key.now c.in-Dff.op c.own_item.result
    driven c.requires.among (c.own_item.ensures c.args.net.now c.requires.numbered drivable)

pub returns-in_ok-made-in-Gate-clause-item : goal.returns-in_ok-made-in-Gate-clause-item
returns-in_ok-made-in-Gate-clause-item c =
    made_gate c.args.net.now c.args.timing.now c.args.numbering.now.names c.args.palette.now.shelf.tables c.node.new.palette.shelf.tables c.args.key.now c.in-Gate.kind c.in-Gate.ops c.in_ok-made-in-Gate.made
    (c.requires.driven ∙ ap Some c.in-Gate.is) c.requires.among
    (subst (λ late. IsNodeAt c.args.numbering.now.names c.args.palette.now.shelf.tables c.node.new.palette.shelf.tables late c.args.key.now.signal (operands_of c.args.net.now c.args.key.now.signal) c.in-Gate.kind c.args.key.now.place c.in_ok-made-in-Gate.made)
    c.is_late-late.ensures c.in_ok-made-in-Gate.ensures.node)
