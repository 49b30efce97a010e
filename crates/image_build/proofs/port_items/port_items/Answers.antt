use Rattle.std.proofs.Common.{◌≡◌, ◌∙◌, ◌<◌, Some, slice_get, ap, subst, length, arith, sym}
use Rattle.std.proofs.lemmas.Option.{slice_get-get_or}
use Rattle.plan_defs.proofs.lemmas.PortLemmas.{home_port}
use Rattle.switch_set.specs.Order.{IsSlotOrder}
use Rattle.switch_set.proofs.SwitchLemmas.{item_low}
use Rattle.image_build.proofs.ItemLemmas.{items_none, items_more, items_all}
use Rattle.image_build.proofs.port_items.port_items.Goals as goal

pub push_to-requires : goal.push_to-requires
push_to-requires c =
    let low : c.items.k < length c.in_ok-order.order.items = omega arith in
    let at : slice_get c.in_ok-order.order.items c.items.k ≡ Some c.index.result.now = slice_get-get_or c.in_ok-order.order.items c.items.k c.index.result.now low ∙ ap Some (sym c.index.ensures) in
    let is = subst (λ slots. IsSlotOrder slots c.in_ok-order.order.items) c.as_slice.ensures c.in_ok-order.ensures in
    let within = home_port c.args._nodes.now c.args.homes.now c.index.result.now.item c.requires.formed c.requires.housed (item_low c.args._nodes.now c.args.homes.now c.args.plan.now c.requires.formed c.requires.housed c.requires.first_fit c.in_ok-order.order.items is c.items.k c.index.result.now at) in
    rw (c.as_slice-ports.ensures, c.items.invariant.ports) within

pub items-preserved : goal.items-preserved
items-preserved c =
    let low : c.items.k < length c.in_ok-order.order.items = omega arith in
    let at : slice_get c.in_ok-order.order.items c.items.k ≡ Some c.index.result.now = slice_get-get_or c.in_ok-order.order.items c.items.k c.index.result.now low ∙ ap Some (sym c.index.ensures) in
    let is = subst (λ slots. IsSlotOrder slots c.in_ok-order.order.items) c.as_slice.ensures c.in_ok-order.ensures in
    let pushed = rw c.as_slice-ports.ensures at c.in_ok-push_to.ensures in
    rw pushed (items_more c.args._nodes.now c.args.homes.now c.args.plan.now c.requires c.in_ok-order.order.items is c.items.k c.index.result.now c.items.lists at c.items.invariant)

pub returns : goal.returns
returns c =
    items_all c.args._nodes.now c.args.homes.now c.args.plan.now c.requires c.in_ok-order.order.items (subst (λ slots. IsSlotOrder slots c.in_ok-order.order.items) c.as_slice.ensures c.in_ok-order.ensures)
    c.items.k c.items.lists (omega arith) c.items.invariant

pub items-init : goal.items-init
items-init c = items_none c.args._nodes.now c.args.homes.now c.args.plan.now _ c.in_ok-lists.ensures
