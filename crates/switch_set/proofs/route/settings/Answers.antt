use Rattle.std.proofs.Common.{List, [], ap, arith, length, rules, subst, sym, ℕ}
use Rattle.std.proofs.lemmas.{Option.slice_get-get_or, Option.slice_get_within, Result.err_from_is_err_and}
use Rattle.node_defs.specs.declared.items.NodeNet.{NodeNet}
use Rattle.plan_defs.specs.{Homes.ports_of, declared.plan.Homes.Homes, declared.switch.PortLinks.PortLinks}
use Rattle.switch_set.specs.{Order.IsSlotOrder, code.Links.AreLinked, code.Links.AreUnlinked}
use Rattle.switch_set.proofs.SwitchLemmas.{item_low, linked_more, home_low, readers_low, switch_is}
use Rattle.switch_set.proofs.route.settings.Goals as goal

pub link-requires : goal.link-requires
link-requires c =
    let at = slice_get-get_or c.deref-placed-items.result.now c.items.placed-index (record { slot = 0; item = 0 }) (omega arith) in
    let heard = c.items.invariant.readers.each _ c.of-heard.result.now c.of-heard.ensures in
    record {
      home = rw c.as_slice-home_ports.ensures (home_low c.args.nodes.now c.args.homes.now c.args.plan.now c.requires.nodes c.requires.homes c.requires.plan c.deref-placed-items.result.now c.items.invariant.order c.items.placed-index _ at c.items.ports c.items.invariant.linked.ports_are);
      readers = readers_low c.args.nodes.now c.args.homes.now c.args.plan.now c.requires.nodes c.requires.homes c.requires.plan c.deref-placed-items.result.now c.items.invariant.order c.items.placed-index _ at c.items.ports c.of-heard.result.now c.items.invariant.linked.ports_are heard;
      once = heard.rising;
    }

pub items-preserved : goal.items-preserved
items-preserved c = record {
  readers = c.items.invariant.readers;
  order = c.items.invariant.order;
  homes = c.items.invariant.homes;
  linked =
      linked_more c.args.nodes.now c.args.homes.now c.args.plan.now c.requires.nodes c.requires.homes c.requires.plan c.deref-placed-items.result.now c.items.invariant.order
      c.items.placed-index _ (slice_get-get_or c.deref-placed-items.result.now c.items.placed-index (record { slot = 0; item = 0 }) (omega arith)) c.of-heard.result.now
      (c.items.invariant.readers.each _ c.of-heard.result.now c.of-heard.ensures) c.items.ports c.link.new.ports c.items.invariant.linked
      (rw c.as_slice-home_ports.ensures at c.in_ok-link.ensures);
}

pub returns : goal.returns
returns c =
    switch_is c.args.nodes.now c.args.homes.now c.args.plan.now c.requires.nodes c.requires.homes c.requires.plan c.deref-placed-items.result.now c.items.invariant.order
    c.items.placed-index (omega arith) c.items.ports c.items.invariant.linked

pub returns-in_err-readers : goal.returns-in_err-readers
returns-in_err-readers c = let p = err_from_is_err_and c.from_residual.result c.from_residual.ensures.1 in rw p.1 tt

pub returns-in_err-order : goal.returns-in_err-order
returns-in_err-order c = let p = err_from_is_err_and c.from_residual-in_err-order.result c.from_residual-in_err-order.ensures.1 in rw p.1 tt

pub returns-in_err-ports : goal.returns-in_err-ports
returns-in_err-ports c = let p = err_from_is_err_and c.from_residual-in_err-ports.result c.from_residual-in_err-ports.ensures.1 in rw p.1 tt

pub returns-in_err-link : goal.returns-in_err-link
returns-in_err-link c = let p = err_from_is_err_and c.from_residual-in_err-link.result c.from_residual-in_err-link.ensures.1 in rw p.1 tt

pub new-requires : goal.new-requires
new-requires c = record { nodes = c.requires.nodes; homes = c.requires.homes }

-- before the first item nothing is linked
none_linked : (nodes : NodeNet) (homes : Homes) (slots : List ℕ) (ports : List PortLinks) → AreUnlinked (ports_of homes) ports → AreLinked nodes homes slots [] ports
none_linked nodes homes slots ports none = record {
  ports_are = none.are;
  sends = λ port. rw (none.sends port) (record {
    rising = search rules;
    each = λ k sending there. absurd (let low = slice_get_within [] k sending there in omega (arith, low));
    whole = λ i listed. absurd (let (sent, there) = listed in let (k, low, here) = there in omega (arith, low));
  });
  receipts = λ port. rw (none.receipts port) (record {
    rising = search rules;
    each = λ k receipt there. absurd (let low = slice_get_within [] k receipt there in omega (arith, low));
    whole = λ i listed. absurd (let (reads, there) = listed in let (k, low, here) = there in omega (arith, low));
  });
}

pub items-init : goal.items-init
items-init c = record {
  readers = c.in_ok-readers.ensures;
  order = subst (λ slots. IsSlotOrder slots c.deref-placed-items.result.now) c.as_slice.ensures
      (subst (IsSlotOrder c.as_slice.result.now) (sym c.deref-placed-items.ensures.value) c.in_ok-order.ensures);
  homes = c.as_slice-home_ports.ensures;
  linked = none_linked c.args.nodes.now c.args.homes.now c.args.plan.now.slots c.in_ok-ports.ports c.in_ok-ports.ensures;
}

pub of-heard-requires : goal.of-heard-requires
of-heard-requires c =
    let low = item_low c.args.nodes.now c.args.homes.now c.args.plan.now c.requires.nodes c.requires.homes c.requires.plan c.deref-placed-items.result.now c.items.invariant.order
    c.items.placed-index _ (slice_get-get_or c.deref-placed-items.result.now c.items.placed-index (record { slot = 0; item = 0 }) (omega arith)) in
    omega (arith, low, c.items.invariant.readers.items)

pub bounds-home_ports-item : goal.bounds-home_ports-item
bounds-home_ports-item c =
    let low = item_low c.args.nodes.now c.args.homes.now c.args.plan.now c.requires.nodes c.requires.homes c.requires.plan c.deref-placed-items.result.now c.items.invariant.order
    c.items.placed-index _ (slice_get-get_or c.deref-placed-items.result.now c.items.placed-index (record { slot = 0; item = 0 }) (omega arith)) in
    omega (arith, low, ap length c.as_slice-home_ports.ensures, c.requires.homes.items)

pub slot_order-requires : goal.slot_order-requires
slot_order-requires c = omega (arith, ap length c.as_slice.ensures, c.requires.plan.slots.items, c.requires.nodes.few)
