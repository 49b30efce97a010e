use Rattle.std.proofs.Common.{arith, get_or, length, subst, sym, ◌<◌}
use Rattle.std.proofs.lemmas.Result.{err_from_is_err_and}
use Rattle.node_defs.specs.declared.items.Item.TheVariants.{Input}
use Rattle.image_build.specs.code.Layouts.{IsInputFor}
use Rattle.image_build.proofs.{GrowLemmas.made_all, GrowLemmas.made_next, PlannedLemmas.at_place, PlannedLemmas.item_at, PlannedLemmas.input_at_host}
use Rattle.image_build.proofs.host.inputs_of.Goals as goal

pub input_of-requires : goal.input_of-requires
input_of-requires c =
    let at = at_place c.args.nodes.now c.args.homes.now c.args.plan.now.slots c.args.port c.args.items.now c.items.k 0 c.requires.items c.items-test.true in
    let there = item_at c.args.nodes.now c.args.homes.now c.args.plan.now c.requires.planned c.args.port c.args.items.now c.items.k 0 c.as_slice-list.result.now (Input 0) c.requires.items c.items-test.true c.as_slice-list.ensures in
    record {
      within = omega (arith, at.0, c.requires.planned.first_fit.slots.items);
      input = input_at_host c.args.nodes.now c.args.homes.now c.args.plan.now c.requires.planned c.args.port (get_or c.args.items.now c.items.k 0) (get_or c.as_slice-list.result.now (get_or c.args.items.now c.items.k 0) (Input 0)) at there c.requires.host;
    }

pub items-preserved : goal.items-preserved
items-preserved c =
    rw c.in_ok-push.ensures.ok (made_next c.args.nodes.now (IsInputFor c.args.plan.now.slots) c.args.items.now c.items.k 0 c.items.inputs (get_or c.as_slice-list.result.now (get_or c.args.items.now c.items.k 0) (Input 0)) c.input_of.result c.items-test.true c.items.invariant
    (item_at c.args.nodes.now c.args.homes.now c.args.plan.now c.requires.planned c.args.port c.args.items.now c.items.k 0 c.as_slice-list.result.now (Input 0) c.requires.items c.items-test.true c.as_slice-list.ensures)
    c.input_of.ensures)

pub returns-in_err-push : goal.returns-in_err-push
returns-in_err-push c = let p = err_from_is_err_and c.from_residual.result c.from_residual.ensures.1 in rw p.1 tt

pub bounds-list-x : goal.bounds-list-x
bounds-list-x c =
    subst (λ list. get_or c.args.items.now c.items.k 0 < length list) (sym c.as_slice-list.ensures)
    (at_place c.args.nodes.now c.args.homes.now c.args.plan.now.slots c.args.port c.args.items.now c.items.k 0 c.requires.items c.items-test.true).0

pub returns : goal.returns
returns c = made_all c.args.nodes.now (IsInputFor c.args.plan.now.slots) c.args.items.now c.items.k c.items.inputs (omega arith) c.items.invariant
