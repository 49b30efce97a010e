use Rattle.std.proofs.Common.{get_or, arith, length, subst, sym, ◌<◌}
use Rattle.std.proofs.lemmas.Result.{err_from_is_err_and}
use Rattle.node_defs.specs.declared.items.Item.TheVariants.{Input}
use Rattle.image_build.proofs.PlannedLemmas.{at_place, item_at, computed_at, place_few}
use Rattle.image_build.proofs.TaskLemmas.{tasks_more}
use Rattle.image_build.proofs.logic.logic_work.Goals as goal

pub task_of-requires : goal.task_of-requires
task_of-requires c =
    let planned = c.requires.planned in
    let at = at_place c.args.nodes.now c.args.homes.now c.args.plan.now.slots c.args.port c.args.items.now c.items.k 0 c.requires.items c.items-test.true in
    let there = item_at c.args.nodes.now c.args.homes.now c.args.plan.now planned c.args.port c.args.items.now c.items.k 0 c.as_slice-list.result.now (Input 0) c.requires.items c.items-test.true c.as_slice-list.ensures in
    record {
      room =
          let low = place_few c.args.nodes.now c.args.homes.now c.args.plan.now planned c.args.port c.args.items.now c.items.k c.requires.items c.items-test.true in
          let few = c.items.invariant.few in
          omega (arith, few, low);
      within = omega (arith, at.0, planned.first_fit.slots.items);
      computed = computed_at c.args.nodes.now c.args.homes.now c.args.plan.now planned c.args.port (get_or c.args.items.now c.items.k 0) (get_or c.as_slice-list.result.now (get_or c.args.items.now c.items.k 0) (Input 0)) at there c.requires.logic;
      table = planned.formed.parts _ _ there;
      as_long = omega (arith, planned.housed.items, planned.first_fit.slots.items);
      taken = λ o takes. let low = planned.formed.taken _ o _ there takes in omega (arith, low, planned.first_fit.slots.items);
    }

pub items-preserved : goal.items-preserved
items-preserved c =
    rw c.in_ok-push.ensures.ok (tasks_more c.args.nodes.now c.args.homes.now c.args.plan.now.slots c.args.port c.items.k 0 c.args.items.now c.items.shelf.tables c.task_of.new.shelf.tables c.items.tasks
    (get_or c.as_slice-list.result.now (get_or c.args.items.now c.items.k 0) (Input 0)) c.in_ok-task.task c.items.invariant c.items-test.true
    (item_at c.args.nodes.now c.args.homes.now c.args.plan.now c.requires.planned c.args.port c.args.items.now c.items.k 0 c.as_slice-list.result.now (Input 0) c.requires.items c.items-test.true c.as_slice-list.ensures)
    c.in_ok-task.ensures.task c.task_of.new.shelf.different c.in_ok-task.ensures.shelf)

pub returns-in_err-push : goal.returns-in_err-push
returns-in_err-push c = let p = err_from_is_err_and c.from_residual-in_err-push.result c.from_residual-in_err-push.ensures.1 in rw p.1 tt

pub bounds-list-x : goal.bounds-list-x
bounds-list-x c =
    subst (λ list. get_or c.args.items.now c.items.k 0 < length list) (sym c.as_slice-list.ensures)
    (at_place c.args.nodes.now c.args.homes.now c.args.plan.now.slots c.args.port c.args.items.now c.items.k 0 c.requires.items c.items-test.true).0
