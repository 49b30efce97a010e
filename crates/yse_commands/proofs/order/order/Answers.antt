-- The design with its stimulus, the cells, and the end of the run.
use Rattle.yse_commands.specs.commands.Run.{EndsByOrder}
use Rattle.std.proofs.Common.{refl}
use Rattle.call_steps.specs.Checks.{HasFewCells}
use Rattle.call_steps.proofs.lemmas.StepLemmas.{comes_to, out_of, passed_on, passes, refuses, stopped}
use Rattle.yse_commands.proofs.lemmas.FollowLemmas.{refused_on}
use Rattle.yse_commands.proofs.order.order.Goals as goal

pub returns-in_err-ready-clause-expected : goal.returns-in_err-ready-clause-expected
returns-in_err-ready-clause-expected g c = refused_on _ _ c.from_residual.ensures (stopped c.in_err-ready.ensures)

pub returns-in_err-few_ready_cells-clause-expected : goal.returns-in_err-few_ready_cells-clause-expected
returns-in_err-few_ready_cells-clause-expected g c = refused_on _ _ c.from_residual-in_err-few_ready_cells.ensures (passed_on c.in_ok-ready.ensures (stopped (refuses (HasFewCells c.in_ok-ready.ready.placed.net c.in_ok-ready.ready.stimulus) c.in_err-few_ready_cells.ensures)))

pub returns-in-Some-clause-expected : goal.returns-in-Some-clause-expected
unfolding EndsByOrder
returns-in-Some-clause-expected g c =
    let order = rw c.as_bytes.ensures at c.in_order.ensures.expected in
    passed_on c.in_ok-ready.ensures (passed_on (passes (HasFewCells c.in_ok-ready.ready.placed.net c.in_ok-ready.ready.stimulus) {x = tt} c.in_ok-few_ready_cells.ensures) (rw c.in-Some.is order))

pub returns-in-Ok-clause-expected : goal.returns-in-Ok-clause-expected
unfolding EndsByOrder
returns-in-Ok-clause-expected g c = passed_on c.in_ok-ready.ensures (passed_on (passes (HasFewCells c.in_ok-ready.ready.placed.net c.in_ok-ready.ready.stimulus) {x = tt} c.in_ok-few_ready_cells.ensures) (rw c.in-None.is (comes_to (_, c.in-Ok.ensures.printed, refl))))

pub returns-in-Err-clause-expected : goal.returns-in-Err-clause-expected
unfolding EndsByOrder
returns-in-Err-clause-expected g c = passed_on c.in_ok-ready.ensures (passed_on (passes (HasFewCells c.in_ok-ready.ready.placed.net c.in_ok-ready.ready.stimulus) {x = tt} c.in_ok-few_ready_cells.ensures) (rw c.in-None.is out_of))
