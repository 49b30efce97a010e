-- The design, the bits of its memories, the lanes, their cells, and the run.
use Rattle.std.proofs.Common.{Some, None, refl}
use Rattle.call_steps.specs.Checks.{HasFewBits, HasFewLaneCells}
use Rattle.yse_commands.specs.Told.{lanes_turns}
use Rattle.call_steps.proofs.lemmas.StepLemmas.{comes_to, out_of, passed_on, passes, refuses, stopped}
use Rattle.yse_commands.proofs.lemmas.FollowLemmas.{silent_on}
use Rattle.yse_commands.proofs.pack.pack.Goals as goal

pub returns-in_err-planned-clause-comes : goal.returns-in_err-planned-clause-comes
returns-in_err-planned-clause-comes g c = silent_on _ _ c.from_residual.ensures (stopped c.in_err-planned.ensures)

pub returns-in_err-few_bits-clause-comes : goal.returns-in_err-few_bits-clause-comes
returns-in_err-few_bits-clause-comes g c =
    let design = c.on_machine-design.result in
    let placed = rw (← c.on_machine-design.ensures) at c.in_ok-planned.ensures in
    silent_on _ _ c.from_residual-in_err-few_bits.ensures (passed_on placed (stopped (refuses (HasFewBits design.net) c.in_err-few_bits.ensures)))

pub returns-in_err-lanes-clause-comes : goal.returns-in_err-lanes-clause-comes
returns-in_err-lanes-clause-comes g c =
    let design = c.on_machine-design.result in
    let placed = rw (← c.on_machine-design.ensures) at c.in_ok-planned.ensures in
    silent_on _ _ c.from_residual-in_err-lanes.ensures (passed_on placed (passed_on (passes (HasFewBits design.net) {x = tt} c.in_ok-few_bits.ensures) (stopped c.in_err-lanes.ensures.step)))

pub returns-in_err-few_lane_cells-clause-comes : goal.returns-in_err-few_lane_cells-clause-comes
returns-in_err-few_lane_cells-clause-comes g c =
    let design = c.on_machine-design.result in
    let placed = rw (← c.on_machine-design.ensures) at c.in_ok-planned.ensures in
    silent_on _ _ c.from_residual-in_err-few_lane_cells.ensures (passed_on placed (passed_on (passes (HasFewBits design.net) {x = tt} c.in_ok-few_bits.ensures) (passed_on c.in_ok-lanes.ensures.step
    (stopped (refuses (HasFewLaneCells design.net c.in_ok-lanes.lanes) c.in_err-few_lane_cells.ensures)))))

pub returns-in-Ok-clause-comes : goal.returns-in-Ok-clause-comes
returns-in-Ok-clause-comes g c =
    let design = c.on_machine-design.result in
    let placed = rw (← c.on_machine-design.ensures) at c.in_ok-planned.ensures in
    record {
      told = Some (lanes_turns c.args.words.now design c.in_ok-lanes.lanes);
      follows = passed_on placed (passed_on (passes (HasFewBits design.net) {x = tt} c.in_ok-few_bits.ensures) (passed_on c.in_ok-lanes.ensures.step
          (passed_on (passes (HasFewLaneCells design.net c.in_ok-lanes.lanes) {x = tt} c.in_ok-few_lane_cells.ensures) (comes_to (_, c.in-Ok.ensures.printed, refl)))));
      visits = c.in-Ok.ensures.visits;
    }

pub returns-in-Err-clause-comes : goal.returns-in-Err-clause-comes
returns-in-Err-clause-comes g c =
    let design = c.on_machine-design.result in
    let placed = rw (← c.on_machine-design.ensures) at c.in_ok-planned.ensures in
    record {
      told = None;
      follows = passed_on placed (passed_on (passes (HasFewBits design.net) {x = tt} c.in_ok-few_bits.ensures) (passed_on c.in_ok-lanes.ensures.step
          (passed_on (passes (HasFewLaneCells design.net c.in_ok-lanes.lanes) {x = tt} c.in_ok-few_lane_cells.ensures) out_of)));
      visits = c.in-Err.ensures.refused;
    }
