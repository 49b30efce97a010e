-- Its gates are new, so that they have room for the turns of any members.
use Rattle.std.proofs.Common.{arith}
use Rattle.crew_run.proofs.lemmas.RoomLemmas.{can_run_with}
use Rattle.yse.proofs.tests.below.of_crew_run.rounds.Goals as goal

pub run_with-requires-after_bounds : goal.run_with-requires-after_bounds
run_with-requires-after_bounds g c κs within =
    rw c.as_mut_slice.ensures.value (rw c.as_mut_slice-2.ensures.value
    (can_run_with _ _ c.in_ok-workers.workers c.in_ok-gates.gates c.in_ok-workers.ensures.ready (omega (arith, c.in_ok-workers.ensures.count, c.in_ok-gates.ensures.count)) (λ i gate _ at. c.in_ok-gates.ensures.tell i gate at)))
