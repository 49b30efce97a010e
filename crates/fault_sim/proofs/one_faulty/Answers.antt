use Rattle.fault_sim.proofs.Stuck.{step_stuck, stuck_step}
use Rattle.fault_sim.proofs.Orders as orders
use Rattle.fault_sim.proofs.one_faulty.Goals as goal

pub returns-clause-steps : goal.returns-clause-steps
returns-clause-steps c net timing stimulus fault turn old new is right = step_stuck net fault is timing stimulus turn old new right

pub returns-clause-right : goal.returns-clause-right
returns-clause-right c net timing stimulus fault turn old new is step = stuck_step net fault is timing stimulus turn old new step

pub returns-clause-one : goal.returns-clause-one
returns-clause-one c = orders.one_faulty
