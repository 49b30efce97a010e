use Rattle.std.proofs.lemmas.Result.{on_ok_weaker}
use Rattle.ref_sim.proofs.{CycleLemmas.one_watched, lemmas.Simulations.one_along}
use Rattle.ref_sim.proofs.run.observe.Goals as goal

pub returns-in_err-schedule-clause-simulated : goal.returns-in_err-schedule-clause-simulated
returns-in_err-schedule-clause-simulated g c = one_along _ _ _ _ c.requires.order

pub returns-clause-watched : goal.returns-clause-watched
returns-clause-watched g c = on_ok_weaker _ (one_watched c.args.net.now c.args.timing.now c.args.stim.now c.args.order.now _ _ c.requires.order) c.observe_lanes.ensures.watched

pub returns-clause-simulated : goal.returns-clause-simulated
returns-clause-simulated g c = one_along _ _ _ _ c.requires.order
