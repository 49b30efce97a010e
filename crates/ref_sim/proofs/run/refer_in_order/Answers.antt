use Rattle.ref_sim.proofs.{PrintLemmas.rows_printed, lemmas.Simulations.one_along}
use Rattle.ref_sim.proofs.run.refer_in_order.Goals as goal

pub returns-in_err-printing-clause-simulated : goal.returns-in_err-printing-clause-simulated
returns-in_err-printing-clause-simulated c = one_along _ _ _ _ c.requires.order

pub returns-clause-rows : goal.returns-clause-rows
returns-clause-rows c = rows_printed c.args.net.now c.args.timing.now c.args.stim.now _ _ c.in_ok-observe.ensures.watched
