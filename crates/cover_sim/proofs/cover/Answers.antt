use Rattle.cover_sim.proofs.CoverLemmas.{marks_answered}
use Rattle.cover_sim.proofs.cover.Goals as goal

pub returns : goal.returns
returns c = marks_answered c.args.net.now c.args.timing.now c.args.stim.now _ _ c.observe.ensures.simulated c.in_ok-observe.ensures.watched
