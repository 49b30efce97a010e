use Rattle.cover_sim.proofs.CoverLemmas.{one_list, simulated}
use Rattle.cover_sim.proofs.one_coverage.Goals as goal

pub returns : goal.returns
returns c net timing stimulus none = one_list net timing stimulus (simulated net timing stimulus none)
