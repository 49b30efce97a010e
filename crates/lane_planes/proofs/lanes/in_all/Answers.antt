use Rattle.lane_planes.proofs.lemmas.BitLemmas.{spread}
use Rattle.lane_planes.proofs.lanes.in_all.Goals as goal

pub returns-clause-each : goal.returns-clause-each
returns-clause-each c = λ k low. spread c.args.bit k c.requires low
