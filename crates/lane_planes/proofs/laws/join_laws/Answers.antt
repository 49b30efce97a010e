use Rattle.lane_planes.proofs.JoinLemmas.{one_by_one}
use Rattle.lane_planes.proofs.laws.join_laws.Goals as goal

pub returns : goal.returns
returns c = one_by_one
