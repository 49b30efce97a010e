use Rattle.lane_planes.proofs.lemmas.LaneLemmas.{same_planes}
use Rattle.lane_planes.proofs.laws.lanes_decide.Goals as goal

pub returns : goal.returns
returns c = same_planes c.args.p c.args.q
