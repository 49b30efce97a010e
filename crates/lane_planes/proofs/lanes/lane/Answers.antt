use Rattle.std.proofs.Common.{◌∙◌}
use Rattle.lane_planes.proofs.lemmas.LaneLemmas.{lane_read}
use Rattle.lane_planes.proofs.lanes.lane.Goals as goal

pub returns : goal.returns
returns c = c.decoded.ensures ∙ lane_read c.args.p c.args.k
