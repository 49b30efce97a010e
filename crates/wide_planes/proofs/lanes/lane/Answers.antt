use Rattle.std.proofs.Common.{◌∙◌, ◌+◌, ◌*◌, ◌%◌, ap₂}
use Rattle.logic_four.specs.Values.{value_of}
use Rattle.wide_planes.proofs.LaneLemmas.{lane_read}
use Rattle.wide_planes.proofs.lanes.lane.Goals as goal

pub returns : goal.returns
returns c = c.decoded.ensures ∙ ap₂ (λ x y. value_of ((x + 2 * y) % 4)) (c.from.ensures ∙ c.bit.ensures) (c.from-2.ensures ∙ c.bit-2.ensures) ∙ lane_read c.args.p c.args.k
