use Rattle.std.proofs.Common.{◌∙◌, ◌%◌, ◌/◌, ap}
use Rattle.lane_planes.proofs.lemmas.LaneLemmas.{lane_put, lane_kept}
use Rattle.lane_planes.proofs.lanes.with_lane.Goals as goal

pub returns-clause-here : goal.returns-clause-here
returns-clause-here c =
    lane_put _ c.args.k c.args.v (c.with_bit.ensures.here ∙ ap (λ n. n % 2) c.code-code.ensures)
    (c.with_bit-2.ensures.here ∙ ap (λ n. n / 2) c.code-code.ensures)

pub returns-clause-others : goal.returns-clause-others
returns-clause-others c = λ j within differ.
    lane_kept _ c.args.p j (c.with_bit.ensures.others j within differ) (c.with_bit-2.ensures.others j within differ)
