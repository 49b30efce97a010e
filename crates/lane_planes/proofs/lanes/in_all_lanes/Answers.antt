use Rattle.std.proofs.Common.{◌∙◌, ◌%◌, ◌/◌, ap}
use Rattle.lane_planes.proofs.lemmas.LaneLemmas.{lane_put}
use Rattle.lane_planes.proofs.lanes.in_all_lanes.Goals as goal

pub returns : goal.returns
returns c = λ k low.
    lane_put _ k c.args.v (c.in_all.ensures.each k low ∙ ap (λ n. n % 2) c.code-code.ensures)
    (c.in_all-2.ensures.each k low ∙ ap (λ n. n / 2) c.code-code.ensures)
