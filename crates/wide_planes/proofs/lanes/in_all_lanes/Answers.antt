use Rattle.std.proofs.Common.{◌∙◌, ◌%◌, ◌/◌, ap}
use Rattle.wide_planes.proofs.LaneLemmas.{lane_put}
use Rattle.wide_planes.proofs.lanes.in_all_lanes.Goals as goal

pub returns : goal.returns
returns c = λ k low.
    lane_put _ k c.args.v (c.all.ensures k low ∙ ap (λ n. n % 2) c.code-code.ensures)
    (c.all-2.ensures k low ∙ ap (λ n. n / 2) c.code-code.ensures)
