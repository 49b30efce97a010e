-- No lane has more cycles than a stimulus may have.
use Rattle.std.proofs.Common.{◌≤◌, sym, subst}
use Rattle.limits.specs.declared.TheConstants.{MAX_CYCLES}
use Rattle.call_steps.proofs.SizeLemmas.{short_lanes}
use Rattle.call_steps.proofs.sizes.lane_cycles.Goals as goal

pub returns-clause-short : goal.returns-clause-short
returns-clause-short c = subst (λ n. n ≤ MAX_CYCLES) (sym c.cycles.ensures) (short_lanes c.args.lanes.now c.requires)
