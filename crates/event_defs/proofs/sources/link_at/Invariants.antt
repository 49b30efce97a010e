use Rattle.std.proofs.Common.{◌-◌}
use Rattle.event_defs.specs.code.Sources.{StandsBetween}
use Rattle.event_defs.proofs.sources.link_at.Given as goal

abbrev pub invariant-halves : goal.invariant-halves
invariant-halves l = StandsBetween l.outs l.slot l.low l.high

abbrev pub decreases-halves : goal.decreases-halves
decreases-halves l = l.high - l.low
