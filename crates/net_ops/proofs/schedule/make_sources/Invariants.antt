use Rattle.net_ops.specs.Schedules.{AreSources}
use Rattle.net_ops.proofs.schedule.make_sources.Given as goal

abbrev pub invariant-signals : goal.invariant-signals
invariant-signals l = AreSources l.net l.s l.sources
