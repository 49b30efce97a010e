use Rattle.event_defs.specs.Sources.{AreSources}
use Rattle.event_defs.proofs.sources.sources_of.Given as goal

abbrev pub invariant-ins : goal.invariant-ins
invariant-ins l = AreSources l.image l.ins l.j l.sources
