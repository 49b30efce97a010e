use Rattle.event_defs.specs.code.Sources.{CountsSends}
use Rattle.event_defs.proofs.sources.first_sends.Given as goal

abbrev pub invariant-ports : goal.invariant-ports
invariant-ports l = CountsSends l.image l.p l.sends l.firsts
