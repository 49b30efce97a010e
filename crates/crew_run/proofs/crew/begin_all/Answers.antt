use Rattle.std.proofs.{Common.refl, lemmas.Option.slice_get_read}
use Rattle.crew_run.specs.code.Phases.{HasBegun}
use Rattle.crew_run.proofs.CrewLemmas.{each_place}
use Rattle.crew_run.proofs.crew.begin_all.Goals as goal

pub for_each_mut-requires-clause-accepts : goal.for_each_mut-requires-clause-accepts
for_each_mut-requires-clause-accepts g c κs within i p below is = c.requires.can i p.now (slice_get_read c.args.workers.now _ i p.now refl below is)

pub returns : goal.returns
returns g c = each_place (HasBegun g.S.Stepper g.G.Gate) c.args.workers.now c.for_each_mut.new.s c.for_each_mut.auto.s (λ i d below.
    let change = (c.for_each_mut.ensures i d below).1 in
    rw (← change.argument_is, ← change.left) change.call)
