use Rattle.std.proofs.Common.{ap, length, subst, sym, ◌<◌, ◌∙◌}
use Rattle.image_defs.specs.declared.image.Image.{Image}
use Rattle.port_walk.specs.declared.upcoming.Upcoming.TheVariants as action
use Rattle.pack_run.specs.{Pairs.placed, Steps.IsStepOf, code.Steps.IsUpcoming}
use Rattle.pack_run.proofs.RunLemmas.{asked_step, reader_there}
use Rattle.pack_run.proofs.running.PackRunning.ask.Goals as goal

pub ask-finished-requires-clause-running : goal.ask-finished-requires-clause-running
ask-finished-requires-clause-running c = (subst (λ o. IsUpcoming o (action.Ask c.args.reader)) (sym c.self.view_is) c.requires.next).next.0

pub ask-finished-requires-clause-reader : goal.ask-finished-requires-clause-reader
ask-finished-requires-clause-reader c =
    subst (λ (i : Image). c.args.reader < length i.ports) c.requires.own.image (reader_there c.args.self.now c.args.reader c.requires.next)

pub invariant_of-self : goal.invariant_of-self
invariant_of-self c = record { port = c.self.invariant.port ∙ sym (ap placed c.ask-finished.ensures.step) }

pub returns : goal.returns
returns c =
    let a = c.self.inside in
    let next = subst (λ o. IsUpcoming o (action.Ask c.args.reader)) (sym c.self.view_is) c.requires.next in
    subst (λ o. IsStepOf o c.asked.result c.ask-finished.new.pass) c.self.view_is
    (asked_step a.pass c.args.reader next c.ask-finished.new.pass c.ask-finished.result c.turn.result c.ask-finished.ensures.step c.turn.ensures.turn c.asked.result c.asked.ensures)
