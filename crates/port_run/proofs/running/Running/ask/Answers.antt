use Rattle.std.proofs.Common.{ap, length, subst, sym, ◌<◌, ◌∙◌}
use Rattle.image_defs.specs.declared.image.Image.{Image}
use Rattle.event_defs.specs.declared.place.Action.TheVariants as action
use Rattle.port_run.specs.{Kept.view_of, Pairs.placed, Pairs.with_pass}
use Rattle.port_run.proofs.RunLemmas.{HasStepped, asked_step, block_stays, inside, kept_after, reader_there, step_seen}
use Rattle.port_run.proofs.running.Running.ask.Goals.{After-asked}
use Rattle.port_run.proofs.running.Running.ask.Goals as goal

pub ask-finished-requires-clause-reader : goal.ask-finished-requires-clause-reader
ask-finished-requires-clause-reader c =
    subst (λ (i : Image). c.args.reader < length i.ports) c.requires.own.image (reader_there c.args.self.now.until c.args.self.now.pass c.args.reader c.requires.next)

has_asked : (c : After-asked) → HasStepped c.self.inside c.asked.result c.ask-finished.new.pass c.self.inside.port
has_asked c =
    let a = c.self.inside in
    let next = inside a c.args.self.now c.self.view_is (action.Ask c.args.reader) c.requires.next in
    record {
      step = asked_step a.port.until a.pass c.args.reader next c.ask-finished.new.pass c.ask-finished.result c.turn.result c.banks.result c.ask-finished.ensures.step c.turn.ensures.turn c.banks.ensures c.asked.result c.asked.ensures;
      is = c.self.invariant.port ∙ sym (ap (λ pass. placed (with_pass (view_of a) pass)) c.ask-finished.ensures.step);
    }

pub invariant_of-self : goal.invariant_of-self
invariant_of-self c = kept_after (has_asked (goal.at.invariant_of-self c).After-asked) c.self.invariant

pub returns : goal.returns
returns c =
    let stepped = has_asked (goal.at.returns c).After-asked in
    record { step = step_seen stepped c.args.self.now c.self.view_is; block = block_stays stepped c.args.self.now c.self.view_is }
