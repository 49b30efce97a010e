use Rattle.event_defs.specs.declared.place.Action.TheVariants as action
use Rattle.event_defs.specs.declared.place.Event.TheVariants as event
use Rattle.crew_run.specs.declared.stepper.Step.TheVariants.{Moved}
use Rattle.port_run.specs.Kept.{view_of}
use Rattle.port_run.proofs.RunLemmas.{HasStepped, block_stays, inside, kept_after, put_event, put_placed, step_seen}
use Rattle.port_run.proofs.running.Running.put.Goals.{After-put_done}
use Rattle.port_run.proofs.running.Running.put.Goals as goal

has_put : (c : After-put_done) → HasStepped c.self.inside Moved c.put.new.pass c.put_done.new.self
has_put c =
    let a = c.self.inside in
    let next = inside a c.args.self.now c.self.view_is (action.Put c.args.slot c.args.value) c.requires.next in
    record {
      step = (event.Put c.args.slot, put_event (view_of a) c.args.slot c.args.value next c.put.new.pass c.put.ensures);
      is = put_placed (view_of a) c.args.slot c.args.value next c.put.new.pass c.put.ensures a.port c.put_done.new.self c.self.invariant.port c.put_done.ensures;
    }

pub invariant_of-self : goal.invariant_of-self
invariant_of-self c = kept_after (has_put (goal.at.invariant_of-self c).After-put_done) c.self.invariant

pub returns : goal.returns
returns c =
    let stepped = has_put (goal.at.returns c).After-put_done in
    record { step = step_seen stepped c.args.self.now c.self.view_is; block = block_stays stepped c.args.self.now c.self.view_is }
