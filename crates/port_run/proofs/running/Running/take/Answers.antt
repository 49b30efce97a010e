use Rattle.event_defs.specs.declared.place.Action.TheVariants as action
use Rattle.event_defs.specs.declared.place.Event.TheVariants as event
use Rattle.crew_run.specs.declared.stepper.Step.TheVariants as step
use Rattle.port_run.specs.Kept.{view_of}
use Rattle.port_run.proofs.RunLemmas.{HasStepped, block_stays, inside, kept_after, may_take, missed_placed, missed_wait, step_seen, took_event, took_placed}
use Rattle.port_run.proofs.running.Running.take.Goals.{After-took, In-NotYet}
use Rattle.port_run.proofs.running.Running.take.Goals as goal

pub took-requires : goal.took-requires
took-requires c =
    let next = inside c.self.inside c.args.self.now c.self.view_is (action.Take c.args.slot) c.requires.next in
    may_take (view_of c.self.inside) c.args.slot next c.take.new.pass c.take.result c.in-Value.value c.take.ensures c.in-Value.is c.self.inside.port c.self.invariant.port

has_taken : (c : After-took) → HasStepped c.self.inside step.Moved c.take.new.pass c.took.new.self
has_taken c =
    let a = c.self.inside in
    let next = inside a c.args.self.now c.self.view_is (action.Take c.args.slot) c.requires.next in
    record {
      step = (event.Take c.args.slot, took_event (view_of a) c.args.slot next c.take.new.pass c.take.result c.in-Value.value c.take.ensures c.in-Value.is);
      is = took_placed (view_of a) c.args.slot next c.take.new.pass c.take.result c.in-Value.value c.take.ensures c.in-Value.is a.port c.took.new.self c.self.invariant.port c.took.ensures;
    }

has_missed : (c : In-NotYet) → HasStepped c.self.inside step.NotYet c.take.new.pass c.self.inside.port
has_missed c =
    let a = c.self.inside in
    let next = inside a c.args.self.now c.self.view_is (action.Take c.args.slot) c.requires.next in
    record {
      step = missed_wait (view_of a) c.args.slot next c.take.new.pass c.take.result c.take.ensures c.in-NotYet.is;
      is = missed_placed (view_of a) c.args.slot next c.take.new.pass c.take.result c.take.ensures c.in-NotYet.is a.port c.self.invariant.port;
    }

pub invariant_of-self : goal.invariant_of-self
invariant_of-self c = kept_after (has_taken (goal.at.invariant_of-self c).After-took) c.self.invariant

pub invariant_of-self-in-NotYet : goal.invariant_of-self-in-NotYet
invariant_of-self-in-NotYet c = kept_after (has_missed (goal.at.invariant_of-self-in-NotYet c).In-NotYet) c.self.invariant

pub returns-in-Value : goal.returns-in-Value
returns-in-Value c =
    let stepped = has_taken (goal.at.returns-in-Value c).After-took in
    record { step = step_seen stepped c.args.self.now c.self.view_is; block = block_stays stepped c.args.self.now c.self.view_is }

pub returns-in-NotYet : goal.returns-in-NotYet
returns-in-NotYet c =
    let stepped = has_missed (goal.at.returns-in-NotYet c).In-NotYet in
    record { step = step_seen stepped c.args.self.now c.self.view_is; block = block_stays stepped c.args.self.now c.self.view_is }
