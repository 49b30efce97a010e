use Rattle.event_defs.specs.declared.place.CoreStep.TheVariants.{Moved}
use Rattle.event_defs.specs.declared.place.Event.TheVariants as event
use Rattle.std.proofs.Common.{subst}
use Rattle.order_run.specs.code.Core.{IsUpcoming}
use Rattle.order_run.proofs.RoundLemmas.{all_right}
use Rattle.order_run.proofs.core_run.Core.apply.Goals as goal

pub returns-in-Ask : goal.returns-in-Ask
returns-in-Ask c =
    let right = all_right c.args.self.now c.ask.new.self c.args.port c.ask.result c.next.ensures.ready c.requires c.ask.ensures in
    record { step = c.ask.ensures; takes = right.0; puts = right.1; sound = right.2 }

pub returns-in-Put : goal.returns-in-Put
returns-in-Put c =
    let right = all_right c.args.self.now c.put.new.self c.args.port (Moved (event.Put c.in-Put.slot)) c.next.ensures.ready c.requires c.put.ensures in
    record { step = c.put.ensures; takes = right.0; puts = right.1; sound = right.2 }

pub returns-in-Take : goal.returns-in-Take
returns-in-Take c =
    let right = all_right c.args.self.now c.take.new.self c.args.port c.take.result c.next.ensures.ready c.requires c.take.ensures in
    record { step = c.take.ensures; takes = right.0; puts = right.1; sound = right.2 }

pub returns-in-Tell : goal.returns-in-Tell
returns-in-Tell c =
    let right = all_right c.args.self.now c.tell.new.self c.args.port (Moved event.Tell) c.next.ensures.ready c.requires c.tell.ensures in
    record { step = c.tell.ensures; takes = right.0; puts = right.1; sound = right.2 }

pub returns-in-Done-clause-takes : goal.returns-in-Done-clause-takes
returns-in-Done-clause-takes c = record { each = λ port slot is same. cc }

pub returns-in-Done-clause-puts : goal.returns-in-Done-clause-puts
returns-in-Done-clause-puts c = record { each = λ port slot r is same next stands. cc }

pub returns-in-Done-clause-sound : goal.returns-in-Done-clause-sound
returns-in-Done-clause-sound c = c.next.ensures.ready.sound

pub ask-requires : goal.ask-requires
ask-requires c = record { inside = c.requires; next = subst (IsUpcoming c.args.self.now c.args.port) c.in-Ask.is c.next.ensures.next }

pub put-requires : goal.put-requires
put-requires c = record { inside = c.requires; next = subst (IsUpcoming c.args.self.now c.args.port) c.in-Put.is c.next.ensures.next }

pub take-requires : goal.take-requires
take-requires c = record { inside = c.requires; next = subst (IsUpcoming c.args.self.now c.args.port) c.in-Take.is c.next.ensures.next }

pub tell-requires : goal.tell-requires
tell-requires c = record { inside = c.requires; next = subst (IsUpcoming c.args.self.now c.args.port) c.in-Tell.is c.next.ensures.next }
