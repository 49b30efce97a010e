use Rattle.std.proofs.Common.{subst, sym}
use Rattle.crew_run.specs.declared.stepper.Step.TheVariants as step
use Rattle.port_walk.specs.declared.upcoming.Upcoming.TheVariants as action
use Rattle.pack_run.specs.{Steps.IsStepOf, code.Steps.IsUpcoming}
use Rattle.pack_run.proofs.RunLemmas.{can_take, may_take, missed_placed, missed_step, took_placed, took_step}
use Rattle.pack_run.proofs.running.PackRunning.take.Goals as goal

pub take-requires-clause-can : goal.take-requires-clause-can
take-requires-clause-can c =
    can_take c.self.inside.pass c.args.slot (subst (λ o. IsUpcoming o (action.Take c.args.slot)) (sym c.self.view_is) c.requires.next)

pub took-requires : goal.took-requires
took-requires c =
    let a = c.self.inside in
    let next = subst (λ o. IsUpcoming o (action.Take c.args.slot)) (sym c.self.view_is) c.requires.next in
    may_take a.pass c.args.slot next c.take.new.pass c.take.result c.take.ensures c.in-Value.values c.in-Value.is a.port c.self.invariant.port

pub invariant_of-self : goal.invariant_of-self
invariant_of-self c =
    let a = c.self.inside in
    let next = subst (λ o. IsUpcoming o (action.Take c.args.slot)) (sym c.self.view_is) c.requires.next in
    record { port = took_placed a.pass c.args.slot next c.take.new.pass c.take.result c.take.ensures c.in-Value.values c.in-Value.is a.port c.took.new.self c.self.invariant.port c.took.ensures }

pub invariant_of-self-in-NotYet : goal.invariant_of-self-in-NotYet
invariant_of-self-in-NotYet c =
    let a = c.self.inside in
    let next = subst (λ o. IsUpcoming o (action.Take c.args.slot)) (sym c.self.view_is) c.requires.next in
    record { port = missed_placed a.pass c.args.slot next c.take.new.pass c.take.result c.take.ensures c.in-NotYet.is a.port c.self.invariant.port }

pub returns-in-Value : goal.returns-in-Value
returns-in-Value c =
    let a = c.self.inside in
    let next = subst (λ o. IsUpcoming o (action.Take c.args.slot)) (sym c.self.view_is) c.requires.next in
    subst (λ o. IsStepOf o step.Moved c.take.new.pass) c.self.view_is (took_step a.pass c.args.slot next c.take.new.pass c.take.result c.take.ensures c.in-Value.values c.in-Value.is)

pub returns-in-NotYet : goal.returns-in-NotYet
returns-in-NotYet c =
    let a = c.self.inside in
    let next = subst (λ o. IsUpcoming o (action.Take c.args.slot)) (sym c.self.view_is) c.requires.next in
    subst (λ o. IsStepOf o step.NotYet c.take.new.pass) c.self.view_is (missed_step a.pass c.args.slot next c.take.new.pass c.take.result c.take.ensures c.in-NotYet.is)
