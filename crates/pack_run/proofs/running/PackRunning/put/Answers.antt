use Rattle.std.proofs.Common.{subst, sym}
use Rattle.crew_run.specs.declared.stepper.Step.TheVariants.{Moved}
use Rattle.port_walk.specs.declared.upcoming.Upcoming.TheVariants as action
use Rattle.pack_run.specs.{Steps.IsStepOf, code.Steps.IsUpcoming}
use Rattle.pack_run.proofs.RunLemmas.{can_put, may_put, put_placed, put_step, put_values}
use Rattle.pack_run.proofs.running.PackRunning.put.Goals as goal

pub value-values-requires : goal.value-values-requires
value-values-requires c =
    let a = c.self.inside in
    may_put a.pass c.args.slot (subst (λ o. IsUpcoming o (action.Put c.args.slot)) (sym c.self.view_is) c.requires.next) a.port c.self.invariant.port

pub put-requires-clause-can : goal.put-requires-clause-can
put-requires-clause-can c =
    let a = c.self.inside in
    let next = subst (λ o. IsUpcoming o (action.Put c.args.slot)) (sym c.self.view_is) c.requires.next in
    can_put a.pass c.args.slot next c.value-values.result (put_values a.pass c.args.slot next a.port c.value-values.result c.self.invariant.port c.value-values.ensures)

pub invariant_of-self : goal.invariant_of-self
invariant_of-self c =
    let a = c.self.inside in
    let next = subst (λ o. IsUpcoming o (action.Put c.args.slot)) (sym c.self.view_is) c.requires.next in
    let are = put_values a.pass c.args.slot next a.port c.value-values.result c.self.invariant.port c.value-values.ensures in
    record { port = put_placed a.pass c.args.slot next c.value-values.result are c.put.new.pass c.put.ensures a.port c.put_done.new.self c.self.invariant.port c.put_done.ensures }

pub returns : goal.returns
returns c =
    let a = c.self.inside in
    let next = subst (λ o. IsUpcoming o (action.Put c.args.slot)) (sym c.self.view_is) c.requires.next in
    let are = put_values a.pass c.args.slot next a.port c.value-values.result c.self.invariant.port c.value-values.ensures in
    subst (λ o. IsStepOf o Moved c.put.new.pass) c.self.view_is (put_step a.pass c.args.slot next c.value-values.result are c.put.new.pass c.put.ensures)
