use Rattle.std.proofs.Common.{◌∙◌, ◌+◌, ap, subst, sym}
use Rattle.image_defs.specs.Ports.{PortView, CanExecute, value_in}
use Rattle.port_bank.specs.Packed.{lane_port, InEachLane}
use Rattle.pack_walk.proofs.HostLemmas.{column_there, inputs_answer, ready_moved, still_runs}
use Rattle.pack_walk.proofs.port.PackHost.execute.Goals as goal

pub value-values-requires : goal.value-values-requires
value-values-requires c =
    let can = subst (InEachLane (λ (view : PortView). CanExecute view c.args.slot)) (sym c.self.view_is) c.requires in
    (column_there c.self.inside c.args.slot c.executed.result _ c.self.invariant can c.executed.ensures).1

pub execute-requires-clause-value : goal.execute-requires-clause-value
execute-requires-clause-value c =
    let can = subst (InEachLane (λ (view : PortView). CanExecute view c.args.slot)) (sym c.self.view_is) c.requires in
    inputs_answer c.self.inside c.args.slot c.executed.result _ c.value-values.result c.self.invariant can c.executed.ensures c.value-values.ensures

pub invariant_of-self : goal.invariant_of-self
invariant_of-self c =
    let a = c.self.inside in
    ready_moved a a.bank.begun (a.bank.executed + 1) a.bank.received c.execute.new.self c.self.invariant (still_runs a c.self.invariant) c.execute.ensures

pub returns-clause-values : goal.returns-clause-values
returns-clause-values c = λ l low.
    let can = subst (InEachLane (λ (view : PortView). CanExecute view c.args.slot)) (sym c.self.view_is) c.requires in
    inputs_answer c.self.inside c.args.slot c.executed.result _ c.value-values.result c.self.invariant can c.executed.ensures c.value-values.ensures l low
    ∙ ap (λ view. value_in (lane_port l view) c.args.slot) c.self.view_is
