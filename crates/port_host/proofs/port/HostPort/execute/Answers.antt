use Rattle.std.proofs.Common.{◌∙◌, ap, subst, sym}
use Rattle.image_defs.specs.Ports.{CanExecute, value_in}
use Rattle.port_host.proofs.HostLemmas.{row_there, next_input, next_answers}
use Rattle.port_host.proofs.port.HostPort.execute.Goals as goal

pub input_value-value-requires-clause-row : goal.input_value-value-requires-clause-row
input_value-value-requires-clause-row c = row_there c.self.inside c.self.invariant (ap (λ view. view.port.begun) c.self.view_is ∙ c.requires.begun)

pub input_value-value-requires-clause-column : goal.input_value-value-requires-clause-column
input_value-value-requires-clause-column c =
    let can : CanExecute c.self.inside.bank c.args.slot = subst (λ view. CanExecute view.port c.args.slot) (sym c.self.view_is) c.requires in
    (next_input c.self.inside c.args.slot c.executed.result _ c.self.invariant can c.executed.ensures).low

pub execute-requires-clause-value : goal.execute-requires-clause-value
execute-requires-clause-value c =
    let can : CanExecute c.self.inside.bank c.args.slot = subst (λ view. CanExecute view.port c.args.slot) (sym c.self.view_is) c.requires in
    next_answers c.self.inside c.args.slot _ c.input_value-value.result c.self.invariant can (next_input c.self.inside c.args.slot c.executed.result _ c.self.invariant can c.executed.ensures) c.input_value-value.ensures

pub returns-clause-value : goal.returns-clause-value
returns-clause-value c =
    let can : CanExecute c.self.inside.bank c.args.slot = subst (λ view. CanExecute view.port c.args.slot) (sym c.self.view_is) c.requires in
    next_answers c.self.inside c.args.slot _ c.input_value-value.result c.self.invariant can (next_input c.self.inside c.args.slot c.executed.result _ c.self.invariant can c.executed.ensures) c.input_value-value.ensures
    ∙ ap (λ view. value_in view.port c.args.slot) c.self.view_is
