use Rattle.std.proofs.Common.{subst, sym}
use Rattle.image_defs.specs.Ports.{CanExecute, value_in}
use Rattle.port_bank.specs.Words.{InEachLane, AreValues}
use Rattle.port_array.proofs.LaneKept.{next_fits, next_within, next_answers, ready_executed}
use Rattle.port_array.proofs.port.ArrayPort.execute.Goals as goal

pub bounds-self-inside-executed : goal.bounds-self-inside-executed
bounds-self-inside-executed g c =
    let can : InEachLane g.W.Word (λ view. CanExecute view c.args.slot) c.self.inside.bank = subst (InEachLane g.W.Word (λ view. CanExecute view c.args.slot)) (sym c.self.view_is) c.requires in
    next_within g.W.Word g.met.W.Word.some _ c.args.slot c.executed.result (record { slot = 0; block = 0; bit = 0 }) c.self.invariant can c.executed.ensures

pub answered-answer-requires : goal.answered-answer-requires
answered-answer-requires g c =
    let can : InEachLane g.W.Word (λ view. CanExecute view c.args.slot) c.self.inside.bank = subst (InEachLane g.W.Word (λ view. CanExecute view c.args.slot)) (sym c.self.view_is) c.requires in
    rw c.as_slice.ensures (next_fits g.W.Word g.met.W.Word.some _ c.args.slot c.executed.result _ c.self.invariant can c.executed.ensures)

pub execute-requires-clause-value : goal.execute-requires-clause-value
execute-requires-clause-value g c =
    let can : InEachLane g.W.Word (λ view. CanExecute view c.args.slot) c.self.inside.bank = subst (InEachLane g.W.Word (λ view. CanExecute view c.args.slot)) (sym c.self.view_is) c.requires in
    next_answers g.W.Word g.met.W.Word.some _ c.args.slot c.executed.result _ c.self.invariant can c.executed.ensures c.answered-answer.result c.held-values.result
    (rw c.as_slice.ensures at c.answered-answer.ensures) c.held-values.ensures

pub invariant_of-self : goal.invariant_of-self
invariant_of-self g c = ready_executed g.W.Word _ c.execute.new.self c.self.invariant c.execute.ensures

pub returns-clause-value : goal.returns-clause-value
returns-clause-value g c =
    let can : InEachLane g.W.Word (λ view. CanExecute view c.args.slot) c.self.inside.bank = subst (InEachLane g.W.Word (λ view. CanExecute view c.args.slot)) (sym c.self.view_is) c.requires in
    subst (AreValues g.W.Word c.held-values.result (λ view. value_in view c.args.slot)) c.self.view_is
    (next_answers g.W.Word g.met.W.Word.some _ c.args.slot c.executed.result _ c.self.invariant can c.executed.ensures c.answered-answer.result c.held-values.result
    (rw c.as_slice.ensures at c.answered-answer.ensures) c.held-values.ensures)
