use Rattle.std.proofs.Common.{◌<◌, arith, length, subst, sym}
use Rattle.image_defs.specs.Ports.{CanExecute, value_in}
use Rattle.port_bank.specs.Words.{InEachLane, AreValues}
use Rattle.port_logic.proofs.TaskLemmas.{next_slot_low, next_low, next_fits, next_answers}
use Rattle.port_logic.proofs.port.LogicPort.execute.Goals as goal

pub offset_bounds-as_slice-executed : goal.offset_bounds-as_slice-executed
offset_bounds-as_slice-executed g c =
    let a = c.self.inside in
    let can = subst (InEachLane g.W.Word (λ view. CanExecute view c.args.slot)) (sym c.self.view_is) c.requires in
    let low : a.bank.executed < length a.ops = next_low g.W.Word.lanes g.met.W.Word.some g.W.Word.lane g.W.Word.stimulus g.W.Word.is_pair g.W.Word.is_form a.bank a.tables.now a.tasks.now a.ops c.self.invariant c.args.slot can in
    rw (c.as_slice.ensures, c.executed.ensures) (omega (arith, low))

pub bounds-as_slice-executed : goal.bounds-as_slice-executed
bounds-as_slice-executed g c =
    let a = c.self.inside in
    let can = subst (InEachLane g.W.Word (λ view. CanExecute view c.args.slot)) (sym c.self.view_is) c.requires in
    rw (c.as_slice.ensures, c.executed.ensures) (next_low g.W.Word.lanes g.met.W.Word.some g.W.Word.lane g.W.Word.stimulus g.W.Word.is_pair g.W.Word.is_form a.bank a.tables.now a.tasks.now a.ops c.self.invariant c.args.slot can)

pub answer-value-requires-clause-slot : goal.answer-value-requires-clause-slot
answer-value-requires-clause-slot g c =
    let a = c.self.inside in
    let can = subst (InEachLane g.W.Word (λ view. CanExecute view c.args.slot)) (sym c.self.view_is) c.requires in
    next_slot_low g.W.Word.lanes g.met.W.Word.some g.W.Word.lane g.W.Word.stimulus g.W.Word.is_pair g.W.Word.is_form a.bank a.tables.now a.tasks.now a.ops c.self.invariant c.args.slot can

pub answer-value-requires-clause-fits : goal.answer-value-requires-clause-fits
answer-value-requires-clause-fits g c =
    let a = c.self.inside in
    let can = subst (InEachLane g.W.Word (λ view. CanExecute view c.args.slot)) (sym c.self.view_is) c.requires in
    next_fits g.W.Word.lanes g.met.W.Word.some g.W.Word.lane g.W.Word.stimulus g.W.Word.is_pair g.W.Word.is_form a.bank a.tables.now a.tasks.now a.ops c.self.invariant c.args.slot can _ _ (rw (c.as_slice.ensures, c.executed.ensures) at c.index-as_slice-executed.is)

pub execute-requires-clause-can : goal.execute-requires-clause-can
execute-requires-clause-can g c = subst (InEachLane g.W.Word (λ view. CanExecute view c.args.slot)) (sym c.self.view_is) c.requires

pub execute-requires-clause-value : goal.execute-requires-clause-value
execute-requires-clause-value g c =
    let a = c.self.inside in
    let can = subst (InEachLane g.W.Word (λ view. CanExecute view c.args.slot)) (sym c.self.view_is) c.requires in
    next_answers g.W.Word.lanes g.met.W.Word.some g.W.Word.lane g.W.Word.stimulus g.W.Word.is_pair g.W.Word.is_form a.bank a.tables.now a.tasks.now a.ops c.self.invariant c.args.slot can _ _ c.answer-value.result (rw (c.as_slice.ensures, c.executed.ensures) at c.index-as_slice-executed.is) c.answer-value.ensures

pub returns-clause-value : goal.returns-clause-value
returns-clause-value g c =
    let a = c.self.inside in
    let can = subst (InEachLane g.W.Word (λ view. CanExecute view c.args.slot)) (sym c.self.view_is) c.requires in
    subst (AreValues g.W.Word c.answer-value.result (λ view. value_in view c.args.slot)) c.self.view_is
    (next_answers g.W.Word.lanes g.met.W.Word.some g.W.Word.lane g.W.Word.stimulus g.W.Word.is_pair g.W.Word.is_form a.bank a.tables.now a.tasks.now a.ops c.self.invariant c.args.slot can _ _ c.answer-value.result (rw (c.as_slice.ensures, c.executed.ensures) at c.index-as_slice-executed.is) c.answer-value.ensures)
