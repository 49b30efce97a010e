use Rattle.std.proofs.{Common.sym, Common.◌∙◌, Common.inr, lemmas.Result.err_from_is_err_and, lemmas.List.length_push}
use Rattle.text_lines.proofs.FaultLemmas.{fault_or_err, fault_or_ok}
use Rattle.stim_text.specs.{declared.order.OrderLine.OrderLine, OrderLines.line_of, OrderLines.fault_of}
use Rattle.limits.specs.declared.TheConstants.{MAX_STEPS}
use Rattle.stim_text.proofs.ReadingLemmas.{read_none, read_more, read_blank, read_fault, read_all, room_for}
use Rattle.stim_text.proofs.order_reading.read_lines.Goals as goal

pub loop-line-init : goal.loop-line-init
loop-line-init c = rw c.new-lines.ensures (read_none (c.into_iter-line-iterator.ensures.into_iter_gives ∙ c.new-line-items.ensures))

pub loop-line-preserved : goal.loop-line-preserved
loop-line-preserved c =
    let answer = fault_or_ok (fault_of c.args.ports c.loop-line.steps c.in-Some.line c.in-Some.part.now) (line_of c.in-Some.part.now) _ c.in_ok-order_line.ensures.answers in
    rw length_push (read_blank c.loop-line.invariant c.in-Some.ensures.steps answer.0 (sym c.in_default.is ∙ answer.1))

pub loop-line-preserved-in-Continue-branch-3 : goal.loop-line-preserved-in-Continue-branch-3
loop-line-preserved-in-Continue-branch-3 c =
    let answer = fault_or_ok (fault_of c.args.ports c.loop-line.steps c.in-Some.line c.in-Some.part.now) (line_of c.in-Some.part.now) _ c.in_ok-order_line.ensures.answers in
    let fits = room_for (λ (line : OrderLine). line.times) _ MAX_STEPS _ c.in-Some-2.order_line c.in-Some-2.is c.in_ok-order_line.ensures.fits in
    rw (length_push, c.in_ok-push.ensures.ok, c.steps_with-steps.ensures)
    (read_more c.loop-line.invariant c.in-Some.ensures.steps answer.0 c.in-Some-2.order_line (sym c.in-Some-2.is ∙ answer.1) fits)

pub returns-in_err-order_line : goal.returns-in_err-order_line
returns-in_err-order_line c =
    let p = err_from_is_err_and c.from_residual.result c.from_residual.ensures.1 in
    rw (p.1, p.2) (inr (read_fault c.loop-line.invariant c.in-Some.ensures.steps c.in_err-order_line.field-0.0 (fault_or_err _ _ _ c.in_err-order_line.ensures.answers)))

pub returns : goal.returns
returns c = read_all c.loop-line.invariant c.in-None.ensures.steps.0
