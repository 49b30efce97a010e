use Rattle.std.proofs.Common.{◌<◌, length, ◌∙◌, subst, inr, arith}
use Rattle.std.proofs.lemmas.{Result.err_from_is_err_and, List.length_push}
use Rattle.std.specs.Prelude.{IfSome}
use Rattle.net_defs.specs.Valid.{IsSignal}
use Rattle.bench_read.proofs.OnceLemmas.{marked_none, marked_blank, marked_more, marked_fault, marked_all}
use Rattle.bench_read.proofs.list_reading.mark_lines.Goals as goal

pub loop-line-init : goal.loop-line-init
loop-line-init c = marked_none (c.into_iter-line-iterator.ensures.into_iter_gives ∙ c.new-line-items.ensures) c.requires.unmarked

pub loop-line-preserved : goal.loop-line-preserved
loop-line-preserved c =
    rw length_push (marked_blank c.loop-line.invariant c.in-Some.ensures.steps (rw c.as_slice.ensures at c.in_ok-gate.ensures.answers) c.in_default.is)

pub loop-line-preserved-in-Some-2 : goal.loop-line-preserved-in-Some-2
loop-line-preserved-in-Some-2 c =
    let inside : c.in-Some-2.gate < length c.args.net.now.signals = subst (λ o. IfSome o (IsSignal c.args.net.now)) c.in-Some-2.is c.in_ok-gate.ensures.within in
    rw (length_push, c.set.ensures)
    (marked_more c.loop-line.invariant c.in-Some.ensures.steps (rw c.as_slice.ensures at c.in_ok-gate.ensures.answers) c.in-Some-2.gate c.in-Some-2.is (omega (arith, inside, c.loop-line.invariant.are.count)))

pub returns-in_err-gate : goal.returns-in_err-gate
returns-in_err-gate c =
    let p = err_from_is_err_and c.from_residual.result c.from_residual.ensures.1 in
    rw (p.1, p.2) (inr (marked_fault c.loop-line.invariant c.in-Some.ensures.steps c.in_err-gate.field-0.0 (rw c.as_slice.ensures at c.in_err-gate.ensures.answers)))

pub returns : goal.returns
returns c = marked_all c.loop-line.invariant c.in-None.ensures.steps.0
