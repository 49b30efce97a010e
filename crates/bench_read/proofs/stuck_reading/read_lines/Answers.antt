use Rattle.std.proofs.Common.{◌+◌, ◌++◌, ◌∷◌, [], ◌*◌, ◌≡◌, List, false, length, sym, ap, ◌∙◌, subst, inr, arith, append-nil, replicate}
use Rattle.std.proofs.lemmas.{Result.err_from_is_err_and, List.length_push}
use Rattle.std.specs.Prelude.{IfSome, Some, None}
use Rattle.net_defs.specs.{declared.faults.Fault.Fault, Valid.IsFault}
use Rattle.bench_read.specs.{StuckLists.number_of, StuckLists.stuck_in, code.StuckLists.AreStuckMarks}
use Rattle.bench_read.proofs.OnceLemmas.{all_passed, marked_none, marked_blank, marked_more, marked_fault, marked_all, no_marks_of, passed_more}
use Rattle.bench_read.proofs.StuckLemmas.{number_within}
use Rattle.bench_read.proofs.stuck_reading.read_lines.Goals as goal

pub loop-line-init : goal.loop-line-init
loop-line-init c =
    let net = c.args.net.now in
    let places = length net.signals + length net.signals in
    let twice : 2 * c.len.result ≡ places = omega (arith, c.len.ensures) in
    record {
      so_far = c.new-faults.ensures;
      marked = marked_none (c.into_iter-line-iterator.ensures.into_iter_gives ∙ c.new-line-items.ensures)
          (subst (AreStuckMarks net []) (sym (c.in_ok-marks.ensures ∙ ap (λ n. replicate n false) twice)) (no_marks_of number_of places));
    }

pub loop-line-preserved : goal.loop-line-preserved
loop-line-preserved c =
    let so = c.loop-line.invariant in
    let comes = c.in-Some.ensures.steps in
    let says = rw c.as_slice.ensures at c.in_ok-stuck.ensures.answers in
    rw length_push (record {
      so_far = so.so_far ∙ sym (passed_more so.marked comes says None c.in_default.is ∙ append-nil _);
      marked = marked_blank so.marked comes says c.in_default.is;
    })

pub loop-line-preserved-in-Continue-branch-4 : goal.loop-line-preserved-in-Continue-branch-4
loop-line-preserved-in-Continue-branch-4 c =
    let so = c.loop-line.invariant in
    let comes = c.in-Some.ensures.steps in
    let says = rw c.as_slice.ensures at c.in_ok-stuck.ensures.answers in
    let stuck = c.in-Some-2.stuck in
    let inside : IsFault c.args.net.now stuck = subst (λ o. IfSome o (IsFault c.args.net.now)) c.in-Some-2.is c.in_ok-stuck.ensures.faults in
    rw (length_push, c.set.ensures, c.number_of.ensures) (record {
      so_far = c.in_ok-push.ensures.ok ∙ ap (λ (faults : List Fault). faults ++ stuck ∷ []) so.so_far ∙ sym (passed_more so.marked comes says (Some stuck) c.in-Some-2.is);
      marked = marked_more so.marked comes says stuck c.in-Some-2.is (omega (arith, number_within c.args.net.now stuck inside, so.marked.are.count));
    })

pub returns-in_err-stuck : goal.returns-in_err-stuck
returns-in_err-stuck c =
    let p = err_from_is_err_and c.from_residual-in_err-stuck.result c.from_residual-in_err-stuck.ensures.1 in
    rw (p.1, p.2) (inr (marked_fault c.loop-line.invariant.marked c.in-Some.ensures.steps c.in_err-stuck.field-0.0 (rw c.as_slice.ensures at c.in_err-stuck.ensures.answers)))

pub returns : goal.returns
returns c =
    let so = c.loop-line.invariant in
    let none = c.in-None.ensures.steps.0 in
    ((marked_all so.marked none).0, so.so_far ∙ ap (stuck_in c.args.net.now) (all_passed so.marked none))
