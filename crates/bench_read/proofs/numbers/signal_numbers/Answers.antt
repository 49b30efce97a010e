use Rattle.std.proofs.Common.{append_assoc, append-nil, arith, length-append}
use Rattle.bench_read.proofs.Common.{order_by}
use Rattle.bench_read.proofs.numbers.signal_numbers.Goals as goal

pub lines-preserved : goal.lines-preserved
unfolding order_by
lines-preserved c =
    let so = rw c.in-Some.ensures.steps at c.lines.invariant in
    rw (c.in_ok-push_range-2.ensures, c.in_ok-push_range.ensures, c.input_count-own_inputs.ensures, c.other_count-own_others.ensures) (record {
      so_far = simp append_assoc so.so_far;
      few_inputs = omega (arith, simp length-append at so.few_inputs);
      few_others = omega (arith, simp length-append at so.few_others);
    })

pub returns : goal.returns
unfolding order_by
returns c = simp append-nil at (rw c.in-None.ensures.steps.0 at c.lines.invariant.so_far)

pub push_range-requires : goal.push_range-requires
push_range-requires c =
    let so = rw c.in-Some.ensures.steps at c.lines.invariant in
    omega (arith, simp length-append at so.few_inputs, c.input_count-own_inputs.ensures, c.requires.few)

pub push_range-requires-in-lines : goal.push_range-requires-in-lines
push_range-requires-in-lines c =
    let so = rw c.in-Some.ensures.steps at c.lines.invariant in
    omega (arith, simp length-append at so.few_others, c.other_count-own_others.ensures, c.requires.few)

pub overflow_add-input : goal.overflow_add-input
overflow_add-input c =
    let so = rw c.in-Some.ensures.steps at c.lines.invariant in
    omega (arith, simp length-append at so.few_inputs, c.input_count-own_inputs.ensures, c.requires.few)

pub overflow_add-other : goal.overflow_add-other
overflow_add-other c =
    let so = rw c.in-Some.ensures.steps at c.lines.invariant in
    omega (arith, simp length-append at so.few_others, c.other_count-own_others.ensures, c.requires.few)
