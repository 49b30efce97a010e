use Rattle.std.proofs.Common.{◌≡◌, ◌+◌, ◌≤◌, ◌<◌, ◌^◌, ◌++◌, length}
use Rattle.bench_read.proofs.Common.{flat_map, lines_in, order_by, lines_at, input_names, other_names}
use Rattle.bench_read.proofs.numbers.signal_numbers.Given as goal

abbrev pub invariant-lines : goal.invariant-lines
invariant-lines l = record {
  so_far : l.order ++ order_by l.input l.other (lines_at l._at-iterator) ≡ order_by 0 l.inputs (lines_in l.draft);
  few_inputs : l.input + length (flat_map input_names (lines_at l._at-iterator)) ≤ l.inputs;
  few_others : l.other + length (flat_map other_names (lines_at l._at-iterator)) < 2 ^ 32;
}
