use Rattle.std.proofs.Common.{◌≡◌}
use Rattle.std.specs.{Prelude.filter, Prelude.slice_index_or, Prelude.false, List.range_with_len}
use Rattle.bench_read.proofs.list_reading.marked.Given as goal

abbrev pub invariant-loop-place : goal.invariant-loop-place
invariant-loop-place l = l.places ≡ filter (λ s. slice_index_or l.marks s false) (range_with_len 0 l.place)
