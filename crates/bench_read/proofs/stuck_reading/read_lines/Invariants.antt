use Rattle.std.proofs.Common.{◌≡◌, ◌+◌, length, take}
use Rattle.text_lines.specs.Lines.{parts_of}
use Rattle.bench_read.specs.StuckLists.{fault_of, number_of, stuck_in, stuck_of}
use Rattle.bench_read.proofs.OnceLemmas.{HasMarked}
use Rattle.bench_read.proofs.stuck_reading.read_lines.Given as goal

abbrev pub invariant-loop-line : goal.invariant-loop-line
invariant-loop-line l = record {
  so_far : l.faults ≡ stuck_in l.net (take (length l.yielded) (parts_of l.bytes));
  marked : HasMarked number_of (stuck_of l.net) (fault_of l.net) (length l.net.signals + length l.net.signals) (parts_of l.bytes) (length l.yielded) l.line-iterator l.marks;
}
