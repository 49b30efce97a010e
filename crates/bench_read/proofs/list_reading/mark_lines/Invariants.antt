use Rattle.std.proofs.Common.{length}
use Rattle.text_lines.specs.Lines.{parts_of}
use Rattle.bench_read.specs.GateLists.{gate_of, fault_of}
use Rattle.bench_read.proofs.OnceLemmas.{HasMarked}
use Rattle.bench_read.proofs.list_reading.mark_lines.Given as goal

abbrev pub invariant-loop-line : goal.invariant-loop-line
invariant-loop-line l = HasMarked (λ s. s) (gate_of l.net) (fault_of l.net) (length l.net.signals) (parts_of l.bytes) (length l.yielded) l.line-iterator l.marks
