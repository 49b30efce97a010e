use Rattle.std.proofs.Common.{length}
use Rattle.bench_read.proofs.OnceLemmas.{no_marks_of}
use Rattle.bench_read.proofs.list_reading.read_marks.Goals as goal

pub mark_lines-requires-clause-unmarked : goal.mark_lines-requires-clause-unmarked
mark_lines-requires-clause-unmarked c = rw (c.in_ok-marks.ensures, c.len.ensures) (no_marks_of (λ s. s) (length c.args.net.now.signals))
