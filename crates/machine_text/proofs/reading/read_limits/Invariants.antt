use Rattle.std.proofs.Common.{length}
use Rattle.machine_text.specs.Settings.{lines_say}
use Rattle.machine_text.proofs.KeptLemmas.{HasKept}
use Rattle.machine_text.proofs.reading.read_limits.Given as goal

abbrev pub invariant-loop-line : goal.invariant-loop-line
invariant-loop-line l = HasKept l.logic l.array (lines_say l.bytes) (length l.yielded) l.line-iterator l.own
