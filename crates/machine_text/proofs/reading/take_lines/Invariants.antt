use Rattle.std.proofs.Common.{length}
use Rattle.machine_text.specs.Settings.{lines_say}
use Rattle.machine_text.proofs.GivenLemmas.{HasTaken}
use Rattle.machine_text.proofs.reading.take_lines.Given as goal

abbrev pub invariant-loop-line : goal.invariant-loop-line
invariant-loop-line l = HasTaken (lines_say l.bytes) (length l.yielded) l.line-iterator l.given
