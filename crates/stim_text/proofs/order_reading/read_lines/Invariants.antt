use Rattle.std.proofs.Common.{length}
use Rattle.text_lines.specs.Lines.{parts_of}
use Rattle.limits.specs.declared.TheConstants.{MAX_STEPS}
use Rattle.stim_text.specs.OrderLines.{line_of, fault_of}
use Rattle.stim_text.proofs.ReadingLemmas.{HasRead}
use Rattle.stim_text.proofs.order_reading.read_lines.Given as goal

abbrev pub invariant-loop-line : goal.invariant-loop-line
invariant-loop-line l = HasRead line_of (λ line. line.times) (fault_of l.ports) MAX_STEPS (parts_of l.bytes) (length l.yielded) l.line-iterator l.steps l.lines
