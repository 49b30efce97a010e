use Rattle.std.proofs.Common.{length}
use Rattle.text_lines.specs.Lines.{parts_of}
use Rattle.limits.specs.declared.TheConstants.{MAX_CYCLES}
use Rattle.stim_text.specs.Rows.{row_of, fault_of}
use Rattle.stim_text.proofs.ReadingLemmas.{HasRead}
use Rattle.stim_text.proofs.reading.read_rows.Given as goal

abbrev pub invariant-loop-line : goal.invariant-loop-line
invariant-loop-line l = HasRead row_of (λ row. row.times) (fault_of l.inputs) MAX_CYCLES (parts_of l.bytes) (length l.yielded) l.line-iterator l.cycles l.rows
