use Rattle.image_lines.specs.Words.{line_text}
use Rattle.image_lines.specs.declared.line.Line.TheVariants as line
use Rattle.image_file.proofs.WritingLemmas.{WritesOn}
use Rattle.image_file.proofs.writing.push_bits.Given as goal

abbrev pub invariant-loop-bit : goal.invariant-loop-bit
invariant-loop-bit l = WritesOn (λ x. line_text (line.Bit x.0 x.1)) l.fn.text l.outs l.items l.bit-iterator l.text
