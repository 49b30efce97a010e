use Rattle.image_lines.specs.Words.{line_text}
use Rattle.image_lines.specs.declared.line.Line.TheVariants as line
use Rattle.image_file.proofs.WritingLemmas.{WritesOn}
use Rattle.image_file.proofs.writing.push_inputs.Given as goal

abbrev pub invariant-loop-input : goal.invariant-loop-input
invariant-loop-input l = WritesOn (λ x. line_text (line.Input x.0 x.1)) l.fn.text l.inputs l.items l.input-iterator l.text
