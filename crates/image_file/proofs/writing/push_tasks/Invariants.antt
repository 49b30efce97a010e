use Rattle.image_lines.specs.Words.{line_text}
use Rattle.image_lines.specs.declared.line.Line.TheVariants as line
use Rattle.image_file.proofs.WritingLemmas.{WritesOn}
use Rattle.image_file.proofs.writing.push_tasks.Given as goal

abbrev pub invariant-loop-task : goal.invariant-loop-task
invariant-loop-task l = WritesOn (λ x. line_text (line.Work x.0 x.1)) l.fn.text l.tasks l.items l.task-iterator l.text
