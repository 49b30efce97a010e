use Rattle.std.proofs.Common.{ℕ}
use Rattle.image_defs.specs.declared.image.Task.{Task}
use Rattle.image_lines.specs.Words.{line_text}
use Rattle.image_lines.specs.declared.line.Line.TheVariants as line
use Rattle.image_file.proofs.WritingLemmas.{pair_more, pairs_end}
use Rattle.image_file.proofs.writing.push_tasks.Goals as goal

pub loop-task-preserved : goal.loop-task-preserved
loop-task-preserved c = rw c.in_ok-push_task.ensures (pair_more (λ (x : Task × ℕ). line_text (line.Work x.0 x.1)) c.loop-task.text c.loop-task.task-iterator c.next.new.self c.next.result c.next.ensures.steps _ c.loop-task.invariant (c.in-Some.task, c.in-Some.item) c.in-Some.is)

pub returns : goal.returns
returns c = pairs_end (λ (x : Task × ℕ). line_text (line.Work x.0 x.1)) c.loop-task.text c.loop-task.task-iterator c.next.new.self c.next.result c.next.ensures.steps _ c.loop-task.invariant c.in-None.is
