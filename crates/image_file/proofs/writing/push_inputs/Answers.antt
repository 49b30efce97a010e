use Rattle.std.proofs.Common.{ℕ}
use Rattle.image_defs.specs.declared.image.InColumn.{InColumn}
use Rattle.image_lines.specs.Words.{line_text}
use Rattle.image_lines.specs.declared.line.Line.TheVariants as line
use Rattle.image_file.proofs.WritingLemmas.{pair_more, pairs_end}
use Rattle.image_file.proofs.writing.push_inputs.Goals as goal

pub loop-input-preserved : goal.loop-input-preserved
loop-input-preserved c = rw c.in_ok-push_input.ensures (pair_more (λ (x : InColumn × ℕ). line_text (line.Input x.0 x.1)) c.loop-input.text c.loop-input.input-iterator c.next.new.self c.next.result c.next.ensures.steps _ c.loop-input.invariant (c.in-Some.input, c.in-Some.item) c.in-Some.is)

pub returns : goal.returns
returns c = pairs_end (λ (x : InColumn × ℕ). line_text (line.Input x.0 x.1)) c.loop-input.text c.loop-input.input-iterator c.next.new.self c.next.result c.next.ensures.steps _ c.loop-input.invariant c.in-None.is
