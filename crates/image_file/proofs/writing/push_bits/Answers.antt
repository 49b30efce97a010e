use Rattle.std.proofs.Common.{ℕ}
use Rattle.image_defs.specs.declared.image.OutBit.{OutBit}
use Rattle.image_lines.specs.Words.{line_text}
use Rattle.image_lines.specs.declared.line.Line.TheVariants as line
use Rattle.image_file.proofs.WritingLemmas.{pair_more, pairs_end}
use Rattle.image_file.proofs.writing.push_bits.Goals as goal

pub loop-bit-preserved : goal.loop-bit-preserved
loop-bit-preserved c = rw c.in_ok-push_bit.ensures (pair_more (λ (x : OutBit × ℕ). line_text (line.Bit x.0 x.1)) c.loop-bit.text c.loop-bit.bit-iterator c.next.new.self c.next.result c.next.ensures.steps _ c.loop-bit.invariant (c.in-Some.bit, c.in-Some.item) c.in-Some.is)

pub returns : goal.returns
returns c = pairs_end (λ (x : OutBit × ℕ). line_text (line.Bit x.0 x.1)) c.loop-bit.text c.loop-bit.bit-iterator c.next.new.self c.next.result c.next.ensures.steps _ c.loop-bit.invariant c.in-None.is
