use Rattle.std.proofs.Common.{refl}
use Rattle.trace_text.specs.Lines.{lane_line}
use Rattle.trace_text.proofs.mark.LaneMark.lane.Goals as goal

pub returns : goal.returns
unfolding lane_line
returns c = rw (c.push.ensures, c.push_number.ensures.bytes, c.push_bytes.ensures, c.clear.ensures, ← c.self.view_is) refl
