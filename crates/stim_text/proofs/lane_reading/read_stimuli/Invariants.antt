use Rattle.std.proofs.Common.{length}
use Rattle.text_lines.specs.Lines.{parts_of}
use Rattle.stim_text.proofs.LaneLoopLemmas.{HasLanes}
use Rattle.stim_text.proofs.lane_reading.read_stimuli.Given as goal

abbrev pub invariant-lines : goal.invariant-lines
invariant-lines l = HasLanes l.inputs (parts_of l.bytes) (length l.yielded) l.line-iterator l.cycles l.lanes
