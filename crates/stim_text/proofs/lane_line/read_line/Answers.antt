use Rattle.std.proofs.Common.{rules}
use Rattle.stim_text.specs.{code.LaneTexts.lane_line_of, LaneTexts.lane_fault}
use Rattle.stim_text.proofs.lane_line.read_line.Goals as goal

pub returns-then-lanes-eq0-clause-answers : goal.returns-then-lanes-eq0-clause-answers
unfolding lane_fault lane_line_of
returns-then-lanes-eq0-clause-answers c = search rules
