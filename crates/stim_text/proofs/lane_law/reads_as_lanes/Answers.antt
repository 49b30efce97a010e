use Rattle.stim_text.proofs.LaneTextLemmas.{lanes_from_reads}
use Rattle.stim_text.proofs.lane_law.reads_as_lanes.Goals as goal

pub returns : goal.returns
returns c = lanes_from_reads
