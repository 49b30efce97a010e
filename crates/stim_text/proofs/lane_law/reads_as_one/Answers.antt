use Rattle.stim_text.proofs.LaneTextLemmas.{none_from_lanes}
use Rattle.stim_text.proofs.lane_law.reads_as_one.Goals as goal

pub returns-clause-no_fault : goal.returns-clause-no_fault
returns-clause-no_fault c = none_from_lanes
