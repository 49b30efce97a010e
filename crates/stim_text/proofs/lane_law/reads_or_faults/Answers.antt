use Rattle.stim_text.proofs.LaneTextLemmas.{one_lanes, none_from_lanes, lanes_or_fault}
use Rattle.stim_text.proofs.lane_law.reads_or_faults.Goals as goal

pub returns-clause-some : goal.returns-clause-some
returns-clause-some c = lanes_or_fault

pub returns-clause-reader : goal.returns-clause-reader
returns-clause-reader c inputs = record { one = one_lanes inputs; no_fault = none_from_lanes inputs; some = lanes_or_fault inputs }
