use Rattle.stim_text.proofs.lemmas.LaneLemmas.{lane_valid, lane_columns, lane_cycles, lane_turns, lane_input}
use Rattle.stim_text.proofs.lane_law.runs_with_all.Goals as goal

pub returns-clause-valid : goal.returns-clause-valid
returns-clause-valid c = lane_valid

pub returns-clause-columns : goal.returns-clause-columns
returns-clause-columns c = lane_columns

pub returns-clause-cycles : goal.returns-clause-cycles
returns-clause-cycles c = lane_cycles

pub returns-clause-turns : goal.returns-clause-turns
returns-clause-turns c = lane_turns

pub returns-clause-inputs : goal.returns-clause-inputs
returns-clause-inputs c = lane_input
