use Rattle.fault_sim.proofs.OneList as lists
use Rattle.fault_sim.proofs.one_list.Goals as goal

pub returns : goal.returns
returns c = record { one = lists.one_list; all = lists.all_are }
