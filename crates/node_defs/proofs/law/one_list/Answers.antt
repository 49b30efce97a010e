use Rattle.node_defs.proofs.SameLemmas as same
use Rattle.node_defs.proofs.law.one_list.Goals as goal

pub returns : goal.returns
returns c = record { alike = same.alike; one = same.one_list }
