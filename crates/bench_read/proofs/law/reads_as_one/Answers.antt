use Rattle.bench_read.proofs.ReadLemmas.{one_netlist, no_fault_from_reads}
use Rattle.bench_read.proofs.law.reads_as_one.Goals as goal

pub returns : goal.returns
returns c = record { one = one_netlist; no_fault = no_fault_from_reads }
