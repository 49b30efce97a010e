use Rattle.bench_read.proofs.ReadLemmas.{one_netlist, no_fault_from_reads, reads_or_fault}
use Rattle.bench_read.proofs.law.reads_or_faults.Goals as goal

pub returns : goal.returns
returns c = record {
  some = reads_or_fault;
  reader = record { one = one_netlist; no_fault = no_fault_from_reads; some = reads_or_fault };
}
