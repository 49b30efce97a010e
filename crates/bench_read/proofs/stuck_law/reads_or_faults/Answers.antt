use Rattle.bench_read.proofs.StuckLemmas.{one_list, none_from_reads, reads_or_fault}
use Rattle.bench_read.proofs.stuck_law.reads_or_faults.Goals as goal

pub returns : goal.returns
returns c = record {
  some = reads_or_fault;
  reader = λ net. record { one = one_list net; no_fault = none_from_reads net; some = reads_or_fault net };
}
