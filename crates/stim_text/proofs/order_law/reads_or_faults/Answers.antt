use Rattle.stim_text.proofs.OrderLemmas.{one_order, none_from_reads, reads_or_fault}
use Rattle.stim_text.proofs.order_law.reads_or_faults.Goals as goal

pub returns : goal.returns
returns c = record {
  some = reads_or_fault;
  reader = λ ports. record { one = one_order ports; no_fault = none_from_reads ports; some = reads_or_fault ports };
}
