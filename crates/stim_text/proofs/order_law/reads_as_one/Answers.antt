use Rattle.stim_text.proofs.OrderLemmas.{one_order, none_from_reads}
use Rattle.stim_text.proofs.order_law.reads_as_one.Goals as goal

pub returns : goal.returns
returns c = record { one = one_order; no_fault = none_from_reads }
