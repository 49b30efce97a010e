use Rattle.stim_text.proofs.OrderLemmas.{valid_from_reads, steps-sum}
use Rattle.stim_text.proofs.order_law.reads_as_valid.Goals as goal

pub returns : goal.returns
returns c = record { valid = valid_from_reads; steps = steps-sum }
