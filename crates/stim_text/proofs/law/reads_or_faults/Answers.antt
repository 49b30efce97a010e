use Rattle.stim_text.proofs.LawLemmas.{one_stimulus, none_from_reads, reads_or_fault}
use Rattle.stim_text.proofs.law.reads_or_faults.Goals as goal

pub returns : goal.returns
returns c = record {
  some = reads_or_fault;
  reader = λ inputs. record { one = one_stimulus inputs; no_fault = none_from_reads inputs; some = reads_or_fault inputs };
}
