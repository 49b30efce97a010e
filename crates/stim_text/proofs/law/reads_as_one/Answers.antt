use Rattle.stim_text.proofs.LawLemmas.{one_stimulus, none_from_reads}
use Rattle.stim_text.proofs.law.reads_as_one.Goals as goal

pub returns : goal.returns
returns c = record { one = one_stimulus; no_fault = none_from_reads }
