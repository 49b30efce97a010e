use Rattle.large_run.proofs.ItemLemmas as items
use Rattle.large_run.proofs.law.few_items.Goals as goal

pub returns : goal.returns
returns c gates timing nodes few are = items.few_items gates timing nodes few are
