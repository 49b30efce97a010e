use Rattle.plan_text.proofs.lemmas.OneLemmas.{crossings_agree}
use Rattle.plan_text.proofs.law.one_crossing_count.Goals as goal

pub returns : goal.returns
returns c = crossings_agree
