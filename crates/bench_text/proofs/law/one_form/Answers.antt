use Rattle.bench_text.proofs.lemmas.SpellingLemmas.{one_form}
use Rattle.bench_text.proofs.law.one_form.Goals as goal

pub returns : goal.returns
returns c = one_form
