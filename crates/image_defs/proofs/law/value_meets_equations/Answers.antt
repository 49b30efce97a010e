use Rattle.image_defs.proofs.lemmas.ValueLemmas as values
use Rattle.image_defs.proofs.law.value_meets_equations.Goals as goal

pub returns : goal.returns
returns c image stimulus fits = values.value_meets image stimulus fits
