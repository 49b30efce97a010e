-- The lemma on each form.
use Rattle.cmd_words.proofs.RangeLemmas.{in_range}
use Rattle.cmd_words.proofs.law.forms_are_in_range.Goals as goal

pub returns : goal.returns
returns c = in_range
