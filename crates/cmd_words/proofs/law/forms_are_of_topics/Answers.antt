-- The lemma on each form.
use Rattle.cmd_words.proofs.FormLemmas.{of_command}
use Rattle.cmd_words.proofs.law.forms_are_of_topics.Goals as goal

pub returns : goal.returns
returns c = of_command
