-- The lemmas both ways.
use Rattle.cmd_words.proofs.FormLemmas.{asked_from, form_from}
use Rattle.cmd_words.proofs.law.forms_are_asked.Goals as goal

pub returns : goal.returns
returns c = λ words command. (form_from words command, asked_from words command)
