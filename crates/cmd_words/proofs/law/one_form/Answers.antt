-- What has two forms asks for both commands, and words ask for one.
use Rattle.cmd_words.proofs.FormLemmas.{one_form}
use Rattle.cmd_words.proofs.law.one_form.Goals as goal

pub returns : goal.returns
returns c = one_form
