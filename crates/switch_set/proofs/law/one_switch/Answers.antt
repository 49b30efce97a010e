use Rattle.switch_set.proofs.lemmas.SameLemmas.{switches_agree}
use Rattle.switch_set.proofs.law.one_switch.Goals as goal

pub returns : goal.returns
returns c nodes homes slots one other first second = switches_agree nodes homes slots one other first second
