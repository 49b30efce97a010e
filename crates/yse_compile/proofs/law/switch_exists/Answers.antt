use Rattle.yse_compile.proofs.lemmas.SwitchExists.{switch_there}
use Rattle.yse_compile.proofs.law.switch_exists.Goals as goal

pub returns : goal.returns
returns c nodes homes plan formed are fit = switch_there nodes homes plan formed are fit
