use Rattle.std.proofs.lemmas.Bool.{lt-ltb, ltb-true}
use Rattle.port_walk.proofs.readers.lags.Goals as goal

pub returns : goal.returns
returns c = (ltb-true _ _, lt-ltb _ _)
