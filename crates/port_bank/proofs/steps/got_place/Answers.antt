use Rattle.std.proofs.Common.{refl}
use Rattle.port_bank.proofs.steps.got_place.Goals as goal

pub returns : goal.returns
returns c = refl
