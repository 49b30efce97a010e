use Rattle.port_host.proofs.RowLemmas.{cycle_done}
use Rattle.port_host.proofs.law.cycle_is_done.Goals as goal

pub returns : goal.returns
returns c = λ view cycle some last. cycle_done view cycle some last
