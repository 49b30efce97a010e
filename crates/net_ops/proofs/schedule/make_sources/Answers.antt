use Rattle.net_ops.proofs.ScheduleLemmas.{sources_none}
use Rattle.net_ops.proofs.schedule.make_sources.Goals as goal

pub signals-init : goal.signals-init
signals-init c = rw c.new-sources.ensures (sources_none c.args.net.now)
