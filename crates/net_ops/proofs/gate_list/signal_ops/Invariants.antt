use Rattle.net_ops.specs.Schedules.{Settles}
use Rattle.net_ops.proofs.gate_list.signal_ops.Given as goal

abbrev pub invariant-signals : goal.invariant-signals
invariant-signals g l = Settles g.W.Wire.answer g.W.Wire.is_form l.net l.timing l.list l.signal-index l.ops
