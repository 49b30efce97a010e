use Rattle.std.proofs.Common.{arith}
use Rattle.net_ops.proofs.{ScheduleLemmas.order_reads, SequenceLemmas.settles_more, SequenceLemmas.settles_none}
use Rattle.net_ops.proofs.gate_list.signal_ops.Goals as goal

pub push_signal-requires-clause-apart : goal.push_signal-requires-clause-apart
push_signal-requires-clause-apart g c = λ o held. order_reads c.args.net.now c.args.timing.now c.args.list.now c.requires.order c.signals.signal-index c.signals.signal-index o (omega arith) c.signals-test.true held

pub signals-init : goal.signals-init
signals-init g c = rw c.new-ops.ensures (settles_none g.W.Wire.answer g.W.Wire.is_form c.args.net.now c.args.timing.now c.args.list.now)

pub signals-preserved : goal.signals-preserved
signals-preserved g c = settles_more g.W.Wire.answer g.W.Wire.is_form _ _ c.requires.valid _ c.requires.order _ _ _ c.signals-test.true c.signals.invariant c.in_ok-push_signal.ensures
