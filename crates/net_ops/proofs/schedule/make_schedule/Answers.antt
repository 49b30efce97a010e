use Rattle.net_ops.proofs.schedule.make_schedule.Goals as goal

pub returns : goal.returns
returns g c = record { order = c.args.order.now; is_order = c.requires.order; gates = c.in_ok-gate_ops.ensures; sources = c.in_ok-sources.ensures }
