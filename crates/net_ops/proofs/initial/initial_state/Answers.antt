use Rattle.std.proofs.Common.{arith}
use Rattle.net_ops.proofs.StartLemmas.{first_lane, shaped_there}
use Rattle.net_ops.proofs.initial.initial_state.Goals as goal

pub returns-clause-shaped : goal.returns-clause-shaped
returns-clause-shaped g c = λ l low. shaped_there c.args.net.now c.initial_value.result c.args.lanes l c.in_ok-memories.memories c.in_ok-memories.ensures low

pub returns-clause-first : goal.returns-clause-first
returns-clause-first g c = λ l low.
    first_lane g.W.Wire.lane c.args.net.now c.args.timing.now l c.args.lanes _ (record { values = c.in_ok-values.values; memories = c.in_ok-memories.memories }) c.of.result c.initial_value.result
    c.in_ok-values.ensures (omega (arith, c.len-count.ensures)) (c.of.ensures l (omega (arith, low, c.requires.lanes))) c.in_ok-memories.ensures c.initial_value.ensures low
