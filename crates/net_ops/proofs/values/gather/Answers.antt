use Rattle.std.proofs.Common.{◌∙◌, ◌+◌, ap, get_or, set, arith}
use Rattle.logic_four.specs.declared.V4.TheVariants.{Undef}
use Rattle.net_defs.specs.Time.{value_at}
use Rattle.net_ops.specs.Lanes.{lane_row}
use Rattle.net_ops.proofs.{LaneLemmas.lane_at, lemmas.Writes.map_over}
use Rattle.net_ops.proofs.values.gather.Goals as goal

pub loop-k-preserved : goal.loop-k-preserved
loop-k-preserved g c =
    let lane = g.W.Wire.lane in
    let k = c.loop-k.k in
    let place = c.args.base + get_or c.args.signals.now k 0 in
    let read = c.at.ensures ∙ lane_at lane c.args.row.now place c.args.l c.index-row-base.result c.index-row-base.is (c.requires.places k 0 c.loop-k-test.true) in
    let step = map_over (λ s. value_at (lane_row lane c.args.l c.args.row.now) (c.args.base + s)) c.args.signals.now c.args.list.now k 0 Undef c.loop-k-test.true (omega (arith, c.loop-k-test.true, c.requires.long)) in
    ap (set c.loop-k.list k) read ∙ (ap (λ list. set list k (value_at (lane_row lane c.args.l c.args.row.now) place)) c.loop-k.invariant ∙ step)
