use Rattle.std.proofs.Common.{arith}
use Rattle.node_map.proofs.ItemLemmas.{stand_more, stand_all}
use Rattle.node_map.proofs.items.stand_for.Goals as goal

pub signals-preserved : goal.signals-preserved
signals-preserved c =
    rw c.in_ok-push.ensures.ok (stand_more c.args.numbering.now.names c.args.signals.now c.signals.signal-index c.signals.numbers c.own_item.result c.signals.invariant
    (c.own_item.ensures c.args.net.now c.requires.numbered (c.requires.there c.signals.signal-index 0 c.signals-test.true)))

pub returns : goal.returns
returns c = stand_all c.args.numbering.now.names c.args.signals.now c.signals.signal-index c.signals.numbers (omega (arith, c.signals-test.false, c.signals.auto.signal-index-end)) c.signals.invariant
