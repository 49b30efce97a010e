use Rattle.node_map.specs.code.Wires.{operands_of}
use Rattle.node_map.proofs.MadeNodeLemmas.{four_feeds}
use Rattle.node_map.proofs.nodes.feeds.Goals as goal

pub returns : goal.returns
returns c =
    four_feeds c.args.numbering.now.names c.args.late c.args.signal (operands_of c.args.net.now c.args.signal) c.args.group
    (record { a = c.feed_in-a.result; b = c.feed_in-b.result; c = c.feed_in-c.result; d = c.feed_in-d.result }) c.requires.few
    c.feed_in-a.ensures.used c.feed_in-a.ensures.unused c.feed_in-b.ensures.used c.feed_in-b.ensures.unused
    c.feed_in-c.ensures.used c.feed_in-c.ensures.unused c.feed_in-d.ensures.used c.feed_in-d.ensures.unused
