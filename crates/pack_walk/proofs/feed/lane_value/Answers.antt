use Rattle.std.proofs.Common.{sym}
use Rattle.pack_walk.proofs.FeedLemmas.{fed_given, fed_none}
use Rattle.pack_walk.proofs.feed.lane_value.Goals as goal

pub row_value-requires-clause-stimulus : goal.row_value-requires-clause-stimulus
row_value-requires-clause-stimulus c = c.requires.lanes.valid c.args.lane c.in-Some.stim.now (sym c.in-Some.ensures)

pub row_value-requires-clause-column : goal.row_value-requires-clause-column
row_value-requires-clause-column c = c.requires.lanes.wide c.args.lane c.in-Some.stim.now (sym c.in-Some.ensures)

pub returns-in-Some : goal.returns-in-Some
returns-in-Some c = λ columns n are.
    fed_given columns c.args.lanes.now n c.args.column c.args.lane c.in-Some.stim.now _ c.args.cursors.now c.row_value.result (sym c.in-Some.ensures) are c.row_value.ensures

pub returns-in-None : goal.returns-in-None
returns-in-None c = λ columns n are. fed_none columns c.args.lanes.now n c.args.column c.args.lane (sym c.in-None.ensures)
