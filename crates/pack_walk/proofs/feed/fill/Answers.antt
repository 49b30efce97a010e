use Rattle.std.proofs.{Common.◌∙◌, Common.refl, Common.arith, lemmas.List.length-set}
use Rattle.pack_walk.proofs.FeedLemmas.{have_column, fed_more}
use Rattle.pack_walk.proofs.feed.fill.Goals as goal

pub columns-init : goal.columns-init
columns-init c = record { long = refl; fed = λ n are k column low at. absurd (omega (arith, low)) }

pub column_value-requires-clause-lanes : goal.column_value-requires-clause-lanes
column_value-requires-clause-lanes c = have_column c.args.count c.columns.c c.args.lanes.now c.requires.lanes c.columns-test.true

pub columns-preserved : goal.columns-preserved
columns-preserved c = record {
  long = rw c.set.ensures (length-set c.columns.columns c.columns.c c.column_value.result ∙ c.columns.invariant.long);
  fed = λ n are. rw c.set.ensures (fed_more c.args.count c.args.lanes.now n c.columns.c c.columns.columns c.column_value.result (c.columns.invariant.fed n are) (c.column_value.ensures c.args.count n are));
}
