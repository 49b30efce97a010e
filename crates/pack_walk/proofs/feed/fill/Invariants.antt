use Rattle.std.specs.Prelude.{◌≡◌, ℕ, length}
use Rattle.pack_walk.specs.code.Feeds.{AreAt, AreFed}
use Rattle.pack_walk.proofs.feed.fill.Given as goal

abbrev pub invariant-columns : goal.invariant-columns
invariant-columns l = record {
  long : length l.columns ≡ length l.fn.columns;
  fed : (n : ℕ) → AreAt l.lanes.lanes n l.cursors → AreFed l.count l.lanes n l.c l.columns;
}
