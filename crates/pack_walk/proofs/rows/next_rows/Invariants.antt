use Rattle.std.specs.Prelude.{◌≡◌, ℕ, length}
use Rattle.pack_walk.specs.code.Feeds.{AreAt, AreMoved}
use Rattle.pack_walk.proofs.rows.next_rows.Given as goal

abbrev pub invariant-lanes : goal.invariant-lanes
invariant-lanes l = record {
  count : length l.cursors ≡ length l.fn.cursors;
  moved : (n : ℕ) → AreAt l.lanes n l.fn.cursors → AreMoved l.lanes n l.l l.cursors;
}
