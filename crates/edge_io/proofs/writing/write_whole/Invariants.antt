use Rattle.std.proofs.Common.{◌≡◌, ◌-◌, ◌≤◌, length, take}
use Rattle.std.specs.Io.KnownBytes.{append_known}
use Rattle.edge_io.specs.Counts.{raised}
use Rattle.edge_io.proofs.writing.write_whole.Given as goal

-- the first `done` bytes of the piece were taken, and at least one by each write
abbrev pub invariant-writes : goal.invariant-writes
invariant-writes g l = record {
  within : l.done ≤ length l.piece;
  taken : g.S.Sink.taken l.sink ≡ append_known (g.S.Sink.taken l.initial.sink) (take l.done l.piece);
  untouched : l.done ≡ 0 → l.sink ≡ l.initial.sink;
  faults_kept : g.S.Sink.faults l.initial.sink ≤ g.S.Sink.faults l.sink;
  writes : g.S.Sink.writes l.sink ≤ raised (g.S.Sink.writes l.initial.sink) l.done;
}

abbrev pub decreases-writes : goal.decreases-writes
decreases-writes g l = length l.piece - l.done
