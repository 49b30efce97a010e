use Rattle.std.proofs.Common.{◌≡◌, ◌+◌, ◌-◌, ◌≤◌, length}
use Rattle.std.specs.Io.KnownBytes.{Consumes}
use Rattle.edge_io.proofs.ReadingLemmas.{CountsSoFar}
use Rattle.edge_io.proofs.reading.read_rest.Given as goal

-- the bytes read are those given, and at least one came by each read
abbrev pub invariant-chunks : goal.invariant-chunks
invariant-chunks g l = record {
  same_names : g.F.Files.names l.files ≡ g.F.Files.names l.initial.files;
  same_bytes : g.F.Files.bytes l.files ≡ g.F.Files.bytes l.initial.files;
  gone : Consumes (g.F.Files.left l.initial.files) (g.F.Files.left l.files) l.bytes;
  counts : CountsSoFar (length l.bytes) (g.F.Files.counts l.initial.files) (g.F.Files.counts l.files);
  within : length l.bytes ≤ l.limit + 1;
}

abbrev pub decreases-chunks : goal.decreases-chunks
decreases-chunks g l = l.limit + 1 - length l.bytes
