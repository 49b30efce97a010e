-- What calls do to the counts of a sink.
use Rattle.std.specs.Prelude.{Bool}
use Rattle.edge_io.specs.{Counts.raised, Counts.raised_if, declared.counts.SinkCounts.SinkCounts}

-- before the first call
abbrev pub no_writes : SinkCounts
no_writes = record { faults = 0; writes = 0 }

-- after a `write`, which failed or not
abbrev pub after_write : SinkCounts → Bool → SinkCounts
after_write c failed = record c { writes = raised c.writes 1; faults = raised_if failed c.faults }
