-- Calls that fail by their number.
use Rattle.std.specs.{Prelude.Bool, Prelude.◌==◌, List.list_any}
use Rattle.edge_io.specs.{Counts.raised, declared.script.Script.Script}

-- whether the next call is one of those that fail
abbrev pub next_fails : Script → Bool
next_fails s = list_any (λ number. number == raised s.calls 1) s.fails

-- the script after one more call
abbrev pub called : Script → Script
called s = record s { calls = raised s.calls 1 }
