use Rattle.std.proofs.Common.{◌≡◌, take}
use Rattle.net_defs.specs.Loops.{rank_above}
use Rattle.rank_find.proofs.numbers.rank_above.Given as goal

abbrev pub invariant-loop-signal : goal.invariant-loop-signal
invariant-loop-signal l = l.greatest ≡ rank_above l.net l.rank (take l.signal-index l.signals)
