use Rattle.std.proofs.Common.{length, ◌-◌}
use Rattle.bench_text.proofs.PlaceLemmas.{HasScanned}
use Rattle.bench_text.proofs.scan.check.Given as goal

abbrev pub invariant-places : goal.invariant-places
invariant-places l = HasScanned l.bytes l.i l.scan

abbrev pub decreases-places : goal.decreases-places
decreases-places l = length l.bytes - l.i
