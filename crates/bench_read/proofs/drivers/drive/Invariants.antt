use Rattle.std.proofs.Common.{map, take}
use Rattle.bench_read.proofs.{Common.each_named, Common.named_by, TwiceLemmas.HasDriven}
use Rattle.bench_read.proofs.drivers.drive.Given as goal

abbrev pub invariant-loop-name : goal.invariant-loop-name
invariant-loop-name l = HasDriven (map named_by l.fn.drivers) (each_named l.at (map (λ name. name.now) (take l.name-index l.driven))) l.names l.drivers
