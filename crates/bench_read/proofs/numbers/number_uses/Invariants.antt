use Rattle.std.proofs.Common.{◌≡◌, false, take}
use Rattle.bench_read.proofs.Common.{list_any, used_names, placed_in, lines_in, is_undriven, drivers_of, uses_of}
use Rattle.bench_read.specs.Netlists.{names_of, numbers}
use Rattle.bench_read.proofs.numbers.number_uses.Given as goal

abbrev pub invariant-uses : goal.invariant-uses
invariant-uses l = record {
  so_far : l.numbers ≡ numbers (names_of (lines_in l.draft)) (take l.name-index (used_names l.draft));
  driven : list_any (is_undriven (drivers_of (placed_in l.draft))) (take l.name-index (uses_of (placed_in l.draft))) ≡ false;
}
