use Rattle.std.proofs.Common.{◌≡◌}
use Rattle.bench_read.proofs.{Common.lines_in, Common.all_used, Common.lines_at, MakingLemmas.IsMaking}
use Rattle.bench_read.specs.Netlists.{names_of, numbers}
use Rattle.bench_read.proofs.netlist.add_lines.Given as goal

abbrev pub invariant-lines : goal.invariant-lines
invariant-lines l = record {
  made : IsMaking (lines_in l.draft) (lines_at l._at-iterator) l.net;
  uses : l.left ≡ numbers (names_of (lines_in l.draft)) (all_used (lines_at l._at-iterator));
}
