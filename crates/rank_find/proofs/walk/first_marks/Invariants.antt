use Rattle.std.proofs.Common.{◌≡◌, map, take}
use Rattle.rank_find.specs.code.Walk.{first_mark}
use Rattle.rank_find.proofs.walk.first_marks.Given as goal

abbrev pub invariant-loop-signal : goal.invariant-loop-signal
invariant-loop-signal l = record {
  so_far : l.marks ≡ map first_mark (take l.signal-index l.signal-items);
  whole : l.signal-items ≡ l.net.signals;
}
