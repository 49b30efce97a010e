use Rattle.std.proofs.Common.{◌≡◌, ◌*◌, ◌≤◌, [], length, get_or}
use Rattle.std.specs.List.{sum_by, range_with_len}
use Rattle.plan_text.proofs.crossing.crossings.Given as goal

abbrev pub invariant-items : goal.invariant-items
invariant-items l = record {
  so_far : l.count ≡ sum_by (λ i. length (get_or l.readers.lists i [])) (range_with_len 0 l.i);
  small : l.count ≤ l.i * 256;
}
