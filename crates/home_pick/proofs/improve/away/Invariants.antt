use Rattle.std.proofs.Common.{◌≡◌, ◌≤◌, take}
use Rattle.std.specs.List.{sum_by}
use Rattle.home_pick.specs.code.Work.{away_by}
use Rattle.home_pick.proofs.improve.away.Given as goal

abbrev pub invariant-entries : goal.invariant-entries
invariant-entries l = record {
  so_far : l.count ≡ sum_by (away_by l.home) (take l.k l.bag);
  small : l.count ≤ l.k;
}
