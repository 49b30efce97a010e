use Rattle.std.proofs.Common.{◌≡◌}
use Rattle.home_pick.specs.code.Working.{IsWork}
use Rattle.home_pick.proofs.WorkLemmas.{IsPassed}
use Rattle.home_pick.proofs.moves.settle_all.Given as goal

abbrev pub invariant-passes : goal.invariant-passes
invariant-passes l = record {
  work : IsWork l.nodes l.work;
  passed : IsPassed l.nodes l.machine l.fn.work.homes l.work.homes l.before;
  logic : l.work.homes.logic ≡ l.fn.work.homes.logic;
}

abbrev pub decreases-passes : goal.decreases-passes
decreases-passes l = l.before
