use Rattle.std.proofs.Common.{◌≡◌}
use Rattle.std.specs.List.{range_with_len}
use Rattle.home_pick.specs.{Better.settled_from, code.Working.IsWork}
use Rattle.home_pick.proofs.moves.one_pass.Given as goal

abbrev pub invariant-nodes : goal.invariant-nodes
invariant-nodes l = record {
  work : IsWork l.nodes l.work;
  homes : l.work.homes ≡ settled_from l.nodes l.machine l.bound l.fn.work.homes (range_with_len l.nodes.first_node l.k);
  logic : l.work.homes.logic ≡ l.fn.work.homes.logic;
}
