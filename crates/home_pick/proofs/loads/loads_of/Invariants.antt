use Rattle.std.proofs.Common.{◌≡◌, ℕ, ◌<◌, length, get_or}
use Rattle.plan_defs.specs.Picks.{nodes_before}
use Rattle.home_pick.proofs.loads.loads_of.Given as goal

abbrev pub invariant-nodes : goal.invariant-nodes
invariant-nodes l = record {
  whole : l.ports ≡ l.homes.items;
  size : length l.loads ≡ l.homes.logic;
  each : (p : ℕ) → p < length l.loads → get_or l.loads p 0 ≡ nodes_before l.nodes l.ports l.k p;
}
