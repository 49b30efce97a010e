use Rattle.std.proofs.Common.{◌≡◌, ◌*◌, ◌≤◌}
use Rattle.home_pick.specs.Crossings.{readers_at}
use Rattle.home_pick.proofs.SumLemmas.{total}
use Rattle.home_pick.proofs.improve.count_crossings.Given as goal

abbrev pub invariant-items : goal.invariant-items
invariant-items l = record {
  whole : l.ports ≡ l.homes.items;
  so_far : l.count ≡ total (readers_at l.nodes l.homes) l.i;
  small : l.count ≤ l.i * 256;
}
