use Rattle.std.proofs.Common.{◌≡◌, ℕ, ◌<◌, length, get_or}
use Rattle.home_pick.specs.Better.{most_at}
use Rattle.home_pick.proofs.loads.most_each.Given as goal

abbrev pub invariant-ports : goal.invariant-ports
invariant-ports l = record {
  size : length l.most ≡ l.port;
  each : (p : ℕ) → p < l.port → get_or l.most p 0 ≡ most_at l.machine l.bound p;
}
