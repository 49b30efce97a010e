use Rattle.std.proofs.Common.{◌≡◌, ◌≢◌, ◌<◌, ℕ, true, false, length, get_or}
use Rattle.home_pick.specs.Crossings.{uses_at}
use Rattle.home_pick.proofs.spread.mark_all.Given as goal

abbrev pub invariant-items : goal.invariant-items
invariant-items l = record {
  size : length l.spread ≡ length l.fn.spread;
  each : (i port : ℕ) → i < l.i → get_or l.spread i false ≡ true → port < l.homes.logic → uses_at l._nodes l.homes i port ≢ 0;
}
