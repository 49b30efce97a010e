use Rattle.std.proofs.Common.{◌≡◌, length}
use Rattle.home_pick.proofs.uses.count_places.Given as goal

abbrev pub invariant-taken : goal.invariant-taken
invariant-taken l = length l.places ≡ length l.fn.places
