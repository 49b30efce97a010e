use Rattle.std.proofs.Common.{◌≡◌, length}
use Rattle.home_pick.proofs.uses.places_of.Given as goal

abbrev pub invariant-items : goal.invariant-items
invariant-items l = length l.places ≡ length l.takes
