use Rattle.std.proofs.Common.{ℕ, ◌<◌}
use Rattle.image_check.specs.code.Differences.{PrintsAt}
use Rattle.image_check.proofs.places.first_unprinted.Given as goal

abbrev pub invariant-columns : goal.invariant-columns
invariant-columns l = (k : ℕ) → k < l.j → PrintsAt l.one l.printed l.items k
