use Rattle.std.proofs.Common.{ℕ, ◌<◌}
use Rattle.image_defs.specs.Claimed.{lists_of, PlaceMatches}
use Rattle.image_check.proofs.places.first_place.Given as goal

abbrev pub invariant-ports : goal.invariant-ports
invariant-ports l = (p slot : ℕ) → p < l.p → PlaceMatches l.file.image (lists_of l.file.claims) l.nodes p slot
