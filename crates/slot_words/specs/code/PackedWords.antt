-- Beside specs/packed, what only private functions and proofs cite.
use Rattle.std.specs.Prelude.{◌≡◌, ℕ, ◌+◌, ◌/◌, ◌%◌, ◌^◌, None, Option, Some}
use Rattle.limits.specs.declared.TheConstants.{LANES}
use Rattle.lane_planes.specs.declared.planes.Planes.{Planes}
use Rattle.slot_words.specs.declared.pack_words.words.PackTaken.{PackTaken, TheVariants.NotYet, TheVariants.Value}

-- the planes of a word
abbrev pub IsPlanesOf : ℕ → Planes → Type 0
IsPlanesOf word planes = (planes.low ≡ word / 16 % 2 ^ LANES) × (planes.high ≡ word / 2 ^ (LANES + 4))

-- what a word that was taken gives
abbrev pub IsTakenOf : Option ℕ → PackTaken → Type 0
IsTakenOf (Some word) (Value planes) = IsPlanesOf word planes
IsTakenOf (Some word) NotYet = ⊥
IsTakenOf None (Value planes) = ⊥
IsTakenOf None NotYet = Unit {0}
