-- What the check of an image that comes from elsewhere says.
use Rattle.std.specs.Prelude.{◌≡◌, ◌≢◌, ◌⊎◌, ℕ, Result, Ok, Err}
use Rattle.net_defs.specs.declared.timing.Timing.{Timing}
use Rattle.node_defs.specs.declared.items.NodeNet.{NodeNet}
use Rattle.image_defs.specs.Claimed.{lists_of, HasTiming, PlaceMatches, IsFirstPlace, IsFirstColumn}
use Rattle.image_defs.specs.{WellFormed.IsWellFormed, Matches.Matches, declared.file.ImageFile.ImageFile}
use Rattle.image_check.specs.declared.check.CheckNo.{CheckNo}
use Rattle.image_check.specs.declared.check.CheckNo.TheVariants as no

-- each answer by what it says of the image; the cases but that of memory exclude one another
abbrev pub Says : ImageFile → NodeNet → Timing → Result (Unit {0}) CheckNo → Type 0
Says file nodes timing (Ok done) = IsWellFormed file.image × Matches file.image (lists_of file.claims) nodes timing
Says file nodes timing (Err no.Form) = IsWellFormed file.image → ⊥
Says file nodes timing (Err no.Timing) = IsWellFormed file.image × (HasTiming file.image nodes timing → ⊥)
Says file nodes timing (Err (no.Place p slot)) =
    IsWellFormed file.image × HasTiming file.image nodes timing × IsFirstPlace file.image (lists_of file.claims) nodes p slot
Says file nodes timing (Err (no.Column j)) =
    IsWellFormed file.image × HasTiming file.image nodes timing
    × ((p slot : ℕ) → PlaceMatches file.image (lists_of file.claims) nodes p slot) × IsFirstColumn file.image (lists_of file.claims) nodes j
Says file nodes timing (Err no.Memory) = Unit {0}

-- two answers of the check of this image, neither of them want of memory, are the same
abbrev pub HasOneAnswer : ImageFile → NodeNet → Timing → Type 0
HasOneAnswer file nodes timing =
    (one other : Result (Unit {0}) CheckNo) → one ≢ Err no.Memory → other ≢ Err no.Memory → Says file nodes timing one → Says file nodes timing other → one ≡ other

-- the image is accepted, or there was not enough memory to check it
abbrev pub IsOkOrMemory : Result (Unit {0}) CheckNo → Type 0
IsOkOrMemory (Ok done) = Unit {0}
IsOkOrMemory (Err why) = why ≡ no.Memory

-- the image is accepted, or there is a refusal of it, which is no want of memory
abbrev pub HasAnswer : ImageFile → NodeNet → Timing → Type 0
HasAnswer file nodes timing =
    Says file nodes timing (Ok tt) ⊎ ((why : CheckNo) × (why ≢ no.Memory) × Says file nodes timing (Err why))
