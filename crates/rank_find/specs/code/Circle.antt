-- The loop that stands at the end of a path, each member of which waits for the next and the last one
-- for the first: read against the path, from its least member on.
use Rattle.std.specs.Prelude.{◌≡◌, ℕ, ◌+◌, ◌-◌, ◌<◌, ◌≤◌, if◌then◌else◌, nat_le, List, length, slice_index}

-- the place in a path of so many gates of member i of that loop, whose members stand from one place
-- on and whose least member stands at another
abbrev pub place_of_member : ℕ → ℕ → ℕ → ℕ → ℕ
place_of_member from least to i = if nat_le (from + i) least then least - i else to + least - from - i

-- the loop has the members of the path from a place on
pub record IsCircleOn (path : List ℕ) (from least : ℕ) (loop : List ℕ) : Type 0 where
  pub members : length loop ≡ length path - from
  pub places : (i : ℕ) → i < length loop → slice_index loop i ≡ slice_index path (place_of_member from least (length path) i)

-- the place of the least member from a place on
pub record IsLeastPlace (path : List ℕ) (from least : ℕ) : Type 0 where
  pub after : from ≤ least
  pub within : least < length path
  pub below : (k : ℕ) → from ≤ k → k < length path → slice_index path least ≤ slice_index path k

-- the loop has the members of the path from the place of this gate on, and begins with the least
pub record IsCircleAt (path : List ℕ) (gate : ℕ) (loop : List ℕ) : Type 0 where
  pub from : ℕ
  pub least : ℕ
  pub within : from < length path
  pub begins : slice_index path from ≡ gate
  pub low : IsLeastPlace path from least
  pub circle : IsCircleOn path from least loop
