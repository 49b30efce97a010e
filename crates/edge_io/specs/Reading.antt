-- What reads do to what is left of a file, where that is told.
use Rattle.std.specs.Prelude.{◌≡◌, ℕ, ◌<◌, List, length, take, Option}
use Rattle.std.specs.Io.KnownBytes.{Consumes, IsAtEnd}

-- a read put the next n bytes at the front of the buffer `now`; none come into a buffer with room only at the end
pub record Gives (old new : Option (List ℕ)) (n : ℕ) (now : List ℕ) : Type 0 where
  pub next : Consumes old new (take n now)
  pub end : n ≡ 0 → 0 < length now → IsAtEnd old
