-- The readers of all sends of a port, in one list.
use Rattle.std.specs.Prelude.{◌≡◌, ℕ, ◌+◌, ◌*◌, ◌<◌, ◌≤◌, List, length, Some, slice_get, slice_index_or, slice_range}
use Rattle.limits.specs.declared.TheConstants.{MAX_PORTS}
use Rattle.image_defs.specs.declared.image.LinkOut.{LinkOut}
use Rattle.port_walk.specs.declared.readers.Readers.{Readers}

-- from one place to before another stands this row
pub record IsRow (all : List ℕ) (from to : ℕ) (row : List ℕ) : Type 0 where
  pub order : from ≤ to
  pub within : to ≤ length all
  pub is : slice_range all from to ≡ row

-- where the readers of send number i begin
abbrev pub start_of : Readers → ℕ → ℕ
start_of readers i = slice_index_or readers.starts i 0

-- these are the readers of the first n sends
pub record AreReaders (n : ℕ) (outs : List LinkOut) (readers : Readers) : Type 0 where
  pub count : length readers.starts ≡ n + 1
  pub end : start_of readers n ≡ length readers.all
  pub few : length readers.all ≤ MAX_PORTS * n
  pub each : (i : ℕ) (link : LinkOut) → i < n → slice_get outs i ≡ Some link → IsRow readers.all (start_of readers i) (start_of readers (i + 1)) link.readers
