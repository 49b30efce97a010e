use Rattle.std.proofs.Common.{◌≡◌, ℕ, ◌<◌, ◌≤◌, Some, slice_get, slice_index_or}
use Rattle.port_walk.proofs.readers.first_lagging.Given as goal

abbrev pub invariant-readers : goal.invariant-readers
invariant-readers l = (i r : ℕ) → i < l.reader-index → slice_get l.readers i ≡ Some r → l.turns ≤ slice_index_or l.known r 0
