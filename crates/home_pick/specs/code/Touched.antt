-- Ports to which anything pulls, kept in a list.
use Rattle.std.specs.Prelude.{◌≢◌, ◌<◌, ◌==◌, ℕ, nat_lt, Bool, if◌then◌else◌, false, List, length, slice_index}
use Rattle.std.specs.List.{Contains}
use Rattle.home_pick.specs.declared.pulls.Pulls.{Pulls}

-- each port that anything pulls to is among those that were touched
pub record AreTouched (pulls : Pulls) : Type 0 where
  pub within : (k : ℕ) → k < length pulls.touched → slice_index pulls.touched k < length pulls.at
  pub whole : (port : ℕ) → port < length pulls.at → slice_index pulls.at port ≢ 0 → Contains pulls.touched port

-- whether the second of two ports is better than the first: it has more, or as much and is less, where the first isn't the own one
abbrev pub is_better : List ℕ → ℕ → ℕ → ℕ → Bool
is_better at own best other =
    if slice_index at best == slice_index at other
    then (if best == own then false else nat_lt other best)
    else nat_lt (slice_index at best) (slice_index at other)
