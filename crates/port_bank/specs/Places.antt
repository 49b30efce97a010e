-- Places of two values each, which lie side by side: a value of the turn, and one of the turn before. A place of a
-- packed port has such values in each lane.
use Rattle.std.specs.Prelude.{ℕ, ◌+◌, ◌*◌, ◌/◌, Bool, not, if◌then◌else◌, List, length, map}
use Rattle.std.specs.List.{range_with_len}
use Rattle.logic_four.specs.{declared.V4.V4, Values.value_at}

-- the values of all places, in two lists
pub record TwoTurns : Type 0 where
  pub this : List V4
  pub past : List V4

-- which of the two values: the first one is number 0
abbrev pub number_of : Bool → ℕ
number_of second = if second then 1 else 0

-- the first values of all places, or the second ones
unfoldable pub half : List V4 → ℕ → List V4
half flat number = map (λ place. value_at flat (2 * place + number)) (range_with_len 0 (length flat / 2))

-- those of the turn are the second ones, or the first ones
abbrev pub two_turns : List V4 → Bool → TwoTurns
two_turns flat second = record { this = half flat (number_of second); past = half flat (number_of (not second)) }

-- the words of all places, two for each place, and whether those of the turn are the second ones
pub record Turns (W : Type 0) : Type 0 where
  pub flat : List W
  pub second : Bool

-- the number of places
abbrev pub count : {W : Type 0} → Turns W → ℕ
count places = length places.flat / 2

-- the values of a lane
abbrev pub lane_values : {W : Type 0} → (W → ℕ → V4) → ℕ → List W → List V4
lane_values lane l flat = map (λ w. lane w l) flat

abbrev pub in_lane : {W : Type 0} → (W → ℕ → V4) → ℕ → Turns W → TwoTurns
in_lane lane l places = two_turns (lane_values lane l places.flat) places.second
