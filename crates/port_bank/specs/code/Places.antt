-- Beside specs/Places.antt, what only private functions and proofs cite.
use Rattle.std.specs.Prelude.{◌≡◌, ℕ, ◌+◌, ◌*◌, ◌/◌, ◌%◌, ◌<◌, ◌==◌, if◌then◌else◌, List, [], ◌∷◌, ◌++◌, length}
use Rattle.logic_four.specs.{declared.V4.V4, Values.value_at}
use Rattle.port_bank.specs.Places.{TwoTurns, Turns, count, lane_values, in_lane}
use Rattle.port_bank.specs.code.Banks.{blank}

-- a number's value: that of its half's place, in the turn if it is even, and else in the turn before
abbrev pub numbered : TwoTurns → ℕ → V4
numbered turns number = if number % 2 == 0 then value_at turns.this (number / 2) else value_at turns.past (number / 2)

-- each place has two values
abbrev pub IsEven : {W : Type 0} → List W → Type 0
IsEven flat = length flat ≡ 2 * (length flat / 2)

-- a value twice
abbrev pub twice : V4 → List V4
twice v = v ∷ v ∷ []

-- in each lane a value is added twice
abbrev pub AddsTwice : {W : Type 0} → ℕ → (W → ℕ → V4) → V4 → List W → List W → Type 0
AddsTwice lanes lane v old new = (l : ℕ) → l < lanes → lane_values lane l new ≡ lane_values lane l old ++ twice v

-- in each lane stands what a port has before its first turn
pub record AreBlank {W : Type 0} (lanes : ℕ) (lane : W → ℕ → V4) (slots : ℕ) (places : Turns W) : Type 0 where
  pub count : count places ≡ 2 * slots + 4
  pub each : (l : ℕ) → l < lanes → in_lane lane l places ≡ record { this = blank slots; past = blank slots }
