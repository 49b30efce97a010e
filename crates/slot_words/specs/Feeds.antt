-- What is asked of the numbers that words hold, and of what they are made from.
use Rattle.std.specs.Prelude.{◌≡◌, Bool, ℕ, ◌+◌, ◌<◌, ◌≤◌, ◌^◌, false, true}
use Rattle.limits.specs.declared.TheConstants.{MAX_BANKS}
use Rattle.image_defs.specs.{WellFormed.IsWellFormed, declared.image.Image.Image}

-- each run has few turns, and each send few banks
pub record AreFew {D : Type 0} (runs : Image → D → Type 0) (turns : Image → D → ℕ) (most : ℕ) : Type 0 where
  pub short : (image : Image) (feed : D) → IsWellFormed image → runs image feed → turns image feed < 2 ^ 59
  pub banks : most ≤ MAX_BANKS

-- a number is of the turn in which it is sent, and of none of as many turns after it as there may be banks. Of the
-- first so many turns the number 0 is of none
pub record TellsTurns {D : Type 0} (sent : Image → D → ℕ → ℕ → ℕ → ℕ → Type 0) (of_turn : ℕ → ℕ → Bool) (most : ℕ) : Type 0 where
  pub own : (image : Image) (feed : D) (p slot k n : ℕ) → sent image feed p slot k n → of_turn n k ≡ true
  pub apart : (image : Image) (feed : D) (p slot j k n : ℕ) → j < k → k ≤ j + most → sent image feed p slot j n → of_turn n k ≡ false
  pub fresh : (k : ℕ) → 1 ≤ k → k ≤ most → of_turn 0 k ≡ false
