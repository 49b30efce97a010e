-- The draws of the generator: a multiplicative congruential generator, whose states are its draws.
use Rattle.std.specs.Prelude.{ℕ, zero, suc, ◌*◌, ◌%◌, ◌<◌, ◌≤◌}

-- a draw replaces the state by this, and gives it
abbrev pub next_state : ℕ → ℕ
next_state state = 171 * state % 30269

-- the state after so many draws, which the last of them gave
unfoldable pub draw : ℕ → ℕ → ℕ
draw state zero = state
draw state (suc n) = next_state (draw state n)

-- the generator is never at 0
pub record IsState (state : ℕ) : Type 0 where
  pub positive : 1 ≤ state
  pub below : state < 30269
