-- A fact of each lane. Of one lane it is the fact itself, and of thirty it is the fact of every number below 30.
use Rattle.std.specs.Prelude.{ℕ, zero, suc, ◌<◌}

-- it holds of each lane, counted from 0
abbrev pub InEach : ℕ → (ℕ → Type 0) → Type 0
InEach zero P = (l : ℕ) → l < 0 → P l
InEach (suc zero) P = P 0
InEach (suc (suc n)) P = (l : ℕ) → l < suc (suc n) → P l
