-- Beside specs/Turns.antt, what only private functions and proofs cite.
use Rattle.std.specs.Prelude.{ℕ, ◌+◌, ◌*◌}

-- the turn, counted from 1, where a cycle has so many, and so many cycles and turns of the next one are over
abbrev pub turn_at : ℕ → ℕ → ℕ → ℕ
turn_at units cycles unit = cycles * units + unit + 1
