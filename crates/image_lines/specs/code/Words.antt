-- Beside specs/Words.antt, what only private functions and proofs cite.
use Rattle.std.specs.Prelude.{ℕ, List, ◌∷◌}

-- a token with the space before it
unfoldable pub spaced : List ℕ → List ℕ
spaced word = 32 ∷ word
