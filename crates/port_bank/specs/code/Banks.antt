-- Beside specs/Banks.antt, what only private functions and proofs cite.
use Rattle.std.specs.Prelude.{ℕ, ◌*◌, List, [], ◌∷◌, ◌++◌, replicate}
use Rattle.logic_four.specs.declared.V4.TheVariants.{Zero, One, Undef, HighZ}
use Rattle.logic_four.specs.declared.V4.{V4}

-- undefined values, and the four values by their codes
abbrev pub blank : ℕ → List V4
blank slots = replicate (2 * slots) Undef ++ (Zero ∷ One ∷ Undef ∷ HighZ ∷ [])
