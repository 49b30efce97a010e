-- Beside specs/Once.antt, what only private functions and proofs cite.
use Rattle.std.specs.Prelude.{◌≡◌, ◌==◌, ℕ, ◌<◌, Bool, false, List, length, slice_index_or}
use Rattle.std.specs.List.{list_any}

-- so many marks, of which that at a place is set where one of these has the place as its number
pub record AreMarksOf {X : Type 0} (number : X → ℕ) (places : ℕ) (named : List X) (marks : List Bool) : Type 0 where
  pub count : length marks ≡ places
  pub here : (s : ℕ) → s < length marks → slice_index_or marks s false ≡ list_any (λ x. number x == s) named
