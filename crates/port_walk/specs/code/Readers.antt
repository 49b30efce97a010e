-- Beside specs/Rows.antt, what only private functions and proofs cite: which reader of a send lags, by what is known of how
-- many turns each port has finished.
use Rattle.std.specs.Prelude.{◌≡◌, ℕ, ◌<◌, ◌≤◌, List, slice_index_or}
use Rattle.image_defs.specs.Places.{Stands}
use Rattle.port_walk.specs.declared.upcoming.Upcoming.TheVariants.{Ask, Put, Take, Tell, Done}
use Rattle.port_walk.specs.declared.upcoming.Upcoming.{Upcoming}

-- each reader is known to have finished so many turns
pub record NoneLags (readers known : List ℕ) (turns : ℕ) : Type 0 where
  pub each : (r : ℕ) → Stands readers r → turns ≤ slice_index_or known r 0

-- this is the least reader that isn't
pub record IsFirstLagging (readers known : List ℕ) (turns reader : ℕ) : Type 0 where
  pub reads : Stands readers reader
  pub lags : slice_index_or known reader 0 < turns
  pub least : (r : ℕ) → Stands readers r → r < reader → turns ≤ slice_index_or known r 0

-- what comes next where the Put in this slot is missing
abbrev pub IsNextOfSend : List ℕ → List ℕ → ℕ → ℕ → Upcoming → Type 0
IsNextOfSend readers known turns slot (Ask reader) = IsFirstLagging readers known turns reader
IsNextOfSend readers known turns slot (Put s) = NoneLags readers known turns × (s ≡ slot)
IsNextOfSend readers known turns slot (Take s) = ⊥
IsNextOfSend readers known turns slot Tell = ⊥
IsNextOfSend readers known turns slot Done = ⊥
