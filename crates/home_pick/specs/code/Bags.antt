-- Beside specs/Bags.antt, what only private functions and proofs cite.
use Rattle.std.specs.Prelude.{◌≢◌, ℕ, ◌<◌, ◌==◌, if◌then◌else◌, List, length, slice_index_or}
use Rattle.std.specs.List.{sum_by}
use Rattle.home_pick.specs.declared.bags.Entry.{Entry}

-- how often an entry counts a number
abbrev pub counted : ℕ → Entry → ℕ
counted key e = if e.key == key then e.count else 0

-- how often a number stands in the bag
abbrev pub times : List Entry → ℕ → ℕ
times bag key = sum_by (counted key) bag

-- the entry at a place
abbrev pub entry_at : List Entry → ℕ → Entry
entry_at bag k = slice_index_or bag k (record { key = 0; count = 0 })

-- no number has two entries
pub record IsBag (bag : List Entry) : Type 0 where
  pub once : (j k : ℕ) → j < k → k < length bag → (entry_at bag j).key ≢ (entry_at bag k).key
