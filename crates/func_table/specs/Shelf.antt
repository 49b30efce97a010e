-- A shelf of tables, each of which has a number.
use Rattle.std.specs.Prelude.{◌≡◌, ◌⊎◌, ℕ, ◌<◌, List, [], ◌∷◌, ◌++◌, length, Some, slice_get, All, AllPairs}
use Rattle.func_table.specs.{declared.table.Table.Table, Entries.AreOther}

-- no table stands twice: every two of them differ in an entry
abbrev pub AreDifferent : List Table → Type 0
AreDifferent tables = AllPairs AreOther tables

-- the number n of a table in a shelf that holds the new tables after it held the old ones: an equal
-- table has it and the shelf stays; or no equal one is there, and the table gets the next number
abbrev pub IsNumbered : Table → List Table → List Table → ℕ → Type 0
IsNumbered table old new n =
    ((slice_get old n ≡ Some table) × (new ≡ old)) ⊎
    (All (λ t. AreOther t table) old × (n ≡ length old) × (new ≡ old ++ table ∷ []))

-- the tables differ, and stand in the order in which they are first used, where a place uses a table
pub record AreInOrderOfUse (Uses : ℕ → ℕ → Type 0) (tables : List Table) : Type 0 where
  pub different : AreDifferent tables
  pub used : (n : ℕ) → n < length tables → (i : ℕ) × Uses i n
  pub before : (i m n : ℕ) → Uses i n → m < n → (j : ℕ) × (j < i) × Uses j m
