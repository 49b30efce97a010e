-- A function table as its 256 entries.
use Rattle.std.specs.Prelude.{◌≡◌, ℕ, ◌+◌, ◌*◌, ◌^◌, ◌<◌, [], ◌∷◌, length, take, All, Option, Some, None}
use Rattle.logic_four.specs.{declared.V4.V4, declared.V4.TheVariants.Undef, declared.Kind.Kind, Values.code_of, Gates.gate_value, Packed.packed_value}
use Rattle.func_table.specs.declared.table.Table.{Table}

-- the value of entry e
unfoldable pub entry_of : Table → ℕ → V4
entry_of table e = packed_value table.words e

-- two tables have the same 256 entries
abbrev pub AreAlike : Table → Table → Type 0
AreAlike table other = (e : ℕ) → e < 256 → entry_of table e ≡ entry_of other e

-- two tables differ in an entry
abbrev pub AreOther : Table → Table → Type 0
AreOther table other = ¬ AreAlike table other

-- the number of the entry for four operands, and its value
abbrev pub place_of : V4 → V4 → V4 → V4 → ℕ
place_of a b c d = code_of a + 4 * code_of b + 16 * code_of c + 64 * code_of d

unfoldable pub entry_for : Table → V4 → V4 → V4 → V4 → V4
entry_for table a b c d = entry_of table (place_of a b c d)

-- the value that a table has for four operands, and undefined where there is no table
abbrev pub looked_up : Option Table → V4 → V4 → V4 → V4 → V4
looked_up None a b c d = Undef
looked_up (Some table) a b c d = entry_for table a b c d

-- the table has eight words of 64 bits
pub record HasWords (table : Table) : Type 0 where
  pub eight : length table.words ≡ 8
  pub words : All (λ word. word < 2 ^ 64) table.words

-- the table of a kind, which is one: for every four operands it has what the kind answers for the first n of them
pub record IsTableOf (kind : Kind) (n : ℕ) (table : Table) : Type 0 where
  pub answers : (a b c d : V4) → entry_for table a b c d ≡ gate_value kind (take n (a ∷ b ∷ c ∷ d ∷ []))
  pub words : HasWords table
